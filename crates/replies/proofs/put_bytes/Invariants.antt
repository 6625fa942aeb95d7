-- After i turns of the loop the first i bytes are stored. Assumes nothing.
use mathlib.Core.Path.{◌≡◌}
use Prim.Native.Nat.{◌≤◌}
use lib.ListN.{length, take}
use lib.Seq.{sets}
use Rattle.replies.proofs.put_bytes.Given as goal

abbrev pub invariant-loop-i : goal.invariant-loop-i
invariant-loop-i l =
    (l.i-end ≡ length l.bytes)
    × (l.i ≤ length l.bytes)
    × (length l.reply ≡ length l.initial.reply)
    × (l.reply ≡ sets l.initial.reply 0 (take l.i l.bytes))
