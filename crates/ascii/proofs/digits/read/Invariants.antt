-- The loop's invariant: all characters are digits where those so far were and those from 2i on are; the first i pairs are stored; and the sum of the
-- bytes that are left goes on from the sum so far. Assumes nothing.
use mathlib.Core.Path.{◌≡◌}
use mathlib.Core.Bool.{true, ◌&&◌}
use Prim.Native.Nat.{◌≤◌, ◌<◌, ◌+◌, ◌*◌, ◌/◌, ◌%◌}
use lib.Dec.{ltb}
use lib.ListN.{length, take, drop}
use lib.Seq.{sets}
use Rattle.ascii.specs.Ascii.{sum_of, digits, spelt}
use Rattle.ascii.specs.Steps.{stored_of}
use Rattle.ascii.proofs.digits.read.Given as goal

abbrev pub invariant-loop-i : goal.invariant-loop-i
invariant-loop-i l = (l.i-end ≡ length l.chars / 2)
    × (l.i ≤ length l.chars / 2)
    × (length l.bytes ≡ length l.initial.bytes)
    × (l.sum < 256)
    × (ltb l.all 16 && digits (drop (2 * l.i) l.chars) ≡ digits l.chars)
    × (l.bytes ≡ sets l.initial.bytes 0 (take l.i (stored_of l.chars)))
    × (digits l.chars ≡ true → (l.sum + sum_of (spelt (drop (2 * l.i) l.chars))) % 256 ≡ sum_of (spelt l.chars) % 256)
