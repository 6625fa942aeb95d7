-- `printout::put_words`: the invariant says what is left, the words from i on, stored over the buffer, give the whole. Assumes nothing.
use mathlib.Core.Path.{◌≡◌}
use Prim.Native.Nat.{◌*◌}
use lib.ListN.{length, drop}
use lib.Seq.{sets}
use Rattle.words.specs.Bytes.{words_of}
use Rattle.printout.proofs.put_words.Given as goal

abbrev pub invariant-loop-i : goal.invariant-loop-i
invariant-loop-i l =
    (length l.words ≡ length l.initial.words)
    × (sets l.words l.i (words_of (drop (2 * l.i) l.bytes)) ≡ sets l.initial.words 0 (words_of l.bytes))
