-- After i turns the first i words are the first i registers. Assumes nothing.
use mathlib.Core.Path.{◌≡◌}
use Prim.Native.Nat.{◌≤◌}
use lib.ListN.{length, take}
use Rattle.registers.specs.Registers.{register_of}
use Rattle.service.specs.Reads.{shown_from}
use Rattle.reads.proofs.fill.Given as goal

abbrev pub invariant-loop-i : goal.invariant-loop-i
invariant-loop-i l = (l.i-end ≡ length l.initial.words) × (l.i ≤ length l.initial.words) × (length l.words ≡ length l.initial.words) × (take l.i l.words ≡ shown_from (register_of l.owner l.device l.sensor) l.offset l.i)
