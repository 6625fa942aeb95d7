-- From where the loop stands, the part ends where it ends from the place. Assumes nothing.
use mathlib.Core.Path.{◌≡◌}
use Rattle.text.specs.Text.{part_end_of}
use Rattle.text.proofs.part_end.Given as goal

abbrev pub invariant-loop-end : goal.invariant-loop-end
invariant-loop-end l = part_end_of l.text l.end l.mark ≡ part_end_of l.text l.at l.mark
