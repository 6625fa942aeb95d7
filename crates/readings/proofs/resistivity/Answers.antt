-- Assumes nothing.
use lib.Ieee.{of_bits, round}
use Rattle.readings.specs.Readings.{resistivity_of}
use Rattle.floats.specs.Floats.{near}
use Rattle.readings.proofs.resistivity.Goals as goal

pub returns-then-conductivity : goal.returns-then-conductivity
unfolding resistivity_of near of_bits round
returns-then-conductivity c = simp c.if-conductivity.true

pub returns : goal.returns
unfolding resistivity_of near of_bits round
returns c = simp c.if-conductivity.false
