-- Each arm is a case of the definition, with the float nearest to its factor. Assumes nothing.
use lib.Ieee.{of_bits, round}
use Rattle.parameters.specs.Parameters.{converted}
use Rattle.floats.specs.Floats.{near}
use Rattle.parameters.proofs.convert.Goals as goal

pub returns-in-2 : goal.returns-in-2
unfolding converted near of_bits round
returns-in-2 c = simp c.in-2.is

pub returns-in-19 : goal.returns-in-19
unfolding converted near of_bits round
returns-in-19 c = simp c.in-19.is

pub returns-in-20 : goal.returns-in-20
unfolding converted near of_bits round
returns-in-20 c = simp c.in-20.is

pub returns-in-21 : goal.returns-in-21
unfolding converted near of_bits round
returns-in-21 c = simp c.in-21.is

pub returns-in-22 : goal.returns-in-22
unfolding converted near of_bits round
returns-in-22 c = simp c.in-22.is
