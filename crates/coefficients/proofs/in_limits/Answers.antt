-- The tests are those of the table, row by row; each literal of the source is the float nearest to its decimal, by computation. Assumes
-- nothing.
use lib.Ieee.{neg, of_bits, round}
use Rattle.floats.specs.Floats.{near_minus, near}
use Rattle.coefficients.specs.Coefficients.{in_limits}
use Rattle.coefficients.proofs.in_limits.Goals as goal

pub returns-in-1 : goal.returns-in-1
unfolding in_limits near_minus neg near of_bits round
returns-in-1 c =
    simp (c.in-1.is, c.within.ensures, c.within-in-1.ensures, c.is_plus_zero.ensures)

pub returns-in-2 : goal.returns-in-2
unfolding in_limits near_minus neg near of_bits round
returns-in-2 c =
    simp (c.in-2.is, c.within-in-2.ensures, c.within-in-2-2.ensures, c.is_plus_zero-in-2.ensures)

pub returns-in-3 : goal.returns-in-3
unfolding in_limits near_minus neg near of_bits round
returns-in-3 c =
    simp (c.in-3.is, c.within-in-3.ensures, c.within-in-3-2.ensures, c.within-in-3-3.ensures)

pub returns-in-4 : goal.returns-in-4
unfolding in_limits near_minus neg near of_bits round
returns-in-4 c =
    simp (c.in-4.is, c.within-in-4.ensures, c.within-in-4-2.ensures, c.is_plus_zero-in-4.ensures)
