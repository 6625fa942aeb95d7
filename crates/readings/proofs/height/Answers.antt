-- The constants compute to the nearest floats. Assumes nothing.
use mathlib.Core.Path.{refl}
use lib.Ieee.{of_bits, round}
use Rattle.readings.specs.Readings.{height_of}
use Rattle.floats.specs.Floats.{near}
use Rattle.readings.proofs.height.Goals as goal

pub returns : goal.returns
unfolding height_of near of_bits round
returns c = refl
