-- The word of available units holds the units that the table lists, and no others; a parameter has an id where its sensor has it. The tables
-- are short: both are computed. Assumes nothing.
use mathlib.Core.Path.{◌≡◌, refl}
use mathlib.Core.Bool.{Bool, true, false, ◌&&◌, not, cond, beq}
use mathlib.Core.List.{List, [], ◌∷◌}
use Prim.Native.Nat.{ℕ, zero, suc}
use lib.Dec.{eqb, leb}
use Rattle.parameters.specs.Parameters.{count_of, quantity_of, id_of, default_units, units_allowed, available_units, listed_bits}
use Rattle.std.specs.Option.{option_map_or}
use Rattle.parameters.specs.declared.Quantity.{Quantity}
use Rattle.parameters.specs.declared.Quantity.TheVariants.{Temperature, Conductivity, Resistivity, Oxygen, Pressure, Level, Chlorophyll}

-- the table's seven rows
abbrev pub rows : List Quantity
rows = Temperature ∷ Conductivity ∷ Resistivity ∷ Oxygen ∷ Pressure ∷ Level ∷ Chlorophyll ∷ []

abbrev pub rows_agree : List Quantity → Bool
rows_agree [] = true
rows_agree (q ∷ rest) = cond (eqb (available_units q) (listed_bits q 128)) (cond (units_allowed q (default_units q)) (rows_agree rest) false) false

-- each row's word is the bits of its units, and its default is one of them
pub available_is_listed : rows_agree rows ≡ true
available_is_listed = refl

-- parameter k of a sensor has an id just where k is at most the sensor's number of parameters
abbrev pub numbered : ℕ → ℕ → Bool
numbered sensor zero = true
numbered sensor (suc k) = beq (leb (suc k) (count_of sensor)) (not (eqb (option_map_or id_of (quantity_of sensor (suc k)) 0) 0)) && numbered sensor k

pub parameters_numbered : numbered 1 9 && numbered 2 9 && numbered 3 9 && numbered 4 9 ≡ true
unfolding count_of quantity_of
parameters_numbered = refl
