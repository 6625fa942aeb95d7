-- The coefficients of a sensor and their limits. Document 01, "Figures and limits". Assumes nothing.
use Rattle.std.specs.Prelude.{Bool, false, ◌&&◌, cond, ℕ, eqb, Float, List, [], ◌∷◌}
use Rattle.floats.specs.Floats.{near, near_minus, plus_zero, finite, same_bits, is_plus_zero, within}
use Rattle.coefficients.specs.declared.Coefficients.{Coefficients}
use Rattle.coefficients.specs.declared.Calibration.{Calibration}

-- document 01's figures 1, 2 and 3
abbrev pub coefficients : Float → Float → Float → Coefficients
coefficients a b c = record { coefficient1 = a; coefficient2 = b; coefficient3 = c }

-- in their order
abbrev pub values_of : Coefficients → List Float
values_of c = c.coefficient1 ∷ c.coefficient2 ∷ c.coefficient3 ∷ []

unfoldable pub all_finite : Coefficients → Bool
all_finite c = finite c.coefficient1 && finite c.coefficient2 && finite c.coefficient3

-- equality in every bit
unfoldable pub same_coefficients : Coefficients → Coefficients → Bool
same_coefficients c d = same_bits c.coefficient1 d.coefficient1 && same_bits c.coefficient2 d.coefficient2 && same_bits c.coefficient3 d.coefficient3

-- document 01's "figures and time", which replay passes on
abbrev pub calibration_of : Coefficients → ℕ → Calibration
calibration_of c time = record { coefficient1 = c.coefficient1; coefficient2 = c.coefficient2; coefficient3 = c.coefficient3; time = time }

abbrev pub coefficients_of : Calibration → Coefficients
coefficients_of c = coefficients c.coefficient1 c.coefficient2 c.coefficient3

-- "figures or last times differ in any bit"
unfoldable pub same_calibration : Calibration → Calibration → Bool
same_calibration c d = same_coefficients (coefficients_of c) (coefficients_of d) && eqb c.time d.time

-- the table's defaults
unfoldable pub defaults_of : ℕ → Coefficients
defaults_of sensor = cond (eqb sensor 3) (coefficients plus_zero plus_zero plus_zero) (coefficients plus_zero (near 1 1) plus_zero)

-- the table's limits, inclusive; "where figure 3 is +0.0, only those bits are in limits"; no other sensor has figures
unfoldable pub in_limits : ℕ → Coefficients → Bool
in_limits sensor c =
    cond (eqb sensor 1) (within (near_minus 100 1) (near 100 1) c.coefficient1 && within (near 25 100) (near 4 1) c.coefficient2 && is_plus_zero c.coefficient3)
    (cond (eqb sensor 2) (within (near_minus 2 10) (near 2 10) c.coefficient1 && within (near 85 100) (near 120 100) c.coefficient2 && is_plus_zero c.coefficient3)
    (cond (eqb sensor 3) (within (near_minus 10 1) (near 10 1) c.coefficient1 && within (near_minus 10000 1) (near 10000 1) c.coefficient2 && within (near_minus 10 1) (near 2000 1) c.coefficient3)
    (cond (eqb sensor 4) (within (near_minus 100 1) (near 100 1) c.coefficient1 && within (near 125 1000) (near 8 1) c.coefficient2 && is_plus_zero c.coefficient3)
    false)))
