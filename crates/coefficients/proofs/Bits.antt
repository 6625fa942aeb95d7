-- Coefficients and calibrations: finite each, of the format each, and the same where their bits are. Assumes nothing.
use mathlib.Core.Path.{◌≡◌, refl, ap₂}
use mathlib.Core.Bool.{true, ◌&&◌}
use lib.Dec.{T, eqb}
use lib.Ieee.{binary32, fits}
use borrow.Author.Tests.{eq-eqb, eqb-true}
use Rattle.floats.specs.Floats.{finite, same_bits}
use Rattle.floats.proofs.Bools.{both}
use Rattle.floats.proofs.Words.{same_bits_lem, same_bits_refl}
use Rattle.coefficients.specs.Coefficients.{coefficients, all_finite, calibration_of, coefficients_of, same_coefficients, same_calibration}
use Rattle.coefficients.specs.declared.Coefficients.{Coefficients}
use Rattle.coefficients.specs.declared.Calibration.{Calibration}

-- coefficients each of which is finite
pub record CoefficientsFinite (c : Coefficients) : Type 0 where
  pub finite_coefficient1 : T (finite c.coefficient1)
  pub finite_coefficient2 : T (finite c.coefficient2)
  pub finite_coefficient3 : T (finite c.coefficient3)

-- finite coefficients are finite each
pub each_finite : (c : Coefficients) → all_finite c ≡ true → CoefficientsFinite c
unfolding all_finite
each_finite c e =
    let t = both (finite c.coefficient1 && finite c.coefficient2) (finite c.coefficient3) e in
    let u = both (finite c.coefficient1) (finite c.coefficient2) t.0 in
    record { finite_coefficient1 = rw u.0 tt; finite_coefficient2 = rw u.1 tt; finite_coefficient3 = rw t.1 tt }

-- coefficients that fit the format
pub record CoefficientsFit (c : Coefficients) : Type 0 where
  pub fits_coefficient1 : T (fits binary32 c.coefficient1)
  pub fits_coefficient2 : T (fits binary32 c.coefficient2)
  pub fits_coefficient3 : T (fits binary32 c.coefficient3)

-- coefficients with the same bits are the same
pub same_coefficients_lem : (c d : Coefficients) → CoefficientsFit c → CoefficientsFit d → same_coefficients c d ≡ true → c ≡ d
unfolding same_coefficients
same_coefficients_lem c d fc fd e =
    let t = both (same_bits c.coefficient1 d.coefficient1 && same_bits c.coefficient2 d.coefficient2) (same_bits c.coefficient3 d.coefficient3) e in
    let u = both (same_bits c.coefficient1 d.coefficient1) (same_bits c.coefficient2 d.coefficient2) t.0 in
    let x : c.coefficient1 ≡ d.coefficient1 = same_bits_lem c.coefficient1 d.coefficient1 fc.fits_coefficient1 fd.fits_coefficient1 u.0 in
    let y : c.coefficient2 ≡ d.coefficient2 = same_bits_lem c.coefficient2 d.coefficient2 fc.fits_coefficient2 fd.fits_coefficient2 u.1 in
    let z : c.coefficient3 ≡ d.coefficient3 = same_bits_lem c.coefficient3 d.coefficient3 fc.fits_coefficient3 fd.fits_coefficient3 t.1 in
    let k : coefficients c.coefficient1 c.coefficient2 c.coefficient3 ≡ coefficients d.coefficient1 d.coefficient2 d.coefficient3 = cc in
    k

-- coefficients have their own bits
pub same_coefficients_refl : (c : Coefficients) → same_coefficients c c ≡ true
unfolding same_coefficients
same_coefficients_refl c = simp same_bits_refl

-- calibrations with the same bits are the same
pub same_calibration_lem : (c d : Calibration) → CoefficientsFit (coefficients_of c) → CoefficientsFit (coefficients_of d) → same_calibration c d ≡ true → c ≡ d
unfolding same_calibration
same_calibration_lem c d fc fd e =
    let t = both (same_coefficients (coefficients_of c) (coefficients_of d)) (eqb c.time d.time) e in
    let x : coefficients_of c ≡ coefficients_of d = same_coefficients_lem (coefficients_of c) (coefficients_of d) fc fd t.0 in
    ap₂ calibration_of x (eqb-true c.time d.time t.1)

-- a calibration has its own bits
pub same_calibration_refl : (c : Calibration) → same_calibration c c ≡ true
unfolding same_calibration
same_calibration_refl c = rw (same_coefficients_refl (coefficients_of c)) (eq-eqb c.time c.time refl)
