-- What the limits say of coefficients, and what the defaults are. Assumes nothing.
use mathlib.Core.Path.{◌≡◌, refl}
use mathlib.Core.Bool.{Bool, true, false, ◌&&◌, cond}
use Prim.Native.Nat.{ℕ, zero, suc, ◌≤◌}
use native.Mathlib.Omega.{arith}
use lib.Dec.{eqb}
use lib.IntN.{ℤ}
use lib.Ieee.{Float, nan, inf, fin, binary32, round, of_bits, to_bits, le}
use lib.Ieee.Bits.{of_bits-fits}
use lib.Ieee.Fits.{round-fits}
use borrow.Author.Tests.{eqb-true}
use Rattle.floats.specs.Floats.{near, near_minus, plus_zero, finite, is_plus_zero, within}
use Rattle.coefficients.specs.Coefficients.{coefficients, all_finite, defaults_of, in_limits}
use Rattle.coefficients.specs.declared.Coefficients.{Coefficients}
use Rattle.floats.proofs.Bools.{no, both, by_number}
use Rattle.coefficients.proofs.Bits.{CoefficientsFit}

-- the row of the table that the sensor's number picks
by_row : {G : Type 0} (s : ℕ) (a b c d : Bool) → (s ≡ 1 → a ≡ true → G) → (s ≡ 2 → b ≡ true → G) → (s ≡ 3 → c ≡ true → G) → (s ≡ 4 → d ≡ true → G)
    → cond (eqb s 1) a (cond (eqb s 2) b (cond (eqb s 3) c (cond (eqb s 4) d false))) ≡ true → G
by_row s a b c d f g h k = by_number s 1 a _ f (by_number s 2 b _ g (by_number s 3 c _ h (by_number s 4 d false k (λ e. absurd (no e)))))

-- between two finite floats lie finite floats
within_finite : (a : Bool) (m : ℕ) (d : ℤ) (b : Bool) (n : ℕ) (e : ℤ) (x : Float) → within (fin a m d) (fin b n e) x ≡ true → finite x ≡ true
unfolding le finite
within_finite a m d b n e nan h = h
within_finite a m d b n e (inf true) h = h
within_finite a m d b n e (inf false) h = h
within_finite a m d b n e (fin sign significand exponent) h = refl

-- a float with the bits of +0.0 is finite
bits_finite : (x : Float) → is_plus_zero x ≡ true → finite x ≡ true
unfolding is_plus_zero to_bits finite
bits_finite nan h = h
bits_finite (inf true) h = h
bits_finite (inf false) h = h
bits_finite (fin sign significand exponent) h = refl

-- a row whose three parts each want a finite float
row_finite : (x y z : Float) (p q r : Bool) → (p ≡ true → finite x ≡ true) → (q ≡ true → finite y ≡ true) → (r ≡ true → finite z ≡ true)
    → (p && q && r) ≡ true → (finite x && finite y && finite z) ≡ true
row_finite x y z p q r f g h e =
    let t = both (p && q) r e in
    let u = both p q t.0 in
    rw (f u.0, g u.1, h t.1)

-- coefficients in limits are finite
pub limits_finite : (s : ℕ) (c : Coefficients) → in_limits s c ≡ true → all_finite c ≡ true
unfolding in_limits all_finite near near_minus round
limits_finite s c =
    let x = c.coefficient1 in
    let y = c.coefficient2 in
    let z = c.coefficient3 in
    by_row s _ _ _ _
    (λ n. row_finite x y z _ _ _ (within_finite _ _ _ _ _ _ x) (within_finite _ _ _ _ _ _ y) (bits_finite z))
    (λ n. row_finite x y z _ _ _ (within_finite _ _ _ _ _ _ x) (within_finite _ _ _ _ _ _ y) (bits_finite z))
    (λ n. row_finite x y z _ _ _ (within_finite _ _ _ _ _ _ x) (within_finite _ _ _ _ _ _ y) (within_finite _ _ _ _ _ _ z))
    (λ n. row_finite x y z _ _ _ (within_finite _ _ _ _ _ _ x) (within_finite _ _ _ _ _ _ y) (bits_finite z))

-- only sensors 1 to 4 have limits
pub only_sensors : (s : ℕ) (c : Coefficients) → in_limits s c ≡ true → (1 ≤ s) × (s ≤ 4)
unfolding in_limits
only_sensors s c = by_row s _ _ _ _ (λ n h. omega arith) (λ n h. omega arith) (λ n h. omega arith) (λ n h. omega arith)

row_coefficient3 : (a b d e : Float) (c : Coefficients) → (within a b c.coefficient1 && within d e c.coefficient2 && is_plus_zero c.coefficient3) ≡ true → is_plus_zero c.coefficient3 ≡ true
row_coefficient3 a b d e c h = (both (within a b c.coefficient1 && within d e c.coefficient2) (is_plus_zero c.coefficient3) h).1

-- on a sensor other than 3 the third coefficient in limits is +0.0 in every bit
pub coefficient3_is_zero : (s : ℕ) (c : Coefficients) → (s ≡ 3 → ⊥) → in_limits s c ≡ true → is_plus_zero c.coefficient3 ≡ true
unfolding in_limits
coefficient3_is_zero s c other =
    by_row s _ _ _ _ (λ n. row_coefficient3 _ _ _ _ c) (λ n. row_coefficient3 _ _ _ _ c) (λ n h. absurd (other n)) (λ n. row_coefficient3 _ _ _ _ c)

-- so its bits are 0
pub coefficient3_bits : (s : ℕ) (c : Coefficients) → (s ≡ 3 → ⊥) → in_limits s c ≡ true → to_bits binary32 c.coefficient3 ≡ 0
unfolding is_plus_zero
coefficient3_bits s c other h = eqb-true (to_bits binary32 c.coefficient3) 0 (coefficient3_is_zero s c other h)

-- what holds of each of the four sensors holds of a sensor
pub sensor_cases : (P : ℕ → Type 0) → P 1 → P 2 → P 3 → P 4 → (s : ℕ) → 1 ≤ s → s ≤ 4 → P s
sensor_cases P a b c d zero l h = absurd (omega arith)
sensor_cases P a b c d (suc zero) l h = a
sensor_cases P a b c d (suc (suc zero)) l h = b
sensor_cases P a b c d (suc (suc (suc zero))) l h = c
sensor_cases P a b c d (suc (suc (suc (suc zero)))) l h = d
sensor_cases P a b c d (suc (suc (suc (suc (suc s))))) l h = absurd (omega arith)

-- each sensor's defaults are in its limits
pub defaults_in_limits : (s : ℕ) → 1 ≤ s → s ≤ 4 → in_limits s (defaults_of s) ≡ true
unfolding in_limits defaults_of near near_minus round of_bits le is_plus_zero to_bits
defaults_in_limits = sensor_cases (λ s. in_limits s (defaults_of s) ≡ true) refl refl refl refl

-- the defaults fit the format
pub defaults_fit : (s : ℕ) → CoefficientsFit (defaults_of s)
unfolding defaults_of near
defaults_fit s = go (eqb s 3)
  where
    go : (b : Bool) → CoefficientsFit (cond b (coefficients plus_zero plus_zero plus_zero) (coefficients plus_zero (near 1 1) plus_zero))
    go true = record { fits_coefficient1 = of_bits-fits binary32 0; fits_coefficient2 = of_bits-fits binary32 0; fits_coefficient3 = of_bits-fits binary32 0 }
    go false = record { fits_coefficient1 = of_bits-fits binary32 0; fits_coefficient2 = round-fits binary32 false 1 1; fits_coefficient3 = of_bits-fits binary32 0 }
