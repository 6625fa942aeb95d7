-- What an update gives: acceptance, its code, and a method there and back through its number and its points. Assumes nothing.
use mathlib.Core.Path.{◌≡◌, refl}
use mathlib.Core.Bool.{Bool, true, false, cond}
use Prim.Native.Nat.{ℕ, zero, suc, ◌≤◌}
use native.Mathlib.Omega.{arith}
use lib.Dec.{T, eqb}
use lib.Ieee.{binary32, fits, sub, mul, eq}
use lib.Ieee.Bits.{of_bits-fits}
use lib.Ieee.Fits.{sub-fits, div-fits}
use Rattle.std.specs.Prelude.{Result, Ok, Err}
use Rattle.floats.specs.Floats.{plus_zero}
use Rattle.floats.proofs.Bools.{choose}
use Rattle.coefficients.specs.Coefficients.{all_finite, in_limits}
use Rattle.methods.specs.Methods.{slope, method_number, method_of, points_of, candidate_of, verdict_of, judged_of, code_of}
use Rattle.coefficients.specs.declared.Coefficients.{Coefficients}
use Rattle.methods.specs.declared.Points.{Points}
use Rattle.methods.specs.declared.Method.{Method}
use Rattle.methods.specs.declared.Method.TheVariants.{Direct, OnePoint, TwoPoints}
use Rattle.methods.specs.declared.Undefined.{Undefined}
use Rattle.methods.specs.declared.Rejection.{Rejection}
use Rattle.methods.specs.declared.Rejection.TheVariants.{OutsideLimits, NotFinite, Undefined as UndefinedBy}
use Rattle.coefficients.proofs.Bits.{CoefficientsFit}
use Rattle.coefficients.proofs.Limits.{limits_finite}

-- ---- the verdict on a candidate

-- what is told of a candidate by whether it is within the sensor's limits: the method makes it, and it is finite
pub record Judged (s : ℕ) (m : Method) (c : Coefficients) (within : Bool) : Type 0 where
  pub all_finite_holds : all_finite c ≡ true
  pub limits : in_limits s c ≡ within
  pub made : candidate_of m ≡ Ok c

module _ (s : ℕ) (m : Method) (c : Coefficients) where
  judged : (within : Bool) → judged_of s m ≡ cond within (Ok c) (Err (OutsideLimits c)) → Judged s m c within
  unfolding judged_of verdict_of
  judged within = of within (candidate_of m) refl
    where
      limited : (w : Bool) (d : Coefficients) (f l : Bool) → candidate_of m ≡ Ok d → all_finite d ≡ f → in_limits s d ≡ l
          → cond f (cond l (Ok d) (Err (OutsideLimits d))) (Err NotFinite) ≡ cond w (Ok c) (Err (OutsideLimits c)) → Judged s m c w
      limited true d true true k f l e = record { all_finite_holds = cc; limits = cc; made = cc }
      limited false d true false k f l e = record { all_finite_holds = cc; limits = cc; made = cc }
      limited true d true false k f l e = cc
      limited false d true true k f l e = cc
      limited true d false l₀ k f l e = cc
      limited false d false l₀ k f l e = cc

      of : (w : Bool) (k : Result Coefficients Undefined) → candidate_of m ≡ k → verdict_of s k ≡ cond w (Ok c) (Err (OutsideLimits c)) → Judged s m c w
      of w (Ok d) k e = limited w d (all_finite d) (in_limits s d) k refl refl e
      of true (Err cause) k e = cc
      of false (Err cause) k e = cc

  -- what is accepted is within the limits
  pub accepted : judged_of s m ≡ Ok c → Judged s m c true
  accepted = judged true

  -- what is refused for its limits alone is finite and outside them
  pub outside_limits_holds : judged_of s m ≡ Err (OutsideLimits c) → Judged s m c false
  outside_limits_holds = judged false

  -- and each finite candidate outside them is
  pub fails : candidate_of m ≡ Ok c → all_finite c ≡ true → in_limits s c ≡ false → judged_of s m ≡ Err (OutsideLimits c)
  unfolding judged_of verdict_of
  fails k f l = rw (k, f, l)

-- a candidate in limits is accepted
pub accepts : (s : ℕ) (m : Method) (c : Coefficients) → candidate_of m ≡ Ok c → in_limits s c ≡ true → judged_of s m ≡ Ok c
unfolding judged_of verdict_of
accepts s m c k h = rw (k, limits_finite s c h, h)

-- what a method gives does not depend on the sensor
pub sensor_free : (s t : ℕ) (m : Method) (c d : Coefficients) → judged_of s m ≡ Ok c → judged_of t m ≡ Ok d → c ≡ d
sensor_free s t m c d p q =
    let a : candidate_of m ≡ Ok c = (accepted s m c p).made in
    let b : candidate_of m ≡ Ok d = (accepted t m d q).made in
    cc

-- ---- codes

-- a verdict that accepts, with its coefficients
pub record IsAccepted (v : Result Coefficients Rejection) : Type 0 where
  pub which : Coefficients
  pub is : v ≡ Ok which

-- the code 0 is that of an accepted update
pub code_zero : (v : Result Coefficients Rejection) → code_of v ≡ 0 → IsAccepted v
code_zero (Ok c) e = record { which = c; is = refl }
code_zero (Err (OutsideLimits c)) e = absurd (omega arith)
code_zero (Err NotFinite) e = absurd (omega arith)
code_zero (Err (UndefinedBy cause)) e = absurd (omega arith)

-- and each accepted update has it
pub code_accepted : (v : Result Coefficients Rejection) (c : Coefficients) → v ≡ Ok c → code_of v ≡ 0
code_accepted v c e = rw e

-- any other code is 0x97
pub code_refused : (v : Result Coefficients Rejection) → (code_of v ≡ 0 → ⊥) → code_of v ≡ 0x97
code_refused (Ok c) n = absurd (n refl)
code_refused (Err (OutsideLimits c)) n = refl
code_refused (Err NotFinite) n = refl
code_refused (Err (UndefinedBy cause)) n = refl

-- ---- floats of the format

-- points that fit the format
pub record PointsFit (p : Points) : Type 0 where
  pub fits_x1 : T (fits binary32 p.x1)
  pub fits_y1 : T (fits binary32 p.y1)
  pub fits_x2 : T (fits binary32 p.x2)
  pub fits_y2 : T (fits binary32 p.y2)

-- a method whose floats fit the format: only the coefficients of the direct method are passed on as they are
abbrev pub MethodFits : Method → Type 0
MethodFits (Direct a b c) = T (fits binary32 a) × T (fits binary32 b) × T (fits binary32 c)
MethodFits (OnePoint x1 y1) = T (fits binary32 x1) × T (fits binary32 y1)
MethodFits (TwoPoints x1 y1 x2 y2) = T (fits binary32 x1) × T (fits binary32 y1) × T (fits binary32 x2) × T (fits binary32 y2)

-- a candidate, where there is one, that fits the format
abbrev pub CandidateFits : Result Coefficients Undefined → Type 0
CandidateFits (Ok c) = CoefficientsFit c
CandidateFits (Err cause) = Unit {0}

-- what a method makes of floats of the format fits the format
pub candidate_fits : (m : Method) → MethodFits m → CandidateFits (candidate_of m)
unfolding candidate_of
candidate_fits (Direct a b c) t = record { fits_coefficient1 = t.0; fits_coefficient2 = t.1; fits_coefficient3 = t.2 }
candidate_fits (OnePoint x1 y1) t =
    choose CandidateFits (eq x1 plus_zero) _ _ (λ e. tt)
    (λ e. record { fits_coefficient1 = of_bits-fits binary32 0; fits_coefficient2 = div-fits binary32 y1 x1; fits_coefficient3 = of_bits-fits binary32 0 })
candidate_fits (TwoPoints x1 y1 x2 y2) t =
    choose CandidateFits (eq x1 x2) _ _ (λ e. tt)
    (λ e. record {
      fits_coefficient1 = sub-fits binary32 y1 (mul binary32 (slope x1 y1 x2 y2) x1);
      fits_coefficient2 = div-fits binary32 (sub binary32 y1 y2) (sub binary32 x1 x2);
      fits_coefficient3 = of_bits-fits binary32 0;
    })

-- so does what it makes
pub made_fits : (m : Method) (c : Coefficients) → MethodFits m → candidate_of m ≡ Ok c → CoefficientsFit c
made_fits m c t e = rw e at (candidate_fits m t)

-- a method of coefficients and points that fit the format
pub method_fits : (n : ℕ) (c : Coefficients) (p : Points) → CoefficientsFit c → PointsFit p → MethodFits (method_of n c p)
unfolding method_of
method_fits n c p t u =
    choose MethodFits (eqb n 1) _ _ (λ e. (u.fits_x1, u.fits_y1))
    (λ e. choose MethodFits (eqb n 2) _ _ (λ e. (u.fits_x1, u.fits_y1, u.fits_x2, u.fits_y2)) (λ e. (t.fits_coefficient1, t.fits_coefficient2, t.fits_coefficient3)))

-- the points of a method whose floats fit the format
pub points_fit : (m : Method) → MethodFits m → PointsFit (points_of m)
points_fit (Direct a b c) t = record { fits_x1 = of_bits-fits binary32 0; fits_y1 = of_bits-fits binary32 0; fits_x2 = of_bits-fits binary32 0; fits_y2 = of_bits-fits binary32 0 }
points_fit (OnePoint x1 y1) t = record { fits_x1 = t.0; fits_y1 = t.1; fits_x2 = of_bits-fits binary32 0; fits_y2 = of_bits-fits binary32 0 }
points_fit (TwoPoints x1 y1 x2 y2) t = record { fits_x1 = t.0; fits_y1 = t.1; fits_x2 = t.2; fits_y2 = t.3 }

-- ---- methods and their numbers

-- a method's number is 0, 1 or 2
pub number_le : (m : Method) → method_number m ≤ 2
number_le (Direct a b c) = omega arith
number_le (OnePoint x1 y1) = omega arith
number_le (TwoPoints x1 y1 x2 y2) = omega arith

-- a number names a method of that number
pub number_and_back : (n : ℕ) (c : Coefficients) (p : Points) → n ≤ 2 → method_number (method_of n c p) ≡ n
unfolding method_of
number_and_back zero c p h = refl
number_and_back (suc zero) c p h = refl
number_and_back (suc (suc zero)) c p h = refl
number_and_back (suc (suc (suc n))) c p h = absurd (omega arith)

-- a method comes back from its number, its points and the coefficients that it makes, which only the direct method takes
pub method_and_back : (m : Method) (c : Coefficients) → candidate_of m ≡ Ok c → method_of (method_number m) c (points_of m) ≡ m
unfolding method_of candidate_of
method_and_back (Direct a b d) c k = cc
method_and_back (OnePoint x1 y1) c k = refl
method_and_back (TwoPoints x1 y1 x2 y2) c k = refl
