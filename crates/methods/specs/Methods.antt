-- The methods of calibration and the verdict on an update. Document 01, "Calibration", 0xE001. Assumes nothing.
use Rattle.std.specs.Prelude.{cond, ℕ, eqb, Float, List, [], ◌∷◌, Result, Ok, Err}
use Rattle.std.specs.Float.{binary32}
use Rattle.std.specs.Float.Ieee.{sub, mul, div, eq}
use Rattle.floats.specs.Floats.{plus_zero}
use Rattle.coefficients.specs.Coefficients.{coefficients, all_finite, in_limits}
use Rattle.coefficients.specs.declared.Coefficients.{Coefficients}
use Rattle.methods.specs.declared.Points.{Points}
use Rattle.methods.specs.declared.Method.{Method}
use Rattle.methods.specs.declared.Method.TheVariants.{Direct, OnePoint, TwoPoints}
use Rattle.methods.specs.declared.Undefined.{Undefined}
use Rattle.methods.specs.declared.Undefined.TheVariants.{ZeroX, SameX}
use Rattle.methods.specs.declared.Rejection.{Rejection}
use Rattle.methods.specs.declared.Rejection.TheVariants.{OutsideLimits, NotFinite, Undefined as UndefinedBy}
use Rattle.refusals.specs.Codes.{byte_of}
use Rattle.refusals.specs.declared.codes.Code.{Code}
use Rattle.refusals.specs.declared.codes.Code.TheVariants.{InvalidCalibration}

abbrev pub points : Float → Float → Float → Float → Points
points a b c d = record { x1 = a; y1 = b; x2 = c; y2 = d }

-- in their order
abbrev pub values_of : Points → List Float
values_of p = p.x1 ∷ p.y1 ∷ p.x2 ∷ p.y2 ∷ []

-- "direct (0)", "one point (1)", "two points (2)": the number that names each method in registers and entries
abbrev pub method_number : Method → ℕ
method_number (Direct a b c) = 0
method_number (OnePoint x1 y1) = 1
method_number (TwoPoints x1 y1 x2 y2) = 2

-- the method that a number names, with the trial coefficients or the points that it uses
unfoldable pub method_of : ℕ → Coefficients → Points → Method
method_of n c p = cond (eqb n 1) (OnePoint p.x1 p.y1) (cond (eqb n 2) (TwoPoints p.x1 p.y1 p.x2 p.y2) (Direct c.coefficient1 c.coefficient2 c.coefficient3))

-- "x1, y1, x2, y2 (+0.0 where the method doesn't use them)"
abbrev pub points_of : Method → Points
points_of (Direct a b c) = points plus_zero plus_zero plus_zero plus_zero
points_of (OnePoint x1 y1) = points x1 y1 plus_zero plus_zero
points_of (TwoPoints x1 y1 x2 y2) = points x1 y1 x2 y2

-- "m = (y1 - y2) / (x1 - x2)"
abbrev pub slope : Float → Float → Float → Float → Float
slope x1 y1 x2 y2 = div binary32 (sub binary32 y1 y2) (sub binary32 x1 x2)

-- "figure 1 = y1 - (m × x1)"
abbrev pub offset : Float → Float → Float → Float
offset m x1 y1 = sub binary32 y1 (mul binary32 m x1)

-- the candidate; none with one point and x1 equal to 0 (either zero), or with two points and x1 equal to x2
unfoldable pub candidate_of : Method → Result Coefficients Undefined
candidate_of (Direct a b c) = Ok (coefficients a b c)
candidate_of (OnePoint x1 y1) = cond (eq x1 plus_zero) (Err ZeroX) (Ok (coefficients plus_zero (div binary32 y1 x1) plus_zero))
candidate_of (TwoPoints x1 y1 x2 y2) = cond (eq x1 x2) (Err SameX) (Ok (coefficients (offset (slope x1 y1 x2 y2) x1 y1) (slope x1 y1 x2 y2) plus_zero))

-- "a candidate not finite or outside the limits, is 0x97"
unfoldable pub verdict_of : ℕ → Result Coefficients Undefined → Result Coefficients Rejection
verdict_of sensor (Ok c) = cond (all_finite c) (cond (in_limits sensor c) (Ok c) (Err (OutsideLimits c))) (Err NotFinite)
verdict_of sensor (Err cause) = Err (UndefinedBy cause)

unfoldable pub judged_of : ℕ → Method → Result Coefficients Rejection
judged_of sensor m = verdict_of sensor (candidate_of m)

-- document 01's code for each rejection, 0x97
abbrev pub code_by : Rejection → Code
code_by (OutsideLimits c) = InvalidCalibration
code_by NotFinite = InvalidCalibration
code_by (UndefinedBy cause) = InvalidCalibration

-- as a byte, for each verdict; 0 is no refusal
abbrev pub code_of : Result Coefficients Rejection → ℕ
code_of (Ok c) = 0
code_of (Err rejection) = byte_of (code_by rejection)
