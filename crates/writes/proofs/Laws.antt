-- What a write keeps: a valid setup valid, one of the format of the format, and the coefficients in force unless it journals; and the codes
-- of a refusal. Assumes nothing.
use mathlib.Core.Path.{◌≡◌, refl, ap, subst}
use mathlib.Core.Bool.{true, ◌&&◌}
use mathlib.Core.List.{List, [], ◌∷◌}
use Prim.Native.Nat.{ℕ, ◌≤◌}
use native.Mathlib.Omega.{arith}
use lib.Dec.{T, eqb, ltb}
use lib.Ieee.{Float, binary32, fits}
use Rattle.std.specs.Prelude.{Option, Some, None}
use Rattle.refusals.specs.declared.codes.Code.{Code}
use Rattle.floats.specs.Floats.{finite, pattern}
use Rattle.floats.proofs.Bools.{both, choose}
use Rattle.floats.proofs.Words.{float_of_finite, float_of_fits}
use Rattle.coefficients.specs.Coefficients.{all_finite}
use Rattle.coefficients.specs.declared.Coefficients.{Coefficients}
use Rattle.methods.specs.declared.Points.{Points}
use Rattle.coefficients.proofs.Bits.{CoefficientsFit}
use Rattle.methods.proofs.Candidates.{PointsFit, MethodFits, accepted, outside_limits_holds, made_fits, method_fits}
use Rattle.entries.specs.Entries.{points_finite, valid_entry, replaced_by}
use Rattle.entries.specs.declared.Entry.{Entry}
use Rattle.entries.proofs.Entries.{entry_fits, accepted_valid, accepted_entry_fits}
use Rattle.parameters.specs.Parameters.{parameter_number}
use Rattle.fields.specs.declared.Field.{Field}
use Rattle.sensors.specs.Sensors.{valid_parameters, valid_setup}
use Rattle.sensors.specs.Changes.{restarted, calibrated_at}
use Rattle.sensors.specs.declared.Parameters.{Parameters}
use Rattle.sensors.specs.declared.Active.{Active}
use Rattle.sensors.specs.declared.Setup.{Setup}
use Rattle.sensors.proofs.Setups.{ValidProcedure, ParametersFit, SetupFits, valid_procedure_parts, valid-procedure, valid_parameter_parts, valid_parameter_lem, parameter_valid, valid_setup_parts, parameter_fits}
use Rattle.sensors.proofs.Changed.{with_procedure_valid, with_parameters_valid, with_next_valid, restarted_valid, with_level_valid, with_parameter_valid, units_listed, with_trial_valid, calibrated_valid, with_procedure_fits, with_parameters_fits, with_next_fits, restarted_fits, with_trial_fits, with_parameter_fits, calibrated_fits}
use Rattle.writes.specs.Writes.{trial_at, point_at, with_sentinel, with_float, write_of}
use Rattle.commands.specs.Commands.{code_of, setup_after, entries_of, method_set}
use Rattle.commands.specs.declared.Context.{Context}
use Rattle.commands.specs.declared.Written.{Written}
use Rattle.writes.proofs.Outcomes.{Refuses, some_same, none_some, not_accepted, float_below, Change, same, restart, next, method, float, level, units, Outcome, refused, failed, stored, update, write_outcome}

-- ---- coefficients and points with one value replaced

trial_finite : (c : Coefficients) (o : ℕ) (x : Float) → all_finite c ≡ true → finite x ≡ true → all_finite (trial_at c o x) ≡ true
unfolding trial_at all_finite
trial_finite c o x h f =
    let t = both (finite c.coefficient1 && finite c.coefficient2) (finite c.coefficient3) h in
    let u = both (finite c.coefficient1) (finite c.coefficient2) t.0 in
    choose P (eqb o 10) _ _ (λ e. rw (f, u.1, t.1)) (λ e. choose P (eqb o 12) _ _ (λ e. rw (u.0, f, t.1)) (λ e. rw (u.0, u.1, f)))
  where
    P : Coefficients → Type 0
    P d = all_finite d ≡ true

trial_fits : (c : Coefficients) (o : ℕ) (x : Float) → CoefficientsFit c → T (fits binary32 x) → CoefficientsFit (trial_at c o x)
unfolding trial_at
trial_fits c o x t f =
    choose CoefficientsFit (eqb o 10) _ _ (λ e. record { fits_coefficient1 = f; fits_coefficient2 = t.fits_coefficient2; fits_coefficient3 = t.fits_coefficient3 })
    (λ e. choose CoefficientsFit (eqb o 12) _ _ (λ e. record { fits_coefficient1 = t.fits_coefficient1; fits_coefficient2 = f; fits_coefficient3 = t.fits_coefficient3 })
    (λ e. record { fits_coefficient1 = t.fits_coefficient1; fits_coefficient2 = t.fits_coefficient2; fits_coefficient3 = f }))

point_finite : (p : Points) (o : ℕ) (x : Float) → points_finite p ≡ true → finite x ≡ true → points_finite (point_at p o x) ≡ true
unfolding point_at points_finite
point_finite p o x h f =
    let v = both (finite p.x1 && finite p.y1 && finite p.x2) (finite p.y2) h in
    let t = both (finite p.x1 && finite p.y1) (finite p.x2) v.0 in
    let u = both (finite p.x1) (finite p.y1) t.0 in
    choose P (eqb o 16) _ _ (λ e. rw (f, u.1, t.1, v.1))
    (λ e. choose P (eqb o 18) _ _ (λ e. rw (u.0, f, t.1, v.1))
    (λ e. choose P (eqb o 20) _ _ (λ e. rw (u.0, u.1, f, v.1)) (λ e. rw (u.0, u.1, t.1, f))))
  where
    P : Points → Type 0
    P q = points_finite q ≡ true

point_fits : (p : Points) (o : ℕ) (x : Float) → PointsFit p → T (fits binary32 x) → PointsFit (point_at p o x)
unfolding point_at
point_fits p o x t f =
    choose PointsFit (eqb o 16) _ _ (λ e. record { fits_x1 = f; fits_y1 = t.fits_y1; fits_x2 = t.fits_x2; fits_y2 = t.fits_y2 })
    (λ e. choose PointsFit (eqb o 18) _ _ (λ e. record { fits_x1 = t.fits_x1; fits_y1 = f; fits_x2 = t.fits_x2; fits_y2 = t.fits_y2 })
    (λ e. choose PointsFit (eqb o 20) _ _ (λ e. record { fits_x1 = t.fits_x1; fits_y1 = t.fits_y1; fits_x2 = f; fits_y2 = t.fits_y2 })
    (λ e. record { fits_x1 = t.fits_x1; fits_y1 = t.fits_y1; fits_x2 = t.fits_x2; fits_y2 = f })))

-- ---- parameters with one sentinel replaced

sentinel_valid : (n : ℕ) (q : Parameters) (k : ℕ) (x : Float) → 1 ≤ k → k ≤ 3 → valid_parameters n q ≡ true → finite x ≡ true → valid_parameters n (with_sentinel q k x) ≡ true
unfolding with_sentinel
sentinel_valid n q k x l m h f = with_parameter_valid n q h k _ l m (valid_parameter_lem n k _ f (valid_parameter_parts n k _ (parameter_valid n q k l m h)).1)

sentinel_fits : (q : Parameters) (k : ℕ) (x : Float) → ParametersFit q → T (fits binary32 x) → ParametersFit (with_sentinel q k x)
unfolding with_sentinel
sentinel_fits q k x v f = with_parameter_fits q v k _ f

-- ---- a float stored, of whichever field

float_valid : (n : ℕ) (s : Setup) (o : ℕ) (x : Float) → o ≤ 53 → valid_setup n s ≡ true → finite x ≡ true → valid_setup n (with_float s o x) ≡ true
unfolding with_float
float_valid n s o x l h f =
    choose (λ t. valid_setup n t ≡ true) (ltb o 16) _ _
    (λ e. with_trial_valid n s h _ (trial_finite _ o x p.trial_finite f))
    (λ e. choose (λ t. valid_setup n t ≡ true) (ltb o 30) _ _
    (λ e. with_procedure_valid n s h _
    (valid-procedure n _ (record { trial_finite = p.trial_finite; points_finite_holds = point_finite _ o x p.points_finite_holds f; method_allowed_holds = p.method_allowed_holds })))
    (λ e. with_parameters_valid n s h _ (sentinel_valid n s.parameters (parameter_number o) x (omega arith) (omega arith) (valid_setup_parts n s h).parameters_valid f)))
  where
    p : ValidProcedure n s.procedure
    p = valid_procedure_parts n s.procedure (valid_setup_parts n s h).procedure_valid

float_fits : (s : Setup) (o : ℕ) (x : Float) → SetupFits s → T (fits binary32 x) → SetupFits (with_float s o x)
unfolding with_float
float_fits s o x v f =
    let p = v.fits_procedure in
    choose SetupFits (ltb o 16) _ _ (λ e. with_trial_fits s v _ (trial_fits _ o x p.fits_trial f))
    (λ e. choose SetupFits (ltb o 30) _ _ (λ e. with_procedure_fits s v _ (record { fits_trial = p.fits_trial; fits_points = point_fits _ o x p.fits_points f }))
    (λ e. with_parameters_fits s v _ (sentinel_fits s.parameters (parameter_number o) x v.fits_parameters f)))

-- the calibration in force stays with it
float_active : (s : Setup) (o : ℕ) (x : Float) → (with_float s o x).active ≡ s.active
unfolding with_float
float_active s o x = choose (λ (t : Setup). t.active ≡ s.active) (ltb o 16) _ _ (λ e. refl) (λ e. choose (λ (t : Setup). t.active ≡ s.active) (ltb o 30) _ _ (λ e. refl) (λ e. refl))

-- ---- a value stored

change_valid : (sensor : ℕ) (s : Setup) (o high low : ℕ) {t : Setup} → Change sensor s o high low t → valid_setup sensor s ≡ true → valid_setup sensor t ≡ true
change_valid n s o high low (same i) h = h
change_valid n s o high low (restart mode i) h = restarted_valid n s h mode
change_valid n s o high low (next i) h = with_next_valid n s h (pattern high low)
change_valid n s o high low (method i m) h =
    let p = valid_procedure_parts n s.procedure (valid_setup_parts n s h).procedure_valid in
    with_procedure_valid n s h _ (valid-procedure n _ (record { trial_finite = p.trial_finite; points_finite_holds = p.points_finite_holds; method_allowed_holds = m }))
change_valid n s o high low (float x a f) h = float_valid n s o x (float_below a) h (float_of_finite high low x f)
change_valid n s o high low (level r p l) h = with_parameters_valid n s h _ (with_level_valid n s.parameters (valid_setup_parts n s h).parameters_valid high l)
change_valid n s o high low (units k r i p u) h =
    let q = (valid_setup_parts n s h).parameters_valid in
    with_parameters_valid n s h _
    (with_parameter_valid n s.parameters q k _ (omega arith) (omega arith)
    (valid_parameter_lem n k _ (valid_parameter_parts n k _ (parameter_valid n s.parameters k (omega arith) (omega arith) q)).0 (units_listed n k high u)))

change_fits : (sensor : ℕ) (s : Setup) (o high low : ℕ) {t : Setup} → Change sensor s o high low t → SetupFits s → SetupFits t
change_fits n s o high low (same i) v = v
change_fits n s o high low (restart mode i) v = restarted_fits s v mode
change_fits n s o high low (next i) v = with_next_fits s v (pattern high low)
change_fits n s o high low (method i m) v =
    with_procedure_fits s v _ (record { fits_trial = v.fits_procedure.fits_trial; fits_points = v.fits_procedure.fits_points })
change_fits n s o high low (float x a f) v = float_fits s o x v (float_of_fits high low x f)
change_fits n s o high low (level r p l) v =
    with_parameters_fits s v _ (record { fits1 = v.fits_parameters.fits1; fits2 = v.fits_parameters.fits2; fits3 = v.fits_parameters.fits3 })
change_fits n s o high low (units k r i p u) v =
    with_parameters_fits s v _ (with_parameter_fits s.parameters v.fits_parameters k _ (parameter_fits s.parameters k v.fits_parameters))

-- the calibration in force stays with each value that is stored
change_active : (sensor : ℕ) (s : Setup) (o high low : ℕ) {t : Setup} → Change sensor s o high low t → t.active.calibration ≡ s.active.calibration
unfolding restarted
change_active n s o high low (same i) = refl
change_active n s o high low (restart mode i) = refl
change_active n s o high low (next i) = refl
change_active n s o high low (method i m) = refl
change_active n s o high low (float x a f) = ap (λ (a : Active). a.calibration) (float_active s o x)
change_active n s o high low (level r p l) = refl
change_active n s o high low (units k r i p u) = refl

-- ---- the answer to a write

-- what a write journals: nothing, and the calibration in force stays; or the one entry of an update, which no code refuses
pub data Journalled (sensor : ℕ) (s t : Setup) (context : Context) (code : Option Code) : List Entry → Type 0 where
  nothing : t.active.calibration ≡ s.active.calibration → Journalled sensor s t context code []
  entry : (e : Entry) → code ≡ None → context.spare ≡ true → e.sensor ≡ sensor → replaced_by s.active.calibration e ≡ t.active.calibration
      → (valid_setup sensor s ≡ true → valid_entry e ≡ true) → (SetupFits s → entry_fits e ≡ true) → Journalled sensor s t context code (e ∷ [])

module _ (sensor : ℕ) (s : Setup) (f : Field) (high low : ℕ) (context : Context) where
  abbrev x : Written
  x = write_of sensor s f high low context

  abbrev Comes : Written → Type 0
  Comes = Outcome sensor s f.offset high low context

  came : Comes x
  came = write_outcome sensor s f high low context

  -- a valid setup stays valid
  pub after_valid : valid_setup sensor s ≡ true → valid_setup sensor (setup_after s x) ≡ true
  after_valid h = of came
    where
      of : {w : Written} → Comes w → valid_setup sensor (setup_after s w) ≡ true
      of (refused c) = h
      of (failed c i u m j) = with_trial_valid sensor s h c (outside_limits_holds sensor (method_set s) c j).all_finite_holds
      of (stored c) = change_valid sensor s f.offset high low c h
      of (update c i u m r j) = let a = accepted sensor (method_set s) c j in calibrated_valid sensor s h c context.clock a.all_finite_holds a.limits

  -- and one of the format of the format
  pub after_fits : SetupFits s → SetupFits (setup_after s x)
  after_fits v = of came
    where
      m : MethodFits (method_set s)
      m = method_fits s.procedure.method s.procedure.trial s.procedure.points v.fits_procedure.fits_trial v.fits_procedure.fits_points

      of : {w : Written} → Comes w → SetupFits (setup_after s w)
      of (refused c) = v
      of (failed c i u k j) = with_trial_fits s v c (made_fits (method_set s) c m (outside_limits_holds sensor (method_set s) c j).made)
      of (stored c) = change_fits sensor s f.offset high low c v
      of (update c i u k r j) = calibrated_fits s v c context.clock (made_fits (method_set s) c m (accepted sensor (method_set s) c j).made)

  pub journalled : Journalled sensor s (setup_after s x) context (code_of x) (entries_of x)
  unfolding calibrated_at replaced_by
  journalled = of came
    where
      of : {w : Written} → Comes w → Journalled sensor s (setup_after s w) context (code_of w) (entries_of w)
      of (refused c) = nothing refl
      of (failed c i u m j) = nothing refl
      of (stored c) = nothing (change_active sensor s f.offset high low c)
      of (update c i u m r j) =
          let n = s.procedure.method in
          let trial = s.procedure.trial in
          let points = s.procedure.points in
          entry _ refl r refl refl
          (λ h. let p = valid_procedure_parts sensor s.procedure (valid_setup_parts sensor s h).procedure_valid in
          accepted_valid sensor n trial points c context.clock context.technician p.method_allowed_holds p.points_finite_holds j)
          (λ v. accepted_entry_fits sensor n trial points c context.clock context.technician v.fits_procedure.fits_trial v.fits_procedure.fits_points j)

  -- a refusal's code is 0x92, 0x84, 0x97 or 0xC0
  pub codes : (code : Code) → code_of x ≡ Some code → Refuses code
  codes code = of came
    where
      of : {w : Written} → Comes w → code_of w ≡ Some code → Refuses code
      of (refused h) e = subst Refuses (some_same e) h
      of (failed c i u m j) e = subst Refuses (some_same e) not_accepted
      of (stored h) e = absurd (none_some e)
      of (update c i u m r j) e = absurd (none_some e)
