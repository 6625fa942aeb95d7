-- A valid setup stays valid, and one of the format of the format, where a fit value replaces another. Assumes nothing.
use mathlib.Core.Path.{◌≡◌, refl}
use mathlib.Core.Bool.{Bool, true, false, ◌&&◌, cond}
use Prim.Native.Nat.{ℕ, zero, suc, ◌≤◌}
use native.Mathlib.Omega.{arith}
use lib.Dec.{T, eqb}
use lib.Ieee.{binary32, fits}
use borrow.Author.Tests.{eqb-true}
use Rattle.floats.specs.Floats.{finite}
use Rattle.floats.proofs.Bools.{choose}
use Rattle.coefficients.specs.Coefficients.{all_finite, calibration_of, in_limits}
use Rattle.coefficients.specs.declared.Coefficients.{Coefficients}
use Rattle.coefficients.proofs.Bits.{CoefficientsFit}
use Rattle.std.specs.Option.{option_map_or}
use Rattle.parameters.specs.declared.Quantity.{Quantity}
use Rattle.parameters.specs.Parameters.{quantity_of, units_allowed, level_allowed}
use Rattle.sensors.specs.Sensors.{units_valid, level_valid, valid_parameter, valid_parameters, valid_procedure, valid_setup, valid_sensor}
use Rattle.sensors.specs.Changes.{active, with_procedure, with_active, with_parameters, with_trial, with_level, restarted, calibrated_at, with_parameter, sample, measured_of, measured_sensor}
use Rattle.sensors.specs.declared.Parameter.{Parameter}
use Rattle.sensors.specs.declared.Parameters.{Parameters}
use Rattle.sensors.specs.declared.Procedure.{Procedure}
use Rattle.sensors.specs.declared.Setup.{Setup}
use Rattle.sensors.specs.declared.Raws.{Raws}
use Rattle.std.specs.Prelude.{Option, Some, None}
use Rattle.sensors.specs.declared.Sensor.{Sensor}
use Rattle.sensors.proofs.Setups.{ValidParameters, ProcedureFits, ParametersFit, SetupFits, valid_calibration_lem, valid_procedure_parts, valid-procedure, valid_parameters_parts, valid-parameters, valid_setup_parts, valid-setup, active_parts, valid_sensor_parts, new_procedure-valid, new_procedure_fits}

-- ---- valid

module _ (s : ℕ) (x : Setup) (h : valid_setup s x ≡ true) where
  -- another procedure
  pub with_procedure_valid : (p : Procedure) → valid_procedure s p ≡ true → valid_setup s (with_procedure x p) ≡ true
  with_procedure_valid p v =
      let w = valid_setup_parts s x h in
      valid-setup s (with_procedure x p) (record { calibration_valid = w.calibration_valid; procedure_valid = v; parameters_valid = w.parameters_valid })

  -- other parameters
  pub with_parameters_valid : (q : Parameters) → valid_parameters s q ≡ true → valid_setup s (with_parameters x q) ≡ true
  with_parameters_valid q v =
      let w = valid_setup_parts s x h in
      valid-setup s (with_parameters x q) (record { calibration_valid = w.calibration_valid; procedure_valid = w.procedure_valid; parameters_valid = v })

  -- a time of the next calibration
  pub with_next_valid : (next : ℕ) → valid_setup s (with_active x (active x.active.calibration next)) ≡ true
  unfolding valid_setup
  with_next_valid next = h

  -- trial coefficients, method and points begin anew
  pub restarted_valid : (mode : Bool) → valid_setup s (restarted x mode) ≡ true
  unfolding restarted
  restarted_valid mode = with_procedure_valid _ (new_procedure-valid s mode _ (active_parts s x h).0)

  -- other trial coefficients that are finite
  pub with_trial_valid : (c : Coefficients) → all_finite c ≡ true → valid_setup s (with_trial x c) ≡ true
  with_trial_valid c f =
      let p = valid_procedure_parts s x.procedure (valid_setup_parts s x h).procedure_valid in
      with_procedure_valid _ (valid-procedure s _ (record { trial_finite = f; points_finite_holds = p.points_finite_holds; method_allowed_holds = p.method_allowed_holds }))

  -- coefficients in limits come into force
  pub calibrated_valid : (c : Coefficients) (clock : ℕ) → all_finite c ≡ true → in_limits s c ≡ true → valid_setup s (calibrated_at x c clock) ≡ true
  unfolding calibrated_at
  calibrated_valid c clock f l =
      let w = valid_setup_parts s (with_trial x c) (with_trial_valid c f) in
      valid-setup s (calibrated_at x c clock)
      (record { calibration_valid = valid_calibration_lem s (calibration_of c clock) l; procedure_valid = w.procedure_valid; parameters_valid = w.parameters_valid })

module _ (s : ℕ) (q : Parameters) (h : valid_parameters s q ≡ true) where
  v : ValidParameters s q
  v = valid_parameters_parts s q h

  -- a listed level
  pub with_level_valid : (level : ℕ) → level_allowed level ≡ true → valid_parameters s (with_level q level) ≡ true
  unfolding level_valid
  with_level_valid level l =
      valid-parameters s _
      (record { level_valid_holds = choose (λ t. t ≡ true) (eqb s 3) _ _ (λ e. l) (λ e. refl); valid1 = v.valid1; valid2 = v.valid2; valid3 = v.valid3 })

  -- a valid parameter replaces another
  pub with_parameter_valid : (k : ℕ) (p : Parameter) → 1 ≤ k → k ≤ 3 → valid_parameter s k p ≡ true → valid_parameters s (with_parameter q k p) ≡ true
  unfolding with_parameter
  with_parameter_valid (suc zero) p l m u = valid-parameters s _ (record { level_valid_holds = v.level_valid_holds; valid1 = u; valid2 = v.valid2; valid3 = v.valid3 })
  with_parameter_valid (suc (suc zero)) p l m u = valid-parameters s _ (record { level_valid_holds = v.level_valid_holds; valid1 = v.valid1; valid2 = u; valid3 = v.valid3 })
  with_parameter_valid (suc (suc (suc zero))) p l m u =
      valid-parameters s _ (record { level_valid_holds = v.level_valid_holds; valid1 = v.valid1; valid2 = v.valid2; valid3 = u })
  with_parameter_valid zero p l m u = absurd (omega arith)
  with_parameter_valid (suc (suc (suc (suc k)))) p l m u = absurd (omega arith)

-- listed units of a parameter are valid
pub units_listed : (s k units : ℕ) → option_map_or (λ q. units_allowed q units) (quantity_of s k) false ≡ true → units_valid s k units ≡ true
unfolding units_valid
units_listed s k units = of (quantity_of s k)
  where
    of : (o : Option Quantity) → option_map_or (λ q. units_allowed q units) o false ≡ true → option_map_or (λ q. units_allowed q units) o true ≡ true
    of None u = refl
    of (Some q) u = u

-- a measurement of finite raws, of those that it reads, keeps a sensor valid
pub measured_valid : (s : ℕ) (x : Sensor) (raws : Option Raws) → valid_sensor s x ≡ true
    → ((r : Raws) → raws ≡ Some r → finite r.raw1 ≡ true) → ((r : Raws) → raws ≡ Some r → s ≡ 1 → finite r.raw2 ≡ true)
    → valid_sensor s (measured_sensor x s raws) ≡ true
unfolding valid_sensor measured_sensor measured_of
measured_valid s x None h a b = h
measured_valid s x (Some r) h a b = go (eqb s 1) refl
  where
    go : (q : Bool) → eqb s 1 ≡ q
        → (valid_setup s x.setup
        && finite (cond q (sample true r.raw1 r.raw2) (sample true r.raw1 x.sample.raw2)).raw1
        && finite (cond q (sample true r.raw1 r.raw2) (sample true r.raw1 x.sample.raw2)).raw2)
        ≡ true
    go true e = rw ((valid_sensor_parts s x h).0, a r refl, b r refl (eqb-true s 1 e))
    go false e = rw ((valid_sensor_parts s x h).0, a r refl, (valid_sensor_parts s x h).2)

-- ---- floats of the format

module _ (x : Setup) (v : SetupFits x) where
  -- another procedure
  pub with_procedure_fits : (p : Procedure) → ProcedureFits p → SetupFits (with_procedure x p)
  with_procedure_fits p f = record { fits_calibration = v.fits_calibration; fits_procedure = f; fits_parameters = v.fits_parameters }

  -- other parameters
  pub with_parameters_fits : (q : Parameters) → ParametersFit q → SetupFits (with_parameters x q)
  with_parameters_fits q f = record { fits_calibration = v.fits_calibration; fits_procedure = v.fits_procedure; fits_parameters = f }

  -- a time of the next calibration
  pub with_next_fits : (next : ℕ) → SetupFits (with_active x (active x.active.calibration next))
  with_next_fits next = record { fits_calibration = v.fits_calibration; fits_procedure = v.fits_procedure; fits_parameters = v.fits_parameters }

  -- trial coefficients, method and points begin anew
  pub restarted_fits : (mode : Bool) → SetupFits (restarted x mode)
  unfolding restarted
  restarted_fits mode = with_procedure_fits _ (new_procedure_fits mode _ v.fits_calibration)

  -- other trial coefficients
  pub with_trial_fits : (c : Coefficients) → CoefficientsFit c → SetupFits (with_trial x c)
  with_trial_fits c f = with_procedure_fits _ (record { fits_trial = f; fits_points = v.fits_procedure.fits_points })

  -- coefficients of the format come into force
  pub calibrated_fits : (c : Coefficients) (clock : ℕ) → CoefficientsFit c → SetupFits (calibrated_at x c clock)
  unfolding calibrated_at
  calibrated_fits c clock f =
      record {
        fits_calibration = record { fits_coefficient1 = f.fits_coefficient1; fits_coefficient2 = f.fits_coefficient2; fits_coefficient3 = f.fits_coefficient3 };
        fits_procedure = (with_trial_fits c f).fits_procedure;
        fits_parameters = v.fits_parameters;
      }

-- a parameter with a sentinel of the format
pub with_parameter_fits : (q : Parameters) → ParametersFit q → (k : ℕ) (p : Parameter) → T (fits binary32 p.sentinel) → ParametersFit (with_parameter q k p)
unfolding with_parameter
with_parameter_fits q v k p f =
    choose ParametersFit (eqb k 1) _ _ (λ e. record { fits1 = f; fits2 = v.fits2; fits3 = v.fits3 })
    (λ e. choose ParametersFit (eqb k 2) _ _ (λ e. record { fits1 = v.fits1; fits2 = f; fits3 = v.fits3 })
    (λ e. record { fits1 = v.fits1; fits2 = v.fits2; fits3 = f }))
