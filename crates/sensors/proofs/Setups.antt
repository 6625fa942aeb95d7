-- The parts of a valid setup and of a valid sensor, and that the setups of a fresh sonde and of a power-up are valid and of the format.
-- Assumes nothing.
use mathlib.Core.Path.{◌≡◌, refl}
use mathlib.Core.Bool.{Bool, true, false, ◌&&◌}
use Prim.Native.Nat.{ℕ, zero, suc, ◌≤◌}
use native.Mathlib.Omega.{arith}
use lib.Dec.{T, eqb}
use lib.Ieee.{binary32, fits}
use lib.Ieee.Bits.{of_bits-fits}
use Rattle.floats.specs.Floats.{finite}
use Rattle.floats.proofs.Bools.{both, choose}
use Rattle.floats.proofs.Words.{plus_zero_finite}
use Rattle.coefficients.specs.Coefficients.{all_finite, calibration_of, coefficients_of, defaults_of, in_limits}
use Rattle.coefficients.specs.declared.Coefficients.{Coefficients}
use Rattle.coefficients.specs.declared.Calibration.{Calibration}
use Rattle.coefficients.proofs.Bits.{CoefficientsFit}
use Rattle.coefficients.proofs.Limits.{limits_finite, defaults_in_limits, defaults_fit}
use Rattle.methods.proofs.Candidates.{PointsFit}
use Rattle.entries.specs.Entries.{method_allowed, points_finite, valid_calibration}
use Rattle.std.specs.Prelude.{Option, Some, None}
use Rattle.std.specs.Option.{option_map_or}
use Rattle.parameters.specs.declared.Quantity.{Quantity}
use Rattle.parameters.specs.declared.Quantity.TheVariants.{Temperature, Conductivity, Resistivity, Oxygen, Pressure, Level, Chlorophyll}
use Rattle.parameters.specs.Parameters.{quantity_of, default_units, units_allowed, level_allowed}
use Rattle.sensors.specs.Changes.{new_procedure}
use Rattle.sensors.specs.Sensors.{parameter_of, fresh_parameter, fresh_parameters, fresh_setup, powered_setup, fresh_sensor, units_valid, level_valid, valid_parameter, valid_parameters, valid_procedure, valid_setup, valid_sensor}
use Rattle.sensors.specs.declared.Parameter.{Parameter}
use Rattle.sensors.specs.declared.Parameters.{Parameters}
use Rattle.sensors.specs.declared.Procedure.{Procedure}
use Rattle.sensors.specs.declared.Setup.{Setup}
use Rattle.sensors.specs.declared.Sensor.{Sensor}

-- ---- the parts of what is valid

-- a valid calibration is finite and in limits
pub valid_calibration_parts : (s : ℕ) (c : Calibration) → valid_calibration s c ≡ true
    → (all_finite (coefficients_of c) ≡ true) × (in_limits s (coefficients_of c) ≡ true)
unfolding valid_calibration
valid_calibration_parts s c h = both (all_finite (coefficients_of c)) (in_limits s (coefficients_of c)) h

-- and one in limits is valid
pub valid_calibration_lem : (s : ℕ) (c : Calibration) → in_limits s (coefficients_of c) ≡ true → valid_calibration s c ≡ true
unfolding valid_calibration
valid_calibration_lem s c l = rw (limits_finite s (coefficients_of c) l, l)

pub record ValidProcedure (s : ℕ) (p : Procedure) : Type 0 where
  pub trial_finite : all_finite p.trial ≡ true
  pub points_finite_holds : points_finite p.points ≡ true
  pub method_allowed_holds : method_allowed s p.method ≡ true

pub valid_procedure_parts : (s : ℕ) (p : Procedure) → valid_procedure s p ≡ true → ValidProcedure s p
unfolding valid_procedure
valid_procedure_parts s p h =
    let t = both (all_finite p.trial && points_finite p.points) (method_allowed s p.method) h in
    let u = both (all_finite p.trial) (points_finite p.points) t.0 in
    record { trial_finite = u.0; points_finite_holds = u.1; method_allowed_holds = t.1 }

pub valid-procedure : (s : ℕ) (p : Procedure) → ValidProcedure s p → valid_procedure s p ≡ true
unfolding valid_procedure
valid-procedure s p v = rw (v.trial_finite, v.points_finite_holds, v.method_allowed_holds)

pub valid_parameter_parts : (s k : ℕ) (p : Parameter) → valid_parameter s k p ≡ true → (finite p.sentinel ≡ true) × (units_valid s k p.units ≡ true)
unfolding valid_parameter
valid_parameter_parts s k p h = both (finite p.sentinel) (units_valid s k p.units) h

pub valid_parameter_lem : (s k : ℕ) (p : Parameter) → finite p.sentinel ≡ true → units_valid s k p.units ≡ true → valid_parameter s k p ≡ true
unfolding valid_parameter
valid_parameter_lem s k p f u = rw (f, u)

pub record ValidParameters (s : ℕ) (q : Parameters) : Type 0 where
  pub level_valid_holds : level_valid s q.level ≡ true
  pub valid1 : valid_parameter s 1 q.parameter1 ≡ true
  pub valid2 : valid_parameter s 2 q.parameter2 ≡ true
  pub valid3 : valid_parameter s 3 q.parameter3 ≡ true

pub valid_parameters_parts : (s : ℕ) (q : Parameters) → valid_parameters s q ≡ true → ValidParameters s q
unfolding valid_parameters
valid_parameters_parts s q h =
    let l = level_valid s q.level in
    let a = valid_parameter s 1 q.parameter1 in
    let b = valid_parameter s 2 q.parameter2 in
    let t3 = both (l && a && b) (valid_parameter s 3 q.parameter3) h in
    let t2 = both (l && a) b t3.0 in
    let t1 = both l a t2.0 in
    record { level_valid_holds = t1.0; valid1 = t1.1; valid2 = t2.1; valid3 = t3.1 }

pub valid-parameters : (s : ℕ) (q : Parameters) → ValidParameters s q → valid_parameters s q ≡ true
unfolding valid_parameters
valid-parameters s q v = rw (v.level_valid_holds, v.valid1, v.valid2, v.valid3)

-- parameter k of valid parameters is valid
pub parameter_valid : (s : ℕ) (q : Parameters) (k : ℕ) → 1 ≤ k → k ≤ 3 → valid_parameters s q ≡ true → valid_parameter s k (parameter_of q k) ≡ true
unfolding parameter_of
parameter_valid s q (suc zero) l m h = (valid_parameters_parts s q h).valid1
parameter_valid s q (suc (suc zero)) l m h = (valid_parameters_parts s q h).valid2
parameter_valid s q (suc (suc (suc zero))) l m h = (valid_parameters_parts s q h).valid3
parameter_valid s q zero l m h = absurd (omega arith)
parameter_valid s q (suc (suc (suc (suc k)))) l m h = absurd (omega arith)

pub record ValidSetup (s : ℕ) (x : Setup) : Type 0 where
  pub calibration_valid : valid_calibration s x.active.calibration ≡ true
  pub procedure_valid : valid_procedure s x.procedure ≡ true
  pub parameters_valid : valid_parameters s x.parameters ≡ true

-- a valid setup has each part
pub valid_setup_parts : (s : ℕ) (x : Setup) → valid_setup s x ≡ true → ValidSetup s x
unfolding valid_setup
valid_setup_parts s x h =
    let c = valid_calibration s x.active.calibration in
    let p = valid_procedure s x.procedure in
    let t = both (c && p) (valid_parameters s x.parameters) h in
    let u = both c p t.0 in
    record { calibration_valid = u.0; procedure_valid = u.1; parameters_valid = t.1 }

-- a setup with each part is valid
pub valid-setup : (s : ℕ) (x : Setup) → ValidSetup s x → valid_setup s x ≡ true
unfolding valid_setup
valid-setup s x v = rw (v.calibration_valid, v.procedure_valid, v.parameters_valid)

-- the coefficients in force of a valid setup are finite and in limits
pub active_parts : (s : ℕ) (x : Setup) → valid_setup s x ≡ true
    → (all_finite (coefficients_of x.active.calibration) ≡ true) × (in_limits s (coefficients_of x.active.calibration) ≡ true)
active_parts s x h = valid_calibration_parts s x.active.calibration (valid_setup_parts s x h).calibration_valid

-- the parts of a valid sensor
pub valid_sensor_parts : (s : ℕ) (x : Sensor) → valid_sensor s x ≡ true
    → (valid_setup s x.setup ≡ true) × (finite x.sample.raw1 ≡ true) × (finite x.sample.raw2 ≡ true)
unfolding valid_sensor
valid_sensor_parts s x h =
    let t = both (valid_setup s x.setup && finite x.sample.raw1) (finite x.sample.raw2) h in
    let u = both (valid_setup s x.setup) (finite x.sample.raw1) t.0 in
    (u.0, u.1, t.1)

-- ---- floats of the format

pub record ProcedureFits (p : Procedure) : Type 0 where
  pub fits_trial : CoefficientsFit p.trial
  pub fits_points : PointsFit p.points

pub record ParametersFit (q : Parameters) : Type 0 where
  pub fits1 : T (fits binary32 q.parameter1.sentinel)
  pub fits2 : T (fits binary32 q.parameter2.sentinel)
  pub fits3 : T (fits binary32 q.parameter3.sentinel)

pub record SetupFits (x : Setup) : Type 0 where
  pub fits_calibration : CoefficientsFit (coefficients_of x.active.calibration)
  pub fits_procedure : ProcedureFits x.procedure
  pub fits_parameters : ParametersFit x.parameters

-- the sentinel of a parameter fits the format
pub parameter_fits : (q : Parameters) (k : ℕ) → ParametersFit q → T (fits binary32 (parameter_of q k).sentinel)
unfolding parameter_of
parameter_fits q k v = choose P (eqb k 1) _ _ (λ e. v.fits1) (λ e. choose P (eqb k 2) _ _ (λ e. v.fits2) (λ e. v.fits3))
  where
    P : Parameter → Type 0
    P p = T (fits binary32 p.sentinel)

-- ---- a procedure that begins

-- the direct method is allowed on every sensor
pub direct_allowed : (s : ℕ) → method_allowed s 0 ≡ true
unfolding method_allowed
direct_allowed s = choose (λ t. t ≡ true) (eqb s 3) _ _ (λ e. refl) (λ e. refl)

-- with finite trial coefficients it is valid
pub new_procedure-valid : (s : ℕ) (mode : Bool) (c : Coefficients) → all_finite c ≡ true → valid_procedure s (new_procedure mode c) ≡ true
unfolding new_procedure points_finite
new_procedure-valid s mode c f = valid-procedure s (new_procedure mode c) (record { trial_finite = f; points_finite_holds = rw plus_zero_finite; method_allowed_holds = direct_allowed s })

-- and with those of the format of the format
pub new_procedure_fits : (mode : Bool) (c : Coefficients) → CoefficientsFit c → ProcedureFits (new_procedure mode c)
unfolding new_procedure
new_procedure_fits mode c f =
    let z = of_bits-fits binary32 0 in
    record { fits_trial = f; fits_points = record { fits_x1 = z; fits_y1 = z; fits_x2 = z; fits_y2 = z } }

-- ---- fresh, and after a power-up

-- the default units are listed
default_units_lem : (s k : ℕ) → units_valid s k (option_map_or default_units (quantity_of s k) 0) ≡ true
unfolding units_valid
default_units_lem s k = of (quantity_of s k)
  where
    of : (o : Option Quantity) → option_map_or (λ q. units_allowed q (option_map_or default_units o 0)) o true ≡ true
    of None = refl
    of (Some Temperature) = refl
    of (Some Conductivity) = refl
    of (Some Resistivity) = refl
    of (Some Oxygen) = refl
    of (Some Pressure) = refl
    of (Some Level) = refl
    of (Some Chlorophyll) = refl

fresh_level : (s : ℕ) → level_valid s 3 ≡ true
unfolding level_valid level_allowed
fresh_level s = choose (λ t. t ≡ true) (eqb s 3) _ _ (λ e. refl) (λ e. refl)

fresh_parameters-valid : (s : ℕ) → 1 ≤ s → s ≤ 4 → valid_parameters s (fresh_parameters s) ≡ true
unfolding fresh_parameters fresh_parameter
fresh_parameters-valid s l h =
    valid-parameters s (fresh_parameters s)
    (record {
      level_valid_holds = fresh_level s;
      valid1 = valid_parameter_lem s 1 _ plus_zero_finite (default_units_lem s 1);
      valid2 = valid_parameter_lem s 2 _ plus_zero_finite (default_units_lem s 2);
      valid3 = valid_parameter_lem s 3 _ plus_zero_finite (default_units_lem s 3);
    })

fresh_parameters_fit : (s : ℕ) → ParametersFit (fresh_parameters s)
unfolding fresh_parameters fresh_parameter
fresh_parameters_fit s = let z = of_bits-fits binary32 0 in record { fits1 = z; fits2 = z; fits3 = z }

-- a setup after a power-up is valid where its calibration is
pub powered_valid : (s : ℕ) (c : Calibration) → 1 ≤ s → s ≤ 4 → valid_calibration s c ≡ true → valid_setup s (powered_setup s c) ≡ true
unfolding powered_setup
powered_valid s c l h v =
    valid-setup s (powered_setup s c)
    (record {
      calibration_valid = v;
      procedure_valid = new_procedure-valid s false (coefficients_of c) (valid_calibration_parts s c v).0;
      parameters_valid = fresh_parameters-valid s l h;
    })

-- and of the format where its calibration is
pub powered_fits : (s : ℕ) (c : Calibration) → CoefficientsFit (coefficients_of c) → SetupFits (powered_setup s c)
unfolding powered_setup
powered_fits s c f =
    record { fits_calibration = f; fits_procedure = new_procedure_fits false (coefficients_of c) f; fits_parameters = fresh_parameters_fit s }

-- a fresh setup is one with the default calibration
fresh_powered : (s : ℕ) → powered_setup s (calibration_of (defaults_of s) 0) ≡ fresh_setup s
unfolding powered_setup fresh_setup
fresh_powered s = refl

-- so it is valid
pub fresh_valid : (s : ℕ) → 1 ≤ s → s ≤ 4 → valid_setup s (fresh_setup s) ≡ true
fresh_valid s l h =
    let c = calibration_of (defaults_of s) 0 in
    rw (← (fresh_powered s)) (powered_valid s c l h (valid_calibration_lem s c (defaults_in_limits s l h)))

-- and of the format
pub fresh_fits : (s : ℕ) → SetupFits (fresh_setup s)
fresh_fits s = rw (← (fresh_powered s)) (powered_fits s (calibration_of (defaults_of s) 0) (defaults_fit s))

-- a fresh sensor is valid
pub fresh_sensor-valid : (s : ℕ) → 1 ≤ s → s ≤ 4 → valid_sensor s (fresh_sensor s) ≡ true
unfolding valid_sensor fresh_sensor
fresh_sensor-valid s l h = rw (fresh_valid s l h, plus_zero_finite)
