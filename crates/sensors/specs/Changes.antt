-- The parts of a sensor's state, and what changes in them. Document 01, "Calibration" and "Sonde and calls" ("Measure stores the raws that it
-- reads"). Assumes nothing.
use Rattle.std.specs.Prelude.{Bool, true, false, cond, ℕ, eqb, Float, Option, Some, None}
use Rattle.floats.specs.Floats.{plus_zero}
use Rattle.coefficients.specs.Coefficients.{calibration_of, coefficients_of}
use Rattle.methods.specs.Methods.{points}
use Rattle.coefficients.specs.declared.Coefficients.{Coefficients}
use Rattle.coefficients.specs.declared.Calibration.{Calibration}
use Rattle.methods.specs.declared.Points.{Points}
use Rattle.sensors.specs.declared.Parameter.{Parameter}
use Rattle.sensors.specs.declared.Parameters.{Parameters}
use Rattle.sensors.specs.declared.Procedure.{Procedure}
use Rattle.sensors.specs.declared.Active.{Active}
use Rattle.sensors.specs.declared.Setup.{Setup}
use Rattle.sensors.specs.declared.Sample.{Sample}
use Rattle.sensors.specs.declared.Raws.{Raws}
use Rattle.sensors.specs.declared.Sensor.{Sensor}

-- ---- the parts of a setup

abbrev pub procedure : Bool → Coefficients → ℕ → Points → Procedure
procedure calibrating trial method p = record { calibrating = calibrating; trial = trial; method = method; points = p }

abbrev pub active : Calibration → ℕ → Active
active c next = record { calibration = c; next = next }

abbrev pub parameters : ℕ → Parameter → Parameter → Parameter → Parameters
parameters level a b c = record { level = level; parameter1 = a; parameter2 = b; parameter3 = c }

abbrev pub setup : Procedure → Active → Parameters → Setup
setup p a q = record { procedure = p; active = a; parameters = q }

-- one part replaced
abbrev pub with_procedure : Setup → Procedure → Setup
with_procedure s p = setup p s.active s.parameters

abbrev pub with_active : Setup → Active → Setup
with_active s a = setup s.procedure a s.parameters

abbrev pub with_parameters : Setup → Parameters → Setup
with_parameters s q = setup s.procedure s.active q

-- ---- a calibration

-- "mode on [off], trial := .., method := 0, points := +0.0"
unfoldable pub new_procedure : Bool → Coefficients → Procedure
new_procedure calibrating c = procedure calibrating c 0 (points plus_zero plus_zero plus_zero plus_zero)

-- other trial coefficients alone; what is active stays
abbrev pub with_trial : Setup → Coefficients → Setup
with_trial s c = with_procedure s (procedure s.procedure.calibrating c s.procedure.method s.procedure.points)

abbrev pub with_points : Procedure → Points → Procedure
with_points p q = procedure p.calibrating p.trial p.method q

-- "mode on [off], trial := in force, method := 0, points := +0.0"
unfoldable pub restarted : Setup → Bool → Setup
restarted s calibrating = with_procedure s (new_procedure calibrating (coefficients_of s.active.calibration))

-- "the candidate becomes in force and trial, last calibration := clock, next := 0, .. mode stays on"
unfoldable pub calibrated_at : Setup → Coefficients → ℕ → Setup
calibrated_at s c clock = with_active (with_trial s c) (active (calibration_of c clock) 0)

-- ---- parameters

-- another id of the level
abbrev pub with_level : Parameters → ℕ → Parameters
with_level q level = parameters level q.parameter1 q.parameter2 q.parameter3

-- parameter 1, 2 or 3 replaced
unfoldable pub with_parameter : Parameters → ℕ → Parameter → Parameters
with_parameter q k p =
    cond (eqb k 1) (parameters q.level p q.parameter2 q.parameter3)
    (cond (eqb k 2) (parameters q.level q.parameter1 p q.parameter3) (parameters q.level q.parameter1 q.parameter2 p))

-- ---- a measurement

-- the raws that a sensor gives, none where it isn't present
abbrev pub raws_of : Bool → Float → Float → Option Raws
raws_of present raw1 raw2 = cond present (Some (record { raw1 = raw1; raw2 = raw2 })) None

abbrev pub sample : Bool → Float → Float → Sample
sample present raw1 raw2 = record { present = present; raw1 = raw1; raw2 = raw2 }

-- "Measure stores the raws that it reads; not present, it reads none and keeps the old"; "the second is read for sensor 1 only"
unfoldable pub measured_of : Sample → ℕ → Option Raws → Sample
measured_of x sensor None = sample false x.raw1 x.raw2
measured_of x sensor (Some r) = cond (eqb sensor 1) (sample true r.raw1 r.raw2) (sample true r.raw1 x.raw2)

abbrev pub sensor_of : Setup → Sample → Sensor
sensor_of s x = record { setup = s; sample = x }

-- "Methods with self and mut self on sonde and sensor, handing the state back": a measurement keeps the setup
unfoldable pub measured_sensor : Sensor → ℕ → Option Raws → Sensor
measured_sensor x sensor raws = sensor_of x.setup (measured_of x.sample sensor raws)

-- and a new setup keeps the sample
unfoldable pub sensor_with_setup : Sensor → Setup → Sensor
sensor_with_setup x s = sensor_of s x.sample
