-- The state of one sensor, fresh, after a power-up, and valid. Document 01, "Sonde and calls" and "The volume" ("A sonde is sound when ..").
-- Assumes nothing.
use Rattle.std.specs.Prelude.{Bool, true, false, ◌&&◌, cond, ℕ, eqb}
use Rattle.std.specs.Option.{option_map_or}
use Rattle.floats.specs.Floats.{plus_zero, finite}
use Rattle.coefficients.specs.Coefficients.{all_finite, calibration_of, coefficients_of, defaults_of}
use Rattle.coefficients.specs.declared.Calibration.{Calibration}
use Rattle.entries.specs.Entries.{method_allowed, points_finite, valid_calibration}
use Rattle.parameters.specs.Parameters.{quantity_of, default_units, units_allowed, level_allowed}
use Rattle.sensors.specs.Changes.{parameters, new_procedure, active, setup, sample, sensor_of}
use Rattle.sensors.specs.declared.Parameter.{Parameter}
use Rattle.sensors.specs.declared.Parameters.{Parameters}
use Rattle.sensors.specs.declared.Procedure.{Procedure}
use Rattle.sensors.specs.declared.Setup.{Setup}
use Rattle.sensors.specs.declared.Sample.{Sample}
use Rattle.sensors.specs.declared.Sensor.{Sensor}

-- parameter k, from 1
unfoldable pub parameter_of : Parameters → ℕ → Parameter
parameter_of q k = cond (eqb k 1) q.parameter1 (cond (eqb k 2) q.parameter2 q.parameter3)

-- ---- fresh

-- "units and sentinels at their defaults"; a parameter that the sensor doesn't have has units 0
unfoldable pub fresh_parameter : ℕ → ℕ → Parameter
fresh_parameter sensor k = record { units = option_map_or default_units (quantity_of sensor k) 0; sentinel = plus_zero }

-- the level's id is the first listed, 3
unfoldable pub fresh_parameters : ℕ → Parameters
fresh_parameters sensor = parameters 3 (fresh_parameter sensor 1) (fresh_parameter sensor 2) (fresh_parameter sensor 3)

-- "Fresh: modes off, figures, units and sentinels at their defaults, trial = in force, methods 0, points .. +0.0, times .. 0"
unfoldable pub fresh_setup : ℕ → Setup
fresh_setup sensor = setup (new_procedure false (defaults_of sensor)) (active (calibration_of (defaults_of sensor) 0) 0) (fresh_parameters sensor)

-- "Power-up gives replayed figures and times, all else as fresh": mode off, trial = in force, method 0, points +0.0, next 0
unfoldable pub powered_setup : ℕ → Calibration → Setup
powered_setup sensor c = setup (new_procedure false (coefficients_of c)) (active c 0) (fresh_parameters sensor)

-- "raws +0.0", "never measured"
abbrev pub fresh_sample : Sample
fresh_sample = sample false plus_zero plus_zero

unfoldable pub fresh_sensor : ℕ → Sensor
fresh_sensor sensor = sensor_of (fresh_setup sensor) fresh_sample

-- ---- valid; document 01's term is sound

-- "every unit .. is in the map", of the parameters that the sensor has
unfoldable pub units_valid : ℕ → ℕ → ℕ → Bool
units_valid sensor k units = option_map_or (λ q. units_allowed q units) (quantity_of sensor k) true

-- "and level id is in the map"
unfoldable pub level_valid : ℕ → ℕ → Bool
level_valid sensor level = cond (eqb sensor 3) (level_allowed level) true

unfoldable pub valid_parameter : ℕ → ℕ → Parameter → Bool
valid_parameter sensor k p = finite p.sentinel && units_valid sensor k p.units

unfoldable pub valid_parameters : ℕ → Parameters → Bool
valid_parameters sensor q =
    level_valid sensor q.level
    && valid_parameter sensor 1 q.parameter1
    && valid_parameter sensor 2 q.parameter2
    && valid_parameter sensor 3 q.parameter3

-- "method (0 on sensor 3)"
unfoldable pub valid_procedure : ℕ → Procedure → Bool
valid_procedure sensor p = all_finite p.trial && points_finite p.points && method_allowed sensor p.method

-- "its floats are finite, every unit, method (0 on sensor 3) and level id is in the map, and figures in force are in limits"
unfoldable pub valid_setup : ℕ → Setup → Bool
valid_setup sensor s = valid_calibration sensor s.active.calibration && valid_procedure sensor s.procedure && valid_parameters sensor s.parameters

unfoldable pub valid_sensor : ℕ → Sensor → Bool
valid_sensor sensor x = valid_setup sensor x.setup && finite x.sample.raw1 && finite x.sample.raw2
