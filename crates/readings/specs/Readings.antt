-- The readings of the parameters. Document 01, "Register map", from "Values use the figures in force" on. Assumes nothing.
use Rattle.std.specs.Prelude.{Bool, ◌&&◌, cond, ℕ, eqb, Float}
use Rattle.std.specs.Float.{binary32}
use Rattle.std.specs.Float.Ieee.{add, sub, mul, div, eq}
use Rattle.floats.specs.Floats.{near, plus_zero, finite}
use Rattle.coefficients.specs.declared.Calibration.{Calibration}
use Rattle.parameters.specs.Parameters.{converted}
use Rattle.sensors.specs.Sensors.{parameter_of}
use Rattle.sensors.specs.declared.Setup.{Setup}
use Rattle.sensors.specs.declared.Sample.{Sample}
use Rattle.sensors.specs.declared.Sensor.{Sensor}
use Rattle.readings.specs.declared.Reading.{Reading}
use Rattle.readings.specs.declared.Quality.{Quality}
use Rattle.readings.specs.declared.Quality.TheVariants.{Good, NotFinite, Calibrating, Absent}

-- "figure 1 + (figure 2 × raw)"
abbrev pub linear : Calibration → Float → Float
linear c raw = add binary32 c.coefficient1 (mul binary32 c.coefficient2 raw)

-- "sensors 1, 2, 4 give figure 1 + (figure 2 × raw)"; "In mode: raw instead"
unfoldable pub calibrated_of : Setup → Float → Float
calibrated_of s raw = cond s.procedure.calibrating raw (linear s.active.calibration raw)

-- "Resistivity is 1000000 / conductivity as shown, and 10000000 at either zero"
unfoldable pub resistivity_of : Float → Float
resistivity_of conductivity = cond (eq conductivity plus_zero) (near 10000000 1) (div binary32 (near 1000000 1) conductivity)

-- "L(p) = p × 0.70307 / 1.0"
unfoldable pub height_of : Float → Float
height_of p = div binary32 (mul binary32 p (near 70307 100000)) (near 1 1)

-- "level is L(Pm) for id 3, Lr - L(Pm - Pr) for 4, Lr + L(Pm - Pr) for 5 (..; Lr, Pr are figures 2, 3)"
unfoldable pub level_of_id : ℕ → Float → Calibration → Float
level_of_id id pm c =
    cond (eqb id 4) (sub binary32 c.coefficient2 (height_of (sub binary32 pm c.coefficient3)))
    (cond (eqb id 5) (add binary32 c.coefficient2 (height_of (sub binary32 pm c.coefficient3))) (height_of pm))

-- "Pressure Pm = P - figure 1"
abbrev pub offset_pressure : Setup → Float → Float
offset_pressure s raw = sub binary32 raw s.active.calibration.coefficient1

-- in mode "raw instead of .. pressure"
unfoldable pub pressure_of : Setup → Float → Float
pressure_of s raw = cond s.procedure.calibrating raw (offset_pressure s raw)

-- in mode "L(Pm) for level"
unfoldable pub level_of : Setup → Float → Float
level_of s raw = cond s.procedure.calibrating (height_of (offset_pressure s raw)) (level_of_id s.parameters.level (offset_pressure s raw) s.active.calibration)

-- sensor 1: "temperature is the second raw"; conductivity; resistivity
unfoldable pub conductivity_value : Setup → Sample → ℕ → Float
conductivity_value s x k = cond (eqb k 1) x.raw2 (cond (eqb k 2) (calibrated_of s x.raw1) (resistivity_of (calibrated_of s x.raw1)))

-- sensor 3: pressure; level
unfoldable pub level_value : Setup → Sample → ℕ → Float
level_value s x k = cond (eqb k 1) (pressure_of s x.raw1) (level_of s x.raw1)

-- the value of parameter k before its conversion
unfoldable pub value_of : ℕ → Setup → Sample → ℕ → Float
value_of sensor s x k = cond (eqb sensor 1) (conductivity_value s x k) (cond (eqb sensor 3) (level_value s x k) (calibrated_of s x.raw1))

-- "A parameter worked from another": resistivity from conductivity, level from pressure; any other stands for itself
unfoldable pub worked_from : ℕ → ℕ → ℕ
worked_from sensor k = cond (eqb sensor 1 && eqb k 3) 2 (cond (eqb sensor 3 && eqb k 2) 1 k)

-- "The conversion to the unit comes last, in mode too"
abbrev pub shown_of : ℕ → Sensor → ℕ → Float
shown_of sensor s k = converted (parameter_of s.setup.parameters k).units (value_of sensor s.setup s.sample k)

abbrev pub shown_as : Quality → Float → Reading
shown_as quality value = record { quality = quality; value = value }

-- "Quality: 7 never measured or not present; else 3 not finite; else 6 in mode; else 0."
abbrev pub number_of : Quality → ℕ
number_of Absent = 7
number_of NotFinite = 3
number_of Calibrating = 6
number_of Good = 0

-- in that order; "At 7 and 3 the value is the sentinel."
unfoldable pub graded_reading : Bool → Bool → Bool → Float → Float → Reading
graded_reading present is_finite calibrating shown sentinel =
    cond present (cond is_finite (cond calibrating (shown_as Calibrating shown) (shown_as Good shown)) (shown_as NotFinite sentinel)) (shown_as Absent sentinel)

-- a parameter is finite where its value as shown is, and that of the one it is worked from before its conversion
unfoldable pub reading_of : ℕ → Sensor → ℕ → Reading
reading_of sensor s k =
    graded_reading s.sample.present
    (finite (value_of sensor s.setup s.sample (worked_from sensor k)) && finite (shown_of sensor s k))
    s.setup.procedure.calibrating (shown_of sensor s k) (parameter_of s.setup.parameters k).sentinel
