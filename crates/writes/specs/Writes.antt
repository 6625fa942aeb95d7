-- What a write of one whole field that isn't read-only does to a sensor's setup, or to the device. One definition for the frame call and for the
-- control book. Document 01, "Calibration", "Register map" and the codes of "What is sent back": 0x92, 0x84, 0x97, 0xC0 in that order; 0xC2 comes
-- before them, at `target_in` of plans. Document 02, wish 3. Assumes nothing.
use Rattle.std.specs.Prelude.{false, ◌&&◌, not, cond, ℕ, eqb, leb, ltb, Float, Option, Some, None}
use Rattle.refusals.specs.declared.codes.Code.TheVariants.{SensorMode, WriteValue}
use Rattle.floats.specs.Floats.{pattern, float_of}
use Rattle.coefficients.specs.Coefficients.{coefficients}
use Rattle.coefficients.specs.declared.Coefficients.{Coefficients}
use Rattle.methods.specs.Methods.{points}
use Rattle.methods.specs.declared.Points.{Points}
use Rattle.entries.specs.Entries.{method_allowed}
use Rattle.parameters.specs.Parameters.{parameter_number, parameter_part, quantity_of, units_allowed, level_allowed}
use Rattle.std.specs.Option.{option_map_or}
use Rattle.fields.specs.Fields.{is_modal}
use Rattle.fields.specs.declared.Field.{Field}
use Rattle.sensors.specs.Sensors.{parameter_of}
use Rattle.sensors.specs.Changes.{procedure, active, with_procedure, with_active, with_parameters, with_trial, with_points, with_level, with_parameter}
use Rattle.sensors.specs.declared.Parameters.{Parameters}
use Rattle.sensors.specs.declared.Setup.{Setup}
use Rattle.commands.specs.Commands.{commanded}
use Rattle.commands.specs.declared.Context.{Context}
use Rattle.commands.specs.declared.Written.{Written}
use Rattle.commands.specs.declared.Written.TheVariants.{Refused, Stored, Technician}

-- ---- words

-- "3..4 next (W)": any 32 bits
unfoldable pub next_written : Setup → ℕ → ℕ → Written
next_written s high low = Stored (with_active s (active s.active.calibration (pattern high low)))

-- "6 method (M, 0..2)", 0 on sensor 3
unfoldable pub method_written : ℕ → Setup → ℕ → Written
method_written sensor s value =
    cond (method_allowed sensor value)
    (Stored (with_procedure s (procedure s.procedure.calibrating s.procedure.trial value s.procedure.points)))
    (Refused WriteValue)

-- ---- floats

-- "10, 12, 14 figures": in mode the trial ones
unfoldable pub trial_at : Coefficients → ℕ → Float → Coefficients
trial_at c offset x =
    cond (eqb offset 10) (coefficients x c.coefficient2 c.coefficient3)
    (cond (eqb offset 12) (coefficients c.coefficient1 x c.coefficient3) (coefficients c.coefficient1 c.coefficient2 x))

-- "16, 18, 20, 22 x1, y1, x2, y2 (M)"
unfoldable pub point_at : Points → ℕ → Float → Points
point_at p offset x =
    cond (eqb offset 16) (points x p.y1 p.x2 p.y2)
    (cond (eqb offset 18) (points p.x1 x p.x2 p.y2)
    (cond (eqb offset 20) (points p.x1 p.y1 x p.y2) (points p.x1 p.y1 p.x2 x)))

-- "+5 sentinel (W, default 0.0)", of parameter k
unfoldable pub with_sentinel : Parameters → ℕ → Float → Parameters
with_sentinel q k x = with_parameter q k (record { units = (parameter_of q k).units; sentinel = x })

-- the setup with the float at an offset replaced: figures from 10 on, points from 16 on, and from 30 on the sentinels of the parameters
unfoldable pub with_float : Setup → ℕ → Float → Setup
with_float s offset x =
    cond (ltb offset 16) (with_trial s (trial_at s.procedure.trial offset x))
    (cond (ltb offset 30) (with_procedure s (with_points s.procedure (point_at s.procedure.points offset x)))
    (with_parameters s (with_sentinel s.parameters (parameter_number offset) x)))

-- "float not finite": the code of what two words hold, 0x84
abbrev pub float_stored : Setup → ℕ → Option Float → Written
float_stored s offset (Some x) = Stored (with_float s offset x)
float_stored s offset None = Refused WriteValue

unfoldable pub float_written : Setup → ℕ → ℕ → ℕ → Written
float_written s offset high low = float_stored s offset (float_of high low)

-- ---- parameters

-- "3, 4 or 5 (W)"; "value not listed" is 0x84
unfoldable pub level_written : Setup → ℕ → Written
level_written s value =
    cond (level_allowed value)
    (Stored (with_parameters s (with_level s.parameters value)))
    (Refused WriteValue)

-- "+3 units (W)": one of the units that the table lists for this parameter
unfoldable pub units_written : ℕ → Setup → ℕ → ℕ → Written
units_written sensor s k value =
    cond (option_map_or (λ q. units_allowed q value) (quantity_of sensor k) false)
    (Stored (with_parameters s (with_parameter s.parameters k (record { units = value; sentinel = (parameter_of s.parameters k).sentinel }))))
    (Refused WriteValue)

-- "Parameter k begins at 30 + 8 × (k - 1): .. +2 id, +3 units (W), .. +5 sentinel (W ..)". No writable field is at another part: there 0x84,
-- "value not listed", makes it total
unfoldable pub parameter_written : ℕ → Setup → ℕ → ℕ → ℕ → Written
parameter_written sensor s o high low =
    cond (eqb (parameter_part o) 2) (level_written s high)
    (cond (eqb (parameter_part o) 3) (units_written sensor s (parameter_number o) high)
    (cond (eqb (parameter_part o) 5) (float_written s o high low) (Refused WriteValue)))

-- ---- the write of a sensor's field

-- the field at an offset, by the ranges of the map; high is the word, or the first of two, low the second. No writable field is outside the
-- ranges: there 0x84 makes it total
unfoldable pub field_written : ℕ → Setup → ℕ → ℕ → ℕ → Context → Written
field_written sensor s o high low context =
    cond (eqb o 3) (next_written s high low)
    (cond (eqb o 5) (commanded sensor s high context)
    (cond (eqb o 6) (method_written sensor s high)
    (cond (leb 10 o && leb o 23) (float_written s o high low)
    (cond (leb 30 o && leb o 53) (parameter_written sensor s o high low)
    (Refused WriteValue)))))

-- "M field .., mode off" is 0x92, then the value
unfoldable pub write_of : ℕ → Setup → Field → ℕ → ℕ → Context → Written
write_of sensor s field high low context =
    cond (is_modal field.access && not s.procedure.calibrating) (Refused SensorMode) (field_written sensor s field.offset high low context)

-- ---- the write by its field's owner

-- document 02, wish 3: "Device register 9 becomes writable, a number 0..65535": the device's one field that isn't read-only takes any word
unfoldable pub device_written : ℕ → Written
device_written high = Technician high

-- the owner is 0 for the device, or a sensor's number
unfoldable pub write_to : ℕ → Setup → Field → ℕ → ℕ → Context → Written
write_to owner s field high low context = cond (eqb owner 0) (device_written high) (write_of owner s field high low context)
