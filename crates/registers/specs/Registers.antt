-- What each register shows. Document 01, "Register map". Assumes nothing.
use Rattle.std.specs.Prelude.{◌&&◌, cond, ℕ, ◌/◌, ◌%◌, eqb, ltb}
use Rattle.std.specs.Option.{option_map_or}
use Rattle.floats.specs.Floats.{high_word, low_word}
use Rattle.coefficients.specs.Coefficients.{coefficients_of}
use Rattle.coefficients.specs.declared.Coefficients.{Coefficients}
use Rattle.methods.specs.declared.Points.{Points}
use Rattle.parameters.specs.Parameters.{count_of, parameter_number, parameter_part, quantity_of, id_of, available_units}
use Rattle.sensors.specs.Sensors.{parameter_of}
use Rattle.sensors.specs.declared.Setup.{Setup}
use Rattle.sensors.specs.declared.Sensor.{Sensor}
use Rattle.readings.specs.Readings.{number_of, reading_of}
use Rattle.readings.specs.declared.Reading.{Reading}
use Rattle.registers.specs.declared.Device.{Device}

-- "command (W, reads 1 with mode on, else 0)"
unfoldable pub mode_of : Setup → ℕ
mode_of s = cond s.procedure.calibrating 1 0

-- "figures (M; shows trial in mode, else in force)"
unfoldable pub shown_coefficients : Setup → Coefficients
shown_coefficients s = cond s.procedure.calibrating s.procedure.trial (coefficients_of s.active.calibration)

-- "10, 12, 14 figures"
unfoldable pub coefficient_register : Coefficients → ℕ → ℕ
coefficient_register c o =
    cond (eqb o 10) (high_word c.coefficient1) (cond (eqb o 11) (low_word c.coefficient1)
    (cond (eqb o 12) (high_word c.coefficient2) (cond (eqb o 13) (low_word c.coefficient2)
    (cond (eqb o 14) (high_word c.coefficient3) (cond (eqb o 15) (low_word c.coefficient3) 0)))))

-- "16, 18, 20, 22 x1, y1, x2, y2"
unfoldable pub point_register : Points → ℕ → ℕ
point_register p o =
    cond (eqb o 16) (high_word p.x1) (cond (eqb o 17) (low_word p.x1)
    (cond (eqb o 18) (high_word p.y1) (cond (eqb o 19) (low_word p.y1)
    (cond (eqb o 20) (high_word p.x2) (cond (eqb o 21) (low_word p.x2)
    (cond (eqb o 22) (high_word p.y2) (cond (eqb o 23) (low_word p.y2) 0)))))))

-- the column "id"; of the level the id that is set
unfoldable pub shown_id : ℕ → Setup → ℕ → ℕ
shown_id sensor s k = cond (eqb sensor 3 && eqb k 2) s.parameters.level (option_map_or id_of (quantity_of sensor k) 0)

-- "+0 value", "+4 quality": what the registers of a reading show
unfoldable pub reading_register : Reading → ℕ → ℕ
reading_register r part = cond (eqb part 0) (high_word r.value) (cond (eqb part 1) (low_word r.value) (number_of r.quality))

-- "+0 value, +2 id, +3 units (W), +4 quality, +5 sentinel (W, default 0.0), +7 available units"
unfoldable pub parameter_register : ℕ → Sensor → ℕ → ℕ → ℕ
parameter_register sensor s k part =
    cond (eqb part 2) (shown_id sensor s.setup k)
    (cond (eqb part 3) (parameter_of s.setup.parameters k).units
    (cond (eqb part 5) (high_word (parameter_of s.setup.parameters k).sentinel) (cond (eqb part 6) (low_word (parameter_of s.setup.parameters k).sentinel)
    (cond (eqb part 7) (option_map_or available_units (quantity_of sensor k) 0)
    (reading_register (reading_of sensor s k) part)))))

-- "offsets: 0 sensor number; 1..2 last calibration; 3..4 next (W); 5 command ..; 6 method ..; 7 number of parameters"
unfoldable pub head_register : ℕ → Setup → ℕ → ℕ
head_register sensor s o =
    cond (eqb o 0) sensor
    (cond (eqb o 1) (s.active.calibration.time / 65536) (cond (eqb o 2) (s.active.calibration.time % 65536)
    (cond (eqb o 3) (s.active.next / 65536) (cond (eqb o 4) (s.active.next % 65536)
    (cond (eqb o 5) (mode_of s)
    (cond (eqb o 6) s.procedure.method
    (cond (eqb o 7) (count_of sensor) 0)))))))

-- "10, 12, 14 figures ..; 16, 18, 20, 22 x1, y1, x2, y2"; "Parameter k begins at 30 + 8 × (k - 1)"
unfoldable pub sensor_register : ℕ → Sensor → ℕ → ℕ
sensor_register sensor s o =
    cond (ltb o 10) (head_register sensor s.setup o)
    (cond (ltb o 16) (coefficient_register (shown_coefficients s.setup) o)
    (cond (ltb o 24) (point_register s.setup.procedure.points o)
    (cond (ltb o 30) 0
    (cond (ltb o 54) (parameter_register sensor s (parameter_number o) (parameter_part o)) 0))))

-- "Device: 0 map version 3; 1 device id 1; 2..3 clock; 4, 5, 6 good, bad, exception counters; 7 capacity; 8 in use". Document 02, wish 3: "Device
-- register 9 becomes writable, a number 0..65535", the technician's
unfoldable pub device_register : Device → ℕ → ℕ
device_register d o =
    cond (eqb o 0) 3
    (cond (eqb o 1) 1
    (cond (eqb o 2) (d.clock / 65536) (cond (eqb o 3) (d.clock % 65536)
    (cond (eqb o 4) d.good
    (cond (eqb o 5) d.bad
    (cond (eqb o 6) d.exceptions
    (cond (eqb o 7) d.capacity
    (cond (eqb o 8) d.used
    (cond (eqb o 9) d.technician 0)))))))))

-- "Sensor s begins at 100 × s": a register by its owner, 0 for the device or a sensor's number, and its offset
unfoldable pub register_of : ℕ → Device → Sensor → ℕ → ℕ
register_of owner d s o = cond (eqb owner 0) (device_register d o) (sensor_register owner s o)
