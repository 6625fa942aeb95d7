-- The registers that document 01's map names, range by range, with no look at the table of fields. Document 01, "Register map".
-- Assumes nothing.
use Rattle.std.specs.Prelude.{Bool, ◌&&◌, ◌||◌, not, cond, ℕ, ◌/◌, ◌%◌, eqb, leb, ltb}

abbrev between : ℕ → ℕ → ℕ → Bool
between low high x = leb low x && leb x high

-- "Parameter k begins at 30 + 8 × (k - 1)": 3 parameters on sensor 1, 2 on sensor 3, 1 on sensors 2 and 4
abbrev pub parameter_end : ℕ → ℕ
parameter_end s = cond (eqb s 1) 53 (cond (eqb s 3) 45 37)

-- "offsets: 0 sensor number; 1..2 last calibration; 3..4 next; 5 command; 6 method; 7 number of parameters; 10, 12, 14 figures; 16, 18, 20, 22
-- x1, y1, x2, y2", "Figure 3 exists on sensor 3 only; 6 and 16..23 not on sensor 3"
abbrev pub sensor_map : ℕ → ℕ → Bool
sensor_map s o =
    (leb o 7 && not (eqb s 3 && eqb o 6))
    || between 10 13 o
    || (eqb s 3 && between 14 15 o)
    || (not (eqb s 3) && between 16 23 o)
    || between 30 (parameter_end s) o

-- "Device: 0 map version 3; 1 device id 1; 2..3 clock; 4, 5, 6 .. counters; 7 capacity; 8 in use. Sensor s begins at 100 × s"; document
-- 02, wish 3: "Device register 9"
unfoldable pub in_map : ℕ → Bool
in_map r = cond (ltb r 100) (leb r 9) (ltb r 500 && sensor_map (r / 100) (r % 100))
