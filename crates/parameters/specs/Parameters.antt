-- The parameters of the sensors. Document 01, "Register map", the table of ids and units. Assumes nothing.
use Rattle.std.specs.Prelude.{Bool, ◌&&◌, ◌||◌, cond, ℕ, zero, suc, ◌+◌, ◌-◌, ◌*◌, ◌/◌, ◌%◌, eqb, leb, Float, Option, Some, None}
use Rattle.std.specs.Float.{binary32}
use Rattle.std.specs.Float.Ieee.{add, mul}
use Rattle.floats.specs.Floats.{near}
use Rattle.parameters.specs.declared.Quantity.{Quantity}
use Rattle.parameters.specs.declared.Quantity.TheVariants.{Temperature, Conductivity, Resistivity, Oxygen, Pressure, Level, Chlorophyll}

-- "number of parameters"
unfoldable pub count_of : ℕ → ℕ
count_of sensor = cond (eqb sensor 1) 3 (cond (eqb sensor 2) 1 (cond (eqb sensor 3) 2 (cond (eqb sensor 4) 1 0)))

-- "Parameter k begins at 30 + 8 × (k - 1)": which parameter has a sensor's register, by its offset, and which of the eight it is
abbrev pub parameter_number : ℕ → ℕ
parameter_number offset = (offset - 30) / 8 + 1

abbrev pub parameter_part : ℕ → ℕ
parameter_part offset = (offset - 30) % 8

-- which parameters a sensor has, by their numbers
unfoldable pub quantity_of : ℕ → ℕ → Option Quantity
quantity_of sensor k =
    cond (eqb sensor 1) (cond (eqb k 1) (Some Temperature) (cond (eqb k 2) (Some Conductivity) (cond (eqb k 3) (Some Resistivity) None)))
    (cond (eqb sensor 2) (cond (eqb k 1) (Some Oxygen) None)
    (cond (eqb sensor 3) (cond (eqb k 1) (Some Pressure) (cond (eqb k 2) (Some Level) None))
    (cond (eqb sensor 4) (cond (eqb k 1) (Some Chlorophyll) None) None)))

-- the column "id"; of the level's three the first
abbrev pub id_of : Quantity → ℕ
id_of Temperature = 1
id_of Conductivity = 9
id_of Resistivity = 11
id_of Oxygen = 20
id_of Pressure = 2
id_of Level = 3
id_of Chlorophyll = 51

-- the quantity that an id names
unfoldable pub quantity_by : ℕ → Option Quantity
quantity_by id =
    cond (eqb id 1) (Some Temperature)
    (cond (eqb id 9) (Some Conductivity)
    (cond (eqb id 11) (Some Resistivity)
    (cond (eqb id 20) (Some Oxygen)
    (cond (eqb id 2) (Some Pressure) (cond (eqb id 3) (Some Level) (cond (eqb id 51) (Some Chlorophyll) None))))))

-- the column "units": "Defaults are the first listed"
abbrev pub default_units : Quantity → ℕ
default_units Temperature = 1
default_units Conductivity = 65
default_units Resistivity = 81
default_units Oxygen = 117
default_units Pressure = 17
default_units Level = 35
default_units Chlorophyll = 118

-- the units listed: 1 and 2; 65; 81; 117; 17, 19, 20, 21, 22; 35; 118
abbrev pub units_allowed : Quantity → ℕ → Bool
units_allowed Temperature units = eqb units 1 || eqb units 2
units_allowed Conductivity units = eqb units 65
units_allowed Resistivity units = eqb units 81
units_allowed Oxygen units = eqb units 117
units_allowed Pressure units = eqb units 17 || (leb 19 units && leb units 22)
units_allowed Level units = eqb units 35
units_allowed Chlorophyll units = eqb units 118

-- the column "available"
abbrev pub available_units : Quantity → ℕ
available_units Temperature = 0x0003
available_units Conductivity = 1
available_units Resistivity = 1
available_units Oxygen = 0x0010
available_units Pressure = 0x003D
available_units Level = 0x0004
available_units Chlorophyll = 0x0020

-- ---- what the column "available" says: "Bit n of available units is the units id n above 1, 17, 33, 65, 81 or 113, the nearest of these not
-- above it." parameters/proofs/Units has that law.

-- "1, 17, 33, 65, 81 or 113, the nearest of these not above it"
abbrev pub units_base : ℕ → ℕ
units_base u = cond (leb 113 u) 113 (cond (leb 81 u) 81 (cond (leb 65 u) 65 (cond (leb 33 u) 33 (cond (leb 17 u) 17 1))))

abbrev pub two_to : ℕ → ℕ
two_to zero = 1
two_to (suc n) = 2 * two_to n

-- the bits of the units below m that are listed for a parameter
abbrev pub listed_bits : Quantity → ℕ → ℕ
listed_bits q zero = 0
listed_bits q (suc m) = cond (units_allowed q m) (two_to (m - units_base m)) 0 + listed_bits q m

-- ---- level and conversion

-- "3, 4 or 5 (W)"
unfoldable pub level_allowed : ℕ → Bool
level_allowed id = leb 3 id && leb id 5

-- "2 °F = C × 1.8 + 32", "19, 20, 21, 22 = psi × 6.894757, 0.06894757, 68.94757, 51.71493"; other units are the value's own
unfoldable pub converted : ℕ → Float → Float
converted units x =
    cond (eqb units 2) (add binary32 (mul binary32 x (near 18 10)) (near 32 1))
    (cond (eqb units 19) (mul binary32 x (near 6894757 1000000))
    (cond (eqb units 20) (mul binary32 x (near 6894757 100000000))
    (cond (eqb units 21) (mul binary32 x (near 6894757 100000))
    (cond (eqb units 22) (mul binary32 x (near 5171493 100000)) x))))
