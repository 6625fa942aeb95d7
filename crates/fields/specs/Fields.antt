-- The map of registers as one table of fields: which registers exist, which are one whole field, and which can be written. Document 01,
-- "Register map". Assumes nothing.
use Rattle.std.specs.Prelude.{Bool, true, false, ◌&&◌, not, cond, List, [], ◌∷◌, Option, Some, None, Result, Ok, Err, ℕ, zero, suc, ◌+◌, ◌/◌, ◌%◌, eqb, leb, ltb}
use Rattle.std.specs.Int.Bits.{bit_and}
use Rattle.refusals.specs.declared.codes.Code.{Code}
use Rattle.refusals.specs.declared.codes.Code.TheVariants.{IllegalDataAddress}
use Rattle.fields.specs.declared.Access.{Access}
use Rattle.fields.specs.declared.Access.TheVariants.{ReadOnly, Writable, Modal}
use Rattle.fields.specs.declared.Field.{Field}

-- "W is writable, M writable in mode only, the rest read-only"
abbrev pub is_read_only : Access → Bool
is_read_only ReadOnly = true
is_read_only Writable = false
is_read_only Modal = false

abbrev pub is_modal : Access → Bool
is_modal ReadOnly = false
is_modal Writable = false
is_modal Modal = true

-- offset, words, access and owners (bit 0 the device, bit s sensor s): 1 is the device, 30 all sensors, 22 sensors 1, 2 and 4, 10 sensors 1 and 3,
-- 8 sensor 3, 2 sensor 1
abbrev pub field : ℕ → ℕ → Access → ℕ → Field
field offset words access owners = record { offset = offset; words = words; access = access; owners = owners }

-- an owner's fields stand in the order of their offsets
abbrev pub fields : List Field
fields =
    field 0 1 ReadOnly 1 ∷  -- the map's version
    field 1 1 ReadOnly 1 ∷  -- the device's id
    field 2 2 ReadOnly 1 ∷  -- the clock
    field 4 1 ReadOnly 1 ∷  -- good messages
    field 5 1 ReadOnly 1 ∷  -- bad messages
    field 6 1 ReadOnly 1 ∷  -- exceptions
    field 7 1 ReadOnly 1 ∷  -- the journal's capacity
    field 8 1 ReadOnly 1 ∷  -- entries in use
    field 9 1 Writable 1 ∷  -- the technician's number; document 02, wish 3: "Device register 9 becomes writable"
    field 0 1 ReadOnly 30 ∷  -- the sensor's number
    field 1 2 ReadOnly 30 ∷  -- last calibration
    field 3 2 Writable 30 ∷  -- next calibration
    field 5 1 Writable 30 ∷  -- command
    field 6 1 Modal 22 ∷  -- method
    field 7 1 ReadOnly 30 ∷  -- number of parameters
    field 10 2 Modal 30 ∷  -- coefficient 1
    field 12 2 Modal 30 ∷  -- coefficient 2
    field 14 2 Modal 8 ∷  -- coefficient 3
    field 16 2 Modal 22 ∷  -- x1
    field 18 2 Modal 22 ∷  -- y1
    field 20 2 Modal 22 ∷  -- x2
    field 22 2 Modal 22 ∷  -- y2
    field 30 2 ReadOnly 30 ∷  -- parameter 1: value
    field 32 1 ReadOnly 30 ∷  -- parameter 1: id
    field 33 1 Writable 30 ∷  -- parameter 1: units
    field 34 1 ReadOnly 30 ∷  -- parameter 1: quality
    field 35 2 Writable 30 ∷  -- parameter 1: sentinel
    field 37 1 ReadOnly 30 ∷  -- parameter 1: available units
    field 38 2 ReadOnly 10 ∷  -- parameter 2: value
    field 40 1 ReadOnly 2 ∷  -- parameter 2: id, of sensor 1
    field 40 1 Writable 8 ∷  -- parameter 2: id, of the level
    field 41 1 Writable 10 ∷  -- parameter 2: units
    field 42 1 ReadOnly 10 ∷  -- parameter 2: quality
    field 43 2 Writable 10 ∷  -- parameter 2: sentinel
    field 45 1 ReadOnly 10 ∷  -- parameter 2: available units
    field 46 2 ReadOnly 2 ∷  -- parameter 3: value
    field 48 1 ReadOnly 2 ∷  -- parameter 3: id
    field 49 1 Writable 2 ∷  -- parameter 3: units
    field 50 1 ReadOnly 2 ∷  -- parameter 3: quality
    field 51 2 Writable 2 ∷  -- parameter 3: sentinel
    field 53 1 ReadOnly 2 ∷  -- parameter 3: available units
    []

-- the bit of the owner whose registers begin at 100 × owner: 0 is the device, 1..4 are the sensors; nobody else owns a field
unfoldable pub owner_bit : ℕ → ℕ
owner_bit owner =
    cond (eqb owner 0) 1 (cond (eqb owner 1) 2 (cond (eqb owner 2) 4 (cond (eqb owner 3) 8 (cond (eqb owner 4) 16 0))))

unfoldable pub owns : Field → ℕ → Bool
owns f owner = not (eqb (bit_and f.owners (owner_bit owner)) 0)

-- the owner's register at the offset is one of the field's
unfoldable pub holds : Field → ℕ → ℕ → Bool
holds f owner offset = owns f owner && leb f.offset offset && ltb offset (f.offset + f.words)

-- the owner's registers from the offset on, so many, are the field's, all of them and no other
unfoldable pub exactly : Field → ℕ → ℕ → ℕ → Bool
exactly f owner offset count = owns f owner && eqb f.offset offset && eqb f.words count

-- the first row that passes a test
abbrev pub first_of : (Field → Bool) → List Field → Option Field
first_of t [] = None
first_of t (f ∷ fs) = cond (t f) (Some f) (first_of t fs)

-- "Sensor s begins at 100 × s"; the device's registers begin at 0
unfoldable pub field_at : ℕ → Option Field
field_at register = first_of (λ f. holds f (register / 100) (register % 100)) fields

abbrev pub found : Option Field → Bool
found (Some f) = true
found None = false

-- "a register named is absent, or past 0xFFFF": count registers from r on all exist
abbrev pub all_found : ℕ → ℕ → Bool
all_found r zero = true
all_found r (suc n) = found (field_at r) && all_found (suc r) n

-- "exactly one whole field"
unfoldable pub whole_field : ℕ → ℕ → Option Field
whole_field start count = first_of (λ f. exactly f (start / 100) (start % 100) count) fields

-- what count registers from start on are: the one whole field that they are, or none where they all exist and aren't one; code 2: "a register named is
-- absent, or past 0xFFFF"
unfoldable pub span_of : ℕ → ℕ → Result (Option Field) Code
span_of start count = cond (all_found start count) (Ok (whole_field start count)) (Err IllegalDataAddress)
