-- Which fields can be written, and whose they are, by tests computed over the rows. Assumes nothing.
use mathlib.Core.Path.{◌≡◌, refl, ap}
use mathlib.Core.Bool.{Bool, true, ◌&&◌, ◌||◌, not}
use Prim.Native.Nat.{ℕ, ◌/◌, ◌≤◌}
use native.Mathlib.Omega.{arith}
use lib.Dec.{eqb, leb}
use borrow.Author.Tests.{eqb-true, leb-true}
use Rattle.fields.specs.declared.Access.TheVariants.{ReadOnly, Modal}
use Rattle.fields.specs.declared.Field.{Field}
use Rattle.std.specs.Prelude.{Some}
use Rattle.fields.specs.Fields.{is_read_only, is_modal, fields, owner_bit, owns, field_at}
use Rattle.fields.proofs.Computed.{other, given, not_read_only, every}
use Rattle.fields.proofs.Registers.{owner_below, found_test, found_covered}

-- the owner of a register is the device or a sensor
pub found_owner : (r : ℕ) (f : Field) → field_at r ≡ Some f → r / 100 ≤ 4
found_owner r f e = omega (arith, owner_below f (r / 100) (found_covered r f e).owned)

written : Field → Bool
written f = is_read_only f.access || (not (owns f 0) || eqb f.offset 9)

every_written : every written fields ≡ true
unfolding written owns owner_bit
every_written = refl

-- the device's one field that can be written is the technician's number, register 9
pub device_written_lem : (r : ℕ) (f : Field) → field_at r ≡ Some f → (f.access ≡ ReadOnly → ⊥) → r / 100 ≡ 0 → f.offset ≡ 9
unfolding written
device_written_lem r f e a z =
    let o : owns f 0 ≡ true = rw z at (found_covered r f e).owned in
    let t = other (is_read_only f.access) (not (owns f 0) || eqb f.offset 9) (not_read_only f.access a) (found_test written every_written r f e) in
    eqb-true f.offset 9 (given (owns f 0) (eqb f.offset 9) t o)

short : Field → Bool
short f = leb f.words 2

every_short : every short fields ≡ true
unfolding short
every_short = refl

-- no field has more than two words
pub two_words : (r : ℕ) (f : Field) → field_at r ≡ Some f → f.words ≤ 2
unfolding short
two_words r f e = leb-true f.words 2 (found_test short every_short r f e)

-- the method's, a coefficient's or a point's offset
abbrev pub calibration_offset : ℕ → Bool
calibration_offset o = eqb o 6 || (leb 10 o && leb o 23)

modal : Field → Bool
modal f = not (is_modal f.access) || calibration_offset f.offset

every_modal : every modal fields ≡ true
unfolding modal
every_modal = refl

-- what is writable in mode only is the method, a coefficient or a point
pub modal_field : (r : ℕ) (f : Field) → field_at r ≡ Some f → f.access ≡ Modal → calibration_offset f.offset ≡ true
unfolding modal
modal_field r f e a = given (is_modal f.access) (calibration_offset f.offset) (found_test modal every_modal r f e) (ap is_modal a)
