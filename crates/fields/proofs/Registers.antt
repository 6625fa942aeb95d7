-- The field of a register has what every row has, the registers that have one are those of the map, and each register of a whole field finds
-- that field: all by tests computed over the rows or the 500 registers. Assumes nothing.
use mathlib.Core.Path.{◌≡◌, refl, sym, ap, ◌∙◌}
use mathlib.Core.Bool.{Bool, true, false, beq, ◌&&◌, ◌||◌, not, false≢true}
use Prim.Native.Nat.{ℕ, ◌+◌, ◌*◌, ◌/◌, ◌%◌, ◌<◌, ◌≤◌}
use native.Mathlib.Nat.{add-zero}
use native.Mathlib.Omega.{arith}
use lib.Bits.{and_zero_r}
use lib.Dec.{eqb, leb, ltb}
use borrow.Author.Tests.{eqb-true, eq-eqb, ne_eqb, leb-true, ltb-true, ltb-false, le-ltb}
use Rattle.floats.proofs.Bools.{both, beq_true}
use Rattle.fields.specs.declared.Access.{Access}
use Rattle.fields.specs.declared.Access.TheVariants.{ReadOnly, Writable, Modal}
use Rattle.fields.specs.declared.Field.{Field}
use Rattle.std.specs.Prelude.{Option, Some, None}
use Rattle.fields.specs.Fields.{is_read_only, is_modal, field, fields, owner_bit, owns, holds, exactly, field_at, found, whole_field}
use Rattle.fields.specs.Map.{in_map}
use Rattle.fields.proofs.Computed.{given, every, below, at_number, everywhere, first_passes, also_found, none_found}

-- ---- owners

-- only the device and sensors 1 to 4 own fields
pub unowned : (f : Field) (owner : ℕ) → 5 ≤ owner → owns f owner ≡ false
unfolding owns owner_bit
unowned f owner h =
    simp (ne_eqb owner 0 (λ e. omega arith), ne_eqb owner 1 (λ e. omega arith), ne_eqb owner 2 (λ e. omega arith), ne_eqb owner 3 (λ e. omega arith), ne_eqb owner 4 (λ e. omega arith), and_zero_r)

-- so an owner is 0 to 4
pub owner_below : (f : Field) (owner : ℕ) → owns f owner ≡ true → owner < 5
owner_below f owner o = go (ltb owner 5) refl
  where
    go : (b : Bool) → ltb owner 5 ≡ b → owner < 5
    go true q = ltb-true owner 5 q
    go false q = absurd (false≢true (sym (unowned f owner (ltb-false owner 5 q)) ∙ o))

-- nor do they hold a register of any other owner
pub unheld : (f : Field) (owner offset : ℕ) → 5 ≤ owner → holds f owner offset ≡ false
unfolding holds
unheld f owner offset h = rw (unowned f owner h)

-- no register from 500 on is in the map
pub past : (r : ℕ) → 500 ≤ r → field_at r ≡ None
unfolding field_at
past r h = none_found _ fields (λ f. unheld f (r / 100) (r % 100) (omega arith))

-- ---- the row of a register

-- a test that every row of the table passes is passed by the row of a register
pub found_test : (t : Field → Bool) → every t fields ≡ true → (r : ℕ) (f : Field) → field_at r ≡ Some f → t f ≡ true
unfolding field_at
found_test t h r f e = (first_passes (λ g. holds g (r / 100) (r % 100)) t fields h f e).1

-- the register at an offset of an owner is one of a field's words
pub record Covered (f : Field) (owner offset : ℕ) : Type 0 where
  pub owned : owns f owner ≡ true
  pub from : f.offset ≤ offset
  pub within : offset < f.offset + f.words

-- what `holds` says, in parts
pub held_parts : (f : Field) (owner offset : ℕ) → holds f owner offset ≡ true → Covered f owner offset
unfolding holds
held_parts f owner offset e =
    let p = both (owns f owner && leb f.offset offset) (ltb offset (f.offset + f.words)) e in
    let q = both (owns f owner) (leb f.offset offset) p.0 in
    record { owned = q.0; from = leb-true _ _ q.1; within = ltb-true _ _ p.1 }

-- the row of a register owns it and covers its offset
pub found_covered : (r : ℕ) (f : Field) → field_at r ≡ Some f → Covered f (r / 100) (r % 100)
unfolding field_at
found_covered r f e = held_parts f (r / 100) (r % 100) (first_passes (λ g. holds g (r / 100) (r % 100)) (λ g. true) fields refl f e).0

-- ---- the shape of a row

pub record Shape (f : Field) : Type 0 where
  pub some : 1 ≤ f.words
  pub few : f.words ≤ 2
  pub ends : f.offset + f.words ≤ 99

abbrev pub shaped : Field → Bool
shaped f = (leb 1 f.words && leb f.words 2) && leb (f.offset + f.words) 99

pub every_shaped : every shaped fields ≡ true
every_shaped = refl

pub shape : (f : Field) → shaped f ≡ true → Shape f
shape f e =
    let p = both (leb 1 f.words && leb f.words 2) (leb (f.offset + f.words) 99) e in
    let q = both (leb 1 f.words) (leb f.words 2) p.0 in
    record { some = leb-true _ _ q.0; few = leb-true _ _ q.1; ends = leb-true _ _ p.1 }

-- a row has one or two words and ends before the last register of its block
pub found_shape : (r : ℕ) (f : Field) → field_at r ≡ Some f → Shape f
found_shape r f e = shape f (found_test shaped every_shaped r f e)

-- no last register of a block exists
pub found_inside : (r : ℕ) → found (field_at r) ≡ true → r % 100 < 99
found_inside r = go (field_at r) refl
  where
    go : (x : Option Field) → field_at r ≡ x → found x ≡ true → r % 100 < 99
    go None q e = absurd (false≢true e)
    go (Some f) q e = omega (arith, (found_covered r f q).within, (found_shape r f q).ends)

-- ---- the map

mapped : below (λ r. beq (found (field_at r)) (in_map r)) 500 ≡ true
unfolding field_at holds owns owner_bit in_map
mapped = refl

-- the registers of the table are those of the map
pub map_exact : (r : ℕ) → found (field_at r) ≡ in_map r
unfolding in_map
map_exact r = beq_true _ _ (everywhere (λ r. beq (found (field_at r)) (in_map r)) 500 mapped outside r)
  where
    outside : (r : ℕ) → 500 ≤ r → beq (found (field_at r)) (in_map r) ≡ true
    outside r h = rw (past r h, le-ltb r 100 (omega arith), le-ltb r 500 h)

-- ---- whole fields

abbrev same_access : Access → Access → Bool
same_access ReadOnly b = is_read_only b
same_access Writable b = not (is_read_only b || is_modal b)
same_access Modal b = is_modal b

same_access_lem : (a b : Access) → same_access a b ≡ true → a ≡ b
same_access_lem ReadOnly ReadOnly e = refl
same_access_lem ReadOnly Writable e = absurd (false≢true e)
same_access_lem ReadOnly Modal e = absurd (false≢true e)
same_access_lem Writable ReadOnly e = absurd (false≢true e)
same_access_lem Writable Writable e = refl
same_access_lem Writable Modal e = absurd (false≢true e)
same_access_lem Modal ReadOnly e = absurd (false≢true e)
same_access_lem Modal Writable e = absurd (false≢true e)
same_access_lem Modal Modal e = refl

abbrev is_row : Field → Option Field → Bool
is_row f None = false
is_row f (Some g) = eqb g.offset f.offset && eqb g.words f.words && same_access g.access f.access && eqb g.owners f.owners

is_row_lem : (f : Field) (x : Option Field) → is_row f x ≡ true → x ≡ Some f
is_row_lem f None e = absurd (false≢true e)
is_row_lem f (Some g) e =
    let p = both (eqb g.offset f.offset && eqb g.words f.words && same_access g.access f.access) (eqb g.owners f.owners) e in
    let q = both (eqb g.offset f.offset && eqb g.words f.words) (same_access g.access f.access) p.0 in
    let s = both (eqb g.offset f.offset) (eqb g.words f.words) q.0 in
    let a : g.offset ≡ f.offset = eqb-true _ _ s.0 in
    let b : g.words ≡ f.words = eqb-true _ _ s.1 in
    let c : g.access ≡ f.access = same_access_lem _ _ q.1 in
    let d : g.owners ≡ f.owners = eqb-true _ _ p.1 in
    let all : g ≡ field f.offset f.words f.access f.owners = rw (← a, ← b, ← c, ← d) in
    ap Some all

-- each of a field's registers finds the field, whoever owns it
single : Field → Bool
single f = below (λ owner. not (owns f owner) || below (λ i. is_row f (field_at (100 * owner + (f.offset + i)))) f.words) 5

every_single : every single fields ≡ true
unfolding single field_at holds owns owner_bit
every_single = refl

own_register : (f : Field) (owner i : ℕ) → single f ≡ true → owns f owner ≡ true → i < f.words → field_at (100 * owner + (f.offset + i)) ≡ Some f
unfolding single
own_register f owner i s o h =
    let t = at_number (λ k. not (owns f k) || below (λ i. is_row f (field_at (100 * k + (f.offset + i)))) f.words) 5 s owner (owner_below f owner o) in
    is_row_lem f _ (at_number (λ i. is_row f (field_at (100 * owner + (f.offset + i)))) f.words (given (owns f owner) _ t o) i h)

-- what a whole field is
pub record Exact (start count : ℕ) (f : Field) : Type 0 where
  pub field : field_at start ≡ Some f
  pub begins : f.offset ≡ start % 100
  pub all : f.words ≡ count

module _ (start count : ℕ) (f : Field) where
  record Parts : Type 0 where
    owned : owns f (start / 100) ≡ true
    begins : f.offset ≡ start % 100
    all : f.words ≡ count

  parts : exactly f (start / 100) (start % 100) count ≡ true → Parts
  unfolding exactly
  parts e =
      let p = both (owns f (start / 100) && eqb f.offset (start % 100)) (eqb f.words count) e in
      let q = both (owns f (start / 100)) (eqb f.offset (start % 100)) p.0 in
      record { owned = q.0; begins = eqb-true _ _ q.1; all = eqb-true _ _ p.1 }

  -- a row of the table that is exactly these registers is found at each of them
  exact_register : single f ≡ true → exactly f (start / 100) (start % 100) count ≡ true → (i : ℕ) → i < count → field_at (start + i) ≡ Some f
  exact_register s e i h =
      let p = parts e in
      let r : start + i ≡ 100 * (start / 100) + (f.offset + i) = omega arith in
      rw r (own_register f (start / 100) i s p.owned (omega arith))

  module _ (e : whole_field start count ≡ Some f) where
    passed : (t : Field → Bool) → every t fields ≡ true → (exactly f (start / 100) (start % 100) count ≡ true) × (t f ≡ true)
    unfolding whole_field
    passed t h = first_passes (λ g. exactly g (start / 100) (start % 100) count) t fields h f e

    -- the registers of a whole field are its own
    pub whole-registers : (i : ℕ) → i < count → field_at (start + i) ≡ Some f
    whole-registers i h = exact_register (passed single every_single).1 (passed single every_single).0 i h

    -- they begin where the field does and are as many
    pub whole_row : Exact start count f
    whole_row =
        let p = parts (passed shaped every_shaped).0 in
        let s = shape f (passed shaped every_shaped).1 in
        record { field = rw add-zero at (whole-registers 0 (omega arith)); begins = p.begins; all = p.all }

-- and the other way round
pub row_whole : (start count : ℕ) (f : Field) → Exact start count f → whole_field start count ≡ Some f
unfolding whole_field field_at exactly
row_whole start count f x =
    go (whole_field start count) refl
    (also_found (λ g. holds g (start / 100) (start % 100)) (λ g. exactly g (start / 100) (start % 100) count) fields f x.field is)
  where
    is : exactly f (start / 100) (start % 100) count ≡ true
    is = rw ((found_covered start f x.field).owned, eq-eqb f.offset (start % 100) x.begins, eq-eqb f.words count x.all)

    go : (y : Option Field) → whole_field start count ≡ y → found y ≡ true → y ≡ Some f
    go None q e = absurd (false≢true e)
    go (Some g) q e = sym (whole_row start count g q).field ∙ x.field
