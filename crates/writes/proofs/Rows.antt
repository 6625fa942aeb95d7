-- What the table has of the fields that can be written, by the ranges that a write tells apart: each rule is a computed test over the rows.
-- Assumes nothing.
use mathlib.Core.Path.{◌≡◌, refl}
use mathlib.Core.Bool.{Bool, true, ◌&&◌, ◌||◌, not, cond, beq}
use Prim.Native.Nat.{ℕ, ◌/◌, ◌%◌, ◌≤◌}
use lib.Dec.{eqb, leb, ltb}
use borrow.Author.Tests.{eqb-true, eq-eqb, le-leb}
use Rattle.floats.proofs.Bools.{beq_true}
use Rattle.parameters.specs.Parameters.{parameter_part}
use Rattle.fields.specs.declared.Access.TheVariants.{ReadOnly, Modal}
use Rattle.fields.specs.declared.Field.{Field}
use Rattle.std.specs.Prelude.{Some}
use Rattle.fields.specs.Fields.{is_read_only, is_modal, fields, owner_bit, owns, field_at}
use Rattle.fields.proofs.Computed.{other, given, not_read_only, modal_access, every, below, at_number}
use Rattle.fields.proofs.Registers.{owner_below, found_test, found_covered}

-- the fields of one word: the command, the method, the technician's number, and of a parameter the id and the units, parts 2 and 3
abbrev pub one_word : ℕ → Bool
one_word o = cond (ltb o 30) (eqb o 5 || (eqb o 6 || eqb o 9)) (leb (parameter_part o) 3)

-- the parts of a parameter that show no measurement
abbrev pub settled : ℕ → Bool
settled part = eqb part 2 || (eqb part 3 || eqb part 5)

-- the row of a register, where it can be written
module _ (r : ℕ) (f : Field) (found : field_at r ≡ Some f) (writable : f.access ≡ ReadOnly → ⊥) where
  abbrev o : ℕ
  o = f.offset

  -- it passes a test that all such rows pass
  passes : (t : Field → Bool) → every (λ g. is_read_only g.access || t g) fields ≡ true → t f ≡ true
  passes t h = other (is_read_only f.access) (t f) (not_read_only f.access writable) (found_test (λ g. is_read_only g.access || t g) h r f found)

  -- it passes t where it passes c, if all such rows do
  rule : (c t : Field → Bool) → every (λ g. is_read_only g.access || (not (c g) || t g)) fields ≡ true → c f ≡ true → t f ≡ true
  rule c t h = given (c f) (t f) (passes (λ g. not (c g) || t g) h)

  pub one_word_holds : eqb f.words 1 ≡ one_word o
  one_word_holds = beq_true (eqb f.words 1) (one_word o) (passes (λ g. beq (eqb g.words 1) (one_word g.offset)) refl)

  -- coefficients and points begin at even offsets
  pub even : 10 ≤ o → o ≤ 23 → o % 2 ≡ 0
  even l h = eqb-true (o % 2) 0 (rule (λ g. leb 10 g.offset && leb g.offset 23) (λ g. eqb (g.offset % 2) 0) refl (rw (le-leb 10 o l, le-leb o 23 h)))

  -- coefficients are writable in mode only
  pub modal : 10 ≤ o → o ≤ 15 → f.access ≡ Modal
  modal l h = modal_access f.access (rule (λ g. leb 10 g.offset && leb g.offset 15) (λ g. is_modal g.access) refl (rw (le-leb 10 o l, le-leb o 15 h)))

  -- the id that can be written is parameter 2's
  pub level_offset : parameter_part o ≡ 2 → o ≡ 40
  level_offset p = eqb-true o 40 (rule (λ g. eqb (parameter_part g.offset) 2) (λ g. eqb g.offset 40) refl (eq-eqb (parameter_part o) 2 p))

  -- and sensor 3's
  pub level_sensor : parameter_part o ≡ 2 → r / 100 ≡ 3
  unfolding owns owner_bit
  level_sensor p =
      let own = (found_covered r f found).owned in
      let only = rule (λ g. eqb (parameter_part g.offset) 2) (λ g. below (λ k. not (owns g k) || eqb k 3) 5) refl (eq-eqb (parameter_part o) 2 p) in
      eqb-true (r / 100) 3 (given (owns f (r / 100)) (eqb (r / 100) 3) (at_number (λ k. not (owns f k) || eqb k 3) 5 only (r / 100) (owner_below f (r / 100) own)) own)

  -- of a parameter no part that shows a measurement can be written
  pub written_part : 30 ≤ o → settled (parameter_part o) ≡ true
  written_part l = rule (λ g. leb 30 g.offset) (λ g. settled (parameter_part g.offset)) refl (le-leb 30 o l)
