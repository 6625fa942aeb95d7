-- A search from a row on is a test of that row and the search from the next; it may begin at row offset / 2, since no row has more than two
-- words. Assumes nothing.
use mathlib.Core.Path.{◌≡◌, refl}
use mathlib.Core.Bool.{Bool, true, false, not, and-false}
use mathlib.Core.List.{List, [], ◌∷◌}
use Prim.Native.Nat.{ℕ, zero, suc, ◌+◌, ◌/◌, ◌%◌, ◌<◌}
use native.Mathlib.Nat.{le_of_suc-le-suc, not-suc-le-zero}
use native.Mathlib.Numerals.{add-one}
use native.Mathlib.Omega.{arith}
use lib.Dec.{leb, ltb}
use lib.ListN.{length, get_or, take, drop}
use lib.Seq.{drop-cons}
use borrow.Author.Tests.{ltb-true, ne_eqb, not-true}
use Rattle.floats.proofs.Bools.{both}
use Rattle.fields.specs.declared.Access.TheVariants.{ReadOnly}
use Rattle.fields.specs.declared.Field.{Field}
use Rattle.fields.specs.Fields.{field, fields, exactly, first_of, whole_field}
use Rattle.std.specs.Prelude.{Some}
use Rattle.fields.proofs.Computed.{every}
use Rattle.fields.proofs.Registers.{Shape, shaped, shape, every_shaped}
use Rattle.fields.proofs.Runs.{reach, reached, before, half_before}

-- what stands past the table's end
abbrev pub no_field : Field
no_field = field 0 0 ReadOnly 0

module _ (fs : List Field) (i : ℕ) (h : i < length fs) where
  -- what is left from a row on
  from_row : drop i fs ≡ get_or fs i no_field ∷ drop (i + 1) fs
  from_row = rw (add-one, drop-cons fs i no_field)

  -- a search stops at a row that passes
  pub hit : (t : Field → Bool) → t (get_or fs i no_field) ≡ true → first_of t (drop i fs) ≡ Some (get_or fs i no_field)
  hit t e = rw (from_row, e)

  -- it goes on at a row that doesn't
  pub miss : (t : Field → Bool) → t (get_or fs i no_field) ≡ false → first_of t (drop i fs) ≡ first_of t (drop (i + 1) fs)
  miss t e = rw (from_row, e)

  -- the pass over the rows takes each in turn
  pub more : (owner at : ℕ) → reached (drop i fs) owner at ≡ reached (drop (i + 1) fs) owner (reach (get_or fs i no_field) owner at)
  more owner at = rw from_row

-- a row by its index, of the table from some row on, has a row's shape
pub row_shape : (k i : ℕ) → i < length (drop k fields) → Shape (get_or (drop k fields) i no_field)
row_shape k i h = shape _ (at (drop k fields) (later k fields every_shaped) i h)
  where
    later : (k : ℕ) (fs : List Field) → every shaped fs ≡ true → every shaped (drop k fs) ≡ true
    later zero fs e = e
    later (suc k) [] e = refl
    later (suc k) (f ∷ fs) e = later k fs (both (shaped f) (every shaped fs) e).1

    at : (fs : List Field) → every shaped fs ≡ true → (i : ℕ) → i < length fs → shaped (get_or fs i no_field) ≡ true
    at [] e i h = absurd (not-suc-le-zero h)
    at (f ∷ fs) e zero h = (both (shaped f) (every shaped fs) e).0
    at (f ∷ fs) e (suc i) h = at fs (both (shaped f) (every shaped fs) e).1 i (le_of_suc-le-suc h)

-- ---- where the search begins

skip : (t : Field → Bool) (k : ℕ) (fs : List Field) → every (λ f. not (t f)) (take k fs) ≡ true → first_of t fs ≡ first_of t (drop k fs)
skip t zero fs e = refl
skip t (suc k) [] e = refl
skip t (suc k) (f ∷ fs) e =
    let p = both (not (t f)) (every (λ f. not (t f)) (take k fs)) e in
    rw (not-true (t f) p.0) (skip t k fs p.1)

elsewhere : (owner o count : ℕ) (fs : List Field) → every (before o) fs ≡ true → every (λ f. not (exactly f owner o count)) fs ≡ true
unfolding exactly
elsewhere owner o count [] e = refl
elsewhere owner o count (f ∷ fs) e =
    let p = both (before o f) (every (before o) fs) e in
    let l : f.offset < o = ltb-true _ _ (both (ltb f.offset o) (leb (f.offset + f.words) o) p.0).0 in
    rw (ne_eqb f.offset o (λ q. omega arith), and-false) (elsewhere owner o count fs p.1)

-- the search for a whole field may begin at row offset / 2
pub whole_begins : (start count : ℕ) → whole_field start count ≡ first_of (λ f. exactly f (start / 100) (start % 100) count) (drop (start % 100 / 2) fields)
unfolding whole_field
whole_begins start count =
    skip (λ f. exactly f (start / 100) (start % 100) count) (start % 100 / 2) fields
    (elsewhere (start / 100) (start % 100) count (take (start % 100 / 2) fields) (half_before start))
