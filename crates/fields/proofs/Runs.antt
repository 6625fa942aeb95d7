-- Registers that adjoin: one pass over the rows tells how far those that exist reach, since an owner's rows stand in order. Assumes nothing.
use mathlib.Core.Path.{◌≡◌, refl, sym, ap, ◌∙◌}
use mathlib.Core.Bool.{Bool, true, false, ◌&&◌, cond, false≢true, and-false}
use mathlib.Core.List.{List, [], ◌∷◌}
use Prim.Native.Nat.{ℕ, zero, suc, ◌+◌, ◌/◌, ◌%◌, ◌<◌, ◌≤◌}
use native.Mathlib.Nat.{add-zero, le_refl, le_of_suc-le-suc, not-suc-le-zero}
use native.Mathlib.Omega.{arith}
use lib.Dec.{eqb, leb, ltb}
use lib.ListN.{take, drop}
use borrow.Author.Tests.{eqb-true, eq-eqb, leb-true, ltb-true, ltb-false, le-leb, lt-leb, le-ltb}
use Rattle.floats.proofs.Bools.{both}
use Rattle.fields.specs.declared.Field.{Field}
use Rattle.std.specs.Prelude.{Some}
use Rattle.fields.specs.Fields.{fields, owner_bit, owns, holds, field_at, found, all_found, whole_field}
use Rattle.fields.proofs.Computed.{every, below, at_number, everywhere}
use Rattle.fields.proofs.Registers.{Shape, shaped, shape, every_shaped, unheld, past, held_parts, found_inside, whole-registers}

-- ---- one pass

-- the offset that isn't known to exist yet: past the field, where the field holds it
unfoldable pub reach : Field → ℕ → ℕ → ℕ
reach f owner at = cond (holds f owner at) (f.offset + f.words) at

-- row by row
abbrev pub reached : List Field → ℕ → ℕ → ℕ
reached [] owner at = at
reached (f ∷ fs) owner at = reached fs owner (reach f owner at)

-- it never goes back
pub reached_up : (fs : List Field) (owner at : ℕ) → at ≤ reached fs owner at
unfolding reach
reached_up [] owner at = le_refl at
reached_up (f ∷ fs) owner at = let h = reached_up fs owner (reach f owner at) in let u = up (holds f owner at) refl in omega arith
  where
    up : (b : Bool) → holds f owner at ≡ b → at ≤ reach f owner at
    up true q = rw q (let c = held_parts f owner at q in omega arith)
    up false q = rw q (le_refl at)

-- it stays where nobody owns the registers
stays : (fs : List Field) (owner at : ℕ) → 5 ≤ owner → reached fs owner at ≡ at
unfolding reach
stays [] owner at h = refl
stays (f ∷ fs) owner at h = rw (unheld f owner at h) (stays fs owner at h)

-- ---- the runs of the table

-- the offset at which the registers that exist from r on end
unfoldable pub run_end : ℕ → ℕ
run_end r = reached fields (r / 100) (r % 100)

abbrev steps : ℕ → Bool
steps r = eqb (run_end r) (cond (found (field_at r)) (run_end (suc r)) (r % 100))

stepped : below steps 500 ≡ true
unfolding run_end reach field_at holds owns owner_bit
stepped = refl

-- a register that exists has the run of the next one; another has none
step : (r : ℕ) → run_end r ≡ cond (found (field_at r)) (run_end (suc r)) (r % 100)
unfolding run_end
step r = eqb-true _ _ (everywhere steps 500 stepped outside r)
  where
    outside : (r : ℕ) → 500 ≤ r → steps r ≡ true
    outside r h = rw (past r h) (eq-eqb _ _ (stays fields (r / 100) (r % 100) (omega arith)))

low : (fs : List Field) → every shaped fs ≡ true → (owner at : ℕ) → at < 100 → reached fs owner at < 100
unfolding reach
low [] e owner at h = h
low (f ∷ fs) e owner at h =
    let p = both (shaped f) (every shaped fs) e in
    low fs p.1 owner (reach f owner at) (go (holds f owner at) (shape f p.0))
  where
    go : (b : Bool) → Shape f → cond b (f.offset + f.words) at < 100
    go true s = omega arith
    go false s = h

-- no run reaches the end of a block
ends : (r : ℕ) → run_end r < 100
unfolding run_end
ends r = low fields every_shaped (r / 100) (r % 100) (omega arith)

-- ---- where the pass begins

-- the row ends at the offset or before it, and begins before it
abbrev pub before : ℕ → Field → Bool
before o f = ltb f.offset o && leb (f.offset + f.words) o

halved : below (λ o. every (before o) (take (o / 2) fields)) 100 ≡ true
halved = refl

-- so do all rows before row offset / 2, since rows have at most two words
pub half_before : (r : ℕ) → every (before (r % 100)) (take (r % 100 / 2) fields) ≡ true
half_before r = at_number (λ o. every (before o) (take (o / 2) fields)) 100 halved (r % 100) (omega arith)

skip : (k : ℕ) (fs : List Field) (owner at : ℕ) → every (before at) (take k fs) ≡ true → reached fs owner at ≡ reached (drop k fs) owner at
unfolding reach holds
skip zero fs owner at e = refl
skip (suc k) [] owner at e = refl
skip (suc k) (f ∷ fs) owner at e =
    let p = both (before at f) (every (before at) (take k fs)) e in
    let l : f.offset + f.words ≤ at = leb-true _ _ (both (ltb f.offset at) (leb (f.offset + f.words) at) p.0).1 in
    rw (le-ltb at (f.offset + f.words) l, and-false) (skip k fs owner at p.1)

-- the pass may begin there
pub run_begins : (r : ℕ) → run_end r ≡ reached (drop (r % 100 / 2) fields) (r / 100) (r % 100)
unfolding run_end
run_begins r = skip (r % 100 / 2) fields (r / 100) (r % 100) (half_before r)

-- ---- registers that all exist

-- each of them does
pub all_found_at : (start count i : ℕ) → all_found start count ≡ true → i < count → found (field_at (start + i)) ≡ true
all_found_at start zero i e h = absurd (not-suc-le-zero h)
all_found_at start (suc n) zero e h = rw add-zero (both (found (field_at start)) (all_found (suc start) n) e).0
all_found_at start (suc n) (suc i) e h =
    let s : start + suc i ≡ suc start + i = omega arith in
    rw s (all_found_at (suc start) n i (both (found (field_at start)) (all_found (suc start) n) e).1 (le_of_suc-le-suc h))

-- they all exist where their run reaches past them
pub all_found-run : (start count : ℕ) → all_found start count ≡ leb (start % 100 + count) (run_end start)
unfolding run_end
all_found-run start zero = let e : start % 100 + 0 ≡ start % 100 = omega arith in rw e (sym (le-leb _ _ (reached_up fields (start / 100) (start % 100))))
all_found-run start (suc n) = go (found (field_at start)) refl (all_found-run (suc start) n)
  where
    go : (b : Bool) → found (field_at start) ≡ b → all_found (suc start) n ≡ leb (suc start % 100 + n) (run_end (suc start))
        → found (field_at start) && all_found (suc start) n ≡ leb (start % 100 + suc n) (run_end start)
    go true q ih =
        let s : run_end start ≡ run_end (suc start) = rw q at (step start) in
        let e : suc start % 100 + n ≡ start % 100 + suc n = omega (arith, found_inside start q) in
        rw (q, ih, e, s)
    go false q ih =
        let s : run_end start ≡ start % 100 = rw q at (step start) in
        let l : start % 100 < start % 100 + suc n = omega arith in
        rw (q, s) (sym (lt-leb _ _ l))

-- so they are all one owner's
pub all_found_block : (start count : ℕ) → all_found start count ≡ true → start % 100 + count ≤ 100
all_found_block start count e =
    let h : start % 100 + count ≤ run_end start = leb-true _ _ (sym (all_found-run start count) ∙ e) in
    omega (arith, ends start)

-- and none is past the map
pub all_found_ends : (start count : ℕ) → all_found start count ≡ true → 1 ≤ count → start + count ≤ 500
all_found_ends start count e h = go (ltb start 500) refl
  where
    go : (b : Bool) → ltb start 500 ≡ b → start + count ≤ 500
    go true q = omega (arith, ltb-true start 500 q, all_found_block start count e)
    go false q = absurd (false≢true (sym (ap found (past start (ltb-false start 500 q))) ∙ rw add-zero at (all_found_at start count 0 e h)))

-- the registers of a whole field exist
pub whole_found : (start count : ℕ) (f : Field) → whole_field start count ≡ Some f → all_found start count ≡ true
whole_found start count f e = all start count (λ i h. ap found (whole-registers start count f e i h))
  where
    all : (r n : ℕ) → ((i : ℕ) → i < n → found (field_at (r + i)) ≡ true) → all_found r n ≡ true
    all r zero h = refl
    all r (suc n) h =
        let z : found (field_at r) ≡ true = rw add-zero at (h 0 (omega arith)) in
        rw (z, all (suc r) n (λ i k. let s : suc r + i ≡ r + suc i = omega arith in rw s (h (suc i) (omega arith))))
