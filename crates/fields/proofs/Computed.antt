-- A test that is computed over all numbers below a bound, or over all rows, holds of each of them, and so of the row that a search finds.
-- Assumes nothing.
use mathlib.Core.Path.{◌≡◌, refl, sym, ap}
use mathlib.Core.Bool.{Bool, true, false, ◌&&◌, ◌||◌, not, cond, false≢true}
use mathlib.Core.List.{List, [], ◌∷◌}
use Prim.Native.Nat.{ℕ, zero, suc, ◌<◌, ◌≤◌}
use native.Mathlib.Nat.{not-suc-le-zero}
use native.Mathlib.Omega.{arith}
use lib.Dec.{eqb, ltb}
use borrow.Author.Tests.{eqb-true, eqb-false, ltb-true, ltb-false}
use Rattle.floats.proofs.Bools.{both}
use Rattle.fields.specs.declared.Access.{Access}
use Rattle.fields.specs.declared.Access.TheVariants.{ReadOnly, Writable, Modal}
use Rattle.fields.specs.declared.Field.{Field}
use Rattle.std.specs.Prelude.{Some, None}
use Rattle.fields.specs.Fields.{is_read_only, is_modal, first_of, found}

-- the second part of a test whose first part fails
pub other : (a b : Bool) → a ≡ false → (a || b) ≡ true → b ≡ true
other a b e h = rw e at h

-- what a test gives where its condition holds
pub given : (a b : Bool) → (not a || b) ≡ true → a ≡ true → b ≡ true
given a b h e = other (not a) b (ap not e) h

-- what can be written isn't read-only
pub not_read_only : (a : Access) → (a ≡ ReadOnly → ⊥) → is_read_only a ≡ false
not_read_only ReadOnly h = absurd (h refl)
not_read_only Writable h = refl
not_read_only Modal h = refl

-- and what isn't read-only can be
pub writable_access : (a : Access) → is_read_only a ≡ false → a ≡ ReadOnly → ⊥
writable_access ReadOnly e q = false≢true (sym e)
writable_access Writable e q = cc
writable_access Modal e q = cc

-- what the test for the mode's fields passes
pub modal_access : (a : Access) → is_modal a ≡ true → a ≡ Modal
modal_access ReadOnly e = absurd (false≢true e)
modal_access Writable e = absurd (false≢true e)
modal_access Modal e = refl

-- every row passes
abbrev pub every : (Field → Bool) → List Field → Bool
every t [] = true
every t (f ∷ fs) = t f && every t fs

-- every number below n passes
abbrev pub below : (ℕ → Bool) → ℕ → Bool
below t zero = true
below t (suc n) = t n && below t n

-- so a number below the bound does
pub at_number : (t : ℕ → Bool) (n : ℕ) → below t n ≡ true → (i : ℕ) → i < n → t i ≡ true
at_number t zero e i h = absurd (not-suc-le-zero h)
at_number t (suc n) e i h =
    let p = both (t n) (below t n) e in
    go (eqb i n) refl p.0 (λ k. at_number t n p.1 i k)
  where
    go : (b : Bool) → eqb i n ≡ b → t n ≡ true → (i < n → t i ≡ true) → t i ≡ true
    go true q e rest = rw (eqb-true i n q) e
    go false q e rest = let d : i ≡ n → ⊥ = eqb-false i n q in rest (omega arith)

-- and any number does that passes past the bound
pub everywhere : (t : ℕ → Bool) (n : ℕ) → below t n ≡ true → ((i : ℕ) → n ≤ i → t i ≡ true) → (i : ℕ) → t i ≡ true
everywhere t n e rest i = go (ltb i n) refl
  where
    go : (b : Bool) → ltb i n ≡ b → t i ≡ true
    go true q = at_number t n e i (ltb-true i n q)
    go false q = rest i (ltb-false i n q)

-- ---- the row that is found

pub absent : {f : Field} → None ≡ Some f → ⊥
absent e = false≢true (ap found e)

pub same : {f g : Field} → Some f ≡ Some g → f ≡ g
same e = cc

-- it passes the test that was asked, and each that every row passes
pub first_passes : (t u : Field → Bool) (fs : List Field) → every u fs ≡ true → (f : Field) → first_of t fs ≡ Some f → (t f ≡ true) × (u f ≡ true)
first_passes t u [] h f e = absurd (absent e)
first_passes t u (g ∷ fs) h f e = go (t g) refl e (both (u g) (every u fs) h) (λ k. first_passes t u fs k f)
  where
    go : (b : Bool) → t g ≡ b → cond b (Some g) (first_of t fs) ≡ Some f → (u g ≡ true) × (every u fs ≡ true)
        → (every u fs ≡ true → first_of t fs ≡ Some f → (t f ≡ true) × (u f ≡ true)) → (t f ≡ true) × (u f ≡ true)
    go true q e p rest = (rw (same e) at q, rw (same e) at p.0)
    go false q e p rest = rest p.1 e

-- where a row is found, one is found by any test that it passes
pub also_found : (t u : Field → Bool) (fs : List Field) (f : Field) → first_of t fs ≡ Some f → u f ≡ true → found (first_of u fs) ≡ true
also_found t u [] f e h = absurd (absent e)
also_found t u (g ∷ fs) f e h = go (t g) (u g) refl e (also_found t u fs f)
  where
    go : (b c : Bool) → u g ≡ c → cond b (Some g) (first_of t fs) ≡ Some f → (first_of t fs ≡ Some f → u f ≡ true → found (first_of u fs) ≡ true)
        → found (cond c (Some g) (first_of u fs)) ≡ true
    go b true q e rest = refl
    go true false q e rest = absurd (false≢true (rw (q) at (rw (← same e) at h)))
    go false false q e rest = rest e h

-- none is found by a test that none passes
pub none_found : (t : Field → Bool) (fs : List Field) → ((f : Field) → t f ≡ false) → first_of t fs ≡ None
none_found t [] h = refl
none_found t (f ∷ fs) h = rw (h f) (none_found t fs h)
