-- A table that holds what a function says of each place: one test that is computed, and what it says of a place. Assumes nothing.
use mathlib.Core.Path.{◌≡◌, refl, ap, ◌∙◌}
use mathlib.Core.Bool.{Bool, true, false, cond, ◌&&◌}
use mathlib.Core.List.{List, [], ◌∷◌}
use Prim.Native.Nat.{ℕ, zero, suc, ◌+◌, ◌<◌, ◌≤◌}
use native.Mathlib.Nat.{zero-add}
use native.Mathlib.Omega.{arith}
use borrow.Author.Tests.{eqb-true}
use lib.Dec.{ltb, eqb}
use lib.ListN.{length, get_or, set}
use Rattle.words.specs.Digits.{hex_digit}
use Rattle.ascii.specs.Ascii.{value_of}
use Rattle.ascii.specs.Steps.{Values}
use Rattle.ascii.proofs.Reading.{both}

-- each element, counted from i on, is what f says of its place
abbrev pub tabled : (ℕ → ℕ) → ℕ → List ℕ → Bool
tabled f i [] = true
tabled f i (x ∷ xs) = eqb x (f i) && tabled f (suc i) xs

from : (f : ℕ → ℕ) (xs : List ℕ) (i : ℕ) → tabled f i xs ≡ true → (k : ℕ) → k < length xs → get_or xs k 0 ≡ f (i + k)
from f [] i t k h = absurd (omega arith)
from f (x ∷ xs) i t zero h =
    let e : i ≡ i + 0 = omega arith in
    eqb-true x (f i) (both (eqb x (f i)) (tabled f (suc i) xs) t).0 ∙ ap f e
from f (x ∷ xs) i t (suc k) h =
    let e : suc i + k ≡ i + suc k = omega arith in
    from f xs (suc i) (both (eqb x (f i)) (tabled f (suc i) xs) t).1 k (omega arith) ∙ ap f e

pub at : (f : ℕ → ℕ) (xs : List ℕ) → tabled f 0 xs ≡ true → (k : ℕ) → k < length xs → get_or xs k 0 ≡ f k
at f xs t k h = from f xs 0 t k h ∙ ap f (zero-add k)

-- ---- the digits

abbrev pub digit_table : List ℕ
digit_table = 48 ∷ 49 ∷ 50 ∷ 51 ∷ 52 ∷ 53 ∷ 54 ∷ 55 ∷ 56 ∷ 57 ∷ 65 ∷ 66 ∷ 67 ∷ 68 ∷ 69 ∷ 70 ∷ []

pub digit_at : (k : ℕ) → k < 16 → get_or digit_table k 0 ≡ hex_digit k
unfolding hex_digit
digit_at k h = at hex_digit digit_table refl k h

small : (b : Bool) (k : ℕ) → k < 16 → cond b (48 + k) (55 + k) < 256
small true k h = omega arith
small false k h = omega arith

pub digit_small : (k : ℕ) → k < 16 → get_or digit_table k 0 < 256
unfolding hex_digit
digit_small k h = omega (arith, digit_at k h, small (ltb k 10) k h)

-- ---- their values

-- a table with 0, 1 and so on, i of them, stored at the places that another list says
abbrev pub filled : List ℕ → List ℕ → ℕ → List ℕ
filled places table zero = table
filled places table (suc i) = set (filled places table i) (get_or places i 0) i

pub values_table : {table : List ℕ} → tabled value_of 0 table ≡ true → 256 ≤ length table → Values table
values_table {table} t h = record { at = λ c l. at value_of table t c (omega arith) }
