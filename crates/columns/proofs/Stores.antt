-- Stores of a column from the right. Assumes nothing.
use mathlib.Core.Path.{◌≡◌, refl, sym, ap, ◌∙◌}
use mathlib.Core.List.{List, [], ◌∷◌, ◌++◌}
use Prim.Native.Nat.{ℕ, zero, suc, ◌+◌, ◌-◌, ◌/◌, ◌<◌, ◌≤◌}
use native.Mathlib.Omega.{arith}
use borrow.Author.Tests.{ne_eqb}
use lib.ListN.{length, set}
use lib.Seq.{sets, set_comm}
use Rattle.words.proofs.Stores.{sets-append}
use Rattle.columns.specs.Columns.{last, last_or, last_or_blank, cells, number, hex}
use Rattle.words.specs.Digits.{hex_digit}
use Rattle.columns.proofs.Columns.{cells-length}

-- a store behind a run may come first
pub set-sets : (v : List ℕ) (at : ℕ) (xs : List ℕ) (k a : ℕ) → at + length xs ≤ k → set (sets v at xs) k a ≡ sets (set v k a) at xs
set-sets v at [] k a h = refl
set-sets v at (x ∷ xs) k a h =
    set-sets (set v at x) (suc at) xs k a (omega arith)
    ∙ ap (λ (l : List ℕ). sets l (suc at) xs) (set_comm v at k x a (λ e. omega arith))

-- a list and one character behind it: the character may come first
pub snoc_first : (v : List ℕ) (at : ℕ) (xs : List ℕ) (k a : ℕ) → length xs ≡ k → sets v at (xs ++ (a ∷ [])) ≡ sets (set v (at + k) a) at xs
snoc_first v at xs k a l =
    sets-append v at xs (a ∷ [])
    ∙ ap (λ (n : ℕ). set (sets v at xs) (at + n) a) l
    ∙ set-sets v at xs (at + k) a (omega arith)

-- a column: its last character first, then the column of the rest
pub cells_first : (b : ℕ) (mark : ℕ → ℕ) (k n : ℕ) (v : List ℕ) (at : ℕ)
    → sets v at (cells b mark (suc k) n) ≡ sets (set v (at + k) (mark n)) at (cells b mark k (n / b))
unfolding cells
cells_first b mark k n v at = snoc_first v at (cells b mark k (n / b)) k (mark n) (cells-length b mark k (n / b))

-- a turn of the loop that writes a column: r is the last character of those that are left
pub cells_again : (b : ℕ) (mark : ℕ → ℕ) (left n : ℕ) (v : List ℕ) (at r : ℕ) (all : List ℕ) → 0 < left → r ≡ mark n
    → sets v at (cells b mark left n) ≡ all → sets (set v (at + (left - 1)) r) at (cells b mark (left - 1) (n / b)) ≡ all
cells_again b mark left n v at r all h e i =
    let p : left ≡ suc (left - 1) = omega arith in
    rw e (sym (cells_first b mark (left - 1) n v at) ∙ ap (λ (k : ℕ). sets v at (cells b mark k n)) (sym p) ∙ i)

-- the end of that loop
pub cells_done : (b : ℕ) (mark : ℕ → ℕ) (left n : ℕ) (v : List ℕ) (at : ℕ) (all : List ℕ) → left ≤ 0 → sets v at (cells b mark left n) ≡ all → v ≡ all
unfolding cells
cells_done b mark left n v at all h i =
    let p : left ≡ 0 = omega arith in
    rw p at i

-- columns whose marks are equal
marks_alike : (b : ℕ) (f g : ℕ → ℕ) → ((k : ℕ) → f k ≡ g k) → (w n : ℕ) → cells b f w n ≡ cells b g w n
unfolding cells
marks_alike b f g e zero n = refl
marks_alike b f g e (suc w) n = rw (e n, marks_alike b f g e w (n / b)) refl

-- 0 is shown as 0 in hexadecimal: its digit
zero_shown : (k : ℕ) → last_or 48 16 k ≡ last 16 k
unfolding last_or last hex_digit
zero_shown zero = refl
zero_shown (suc k) = rw (ne_eqb (suc k) 0 (λ e. omega arith)) refl

pub hex_is : (w n : ℕ) → cells 16 (last_or 48 16) w n ≡ hex w n
unfolding hex
hex_is w n = marks_alike 16 (last_or 48 16) (last 16) zero_shown w n

-- a number in no characters
pub number_none : (width n : ℕ) (v : List ℕ) (at : ℕ) → width ≡ 0 → v ≡ sets v at (number width n)
unfolding number
number_none width n v at e = rw e

-- a number: its last digit first, then the rest with blanks in front
pub number_first : (width n : ℕ) (v : List ℕ) (at : ℕ) → 0 < width
    → sets (set v (at + (width - 1)) (last 10 n)) at (cells 10 (last_or_blank 10) (width - 1) (n / 10)) ≡ sets v at (number width n)
unfolding number
number_first width n v at h =
    let k : ℕ = width - 1 in
    let p : suc k ≡ width = omega arith in
    let xs = cells 10 (last_or_blank 10) k (n / 10) in
    sym (snoc_first v at xs k (last 10 n) (cells-length 10 (last_or_blank 10) k (n / 10)))
    ∙ ap (λ (m : ℕ). sets v at (number m n)) p

-- ---- a run of stores, one step of it: a column of k characters, one character

pub column_then : (v : List ℕ) (at : ℕ) (xs ys : List ℕ) (k n : ℕ) → length xs ≡ k → at + k ≡ n → sets v at (xs ++ ys) ≡ sets (sets v at xs) n ys
column_then v at xs ys k n l e =
    sets-append v at xs ys ∙ ap (λ (m : ℕ). sets (sets v at xs) (at + m) ys) l ∙ ap (λ (m : ℕ). sets (sets v at xs) m ys) e

pub then : (v : List ℕ) (at x : ℕ) (ys : List ℕ) (n : ℕ) → suc at ≡ n → sets v at (x ∷ ys) ≡ sets (set v at x) n ys
then v at x ys n e = ap (λ (m : ℕ). sets (set v at x) m ys) e
