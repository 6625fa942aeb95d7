-- A list of characters read pair by pair: one step of the sum and of the digits, the bytes that are stored, and where the reading ends. Assumes
-- nothing.
use mathlib.Core.Path.{◌≡◌, refl, sym, ap, ap₂, ◌∙◌}
use mathlib.Core.Bool.{Bool, true, false, ◌&&◌}
use mathlib.Core.List.{List, [], ◌∷◌}
use Prim.Native.Nat.{ℕ, zero, suc, ◌+◌, ◌*◌, ◌/◌, ◌%◌, ◌<◌, ◌≤◌}
use native.Mathlib.Omega.{arith}
use native.Mathlib.Numerals.{add-one}
use borrow.Author.Tests.{lt-ltb, le-ltb, ltb-true, ltb-false}
use lib.Bits.{bit_or, or_lt, or_shifted, or_add_and, and_le_l, and_le_r}
use lib.Dec.{ltb}
use lib.ListN.{length, get_or, drop, drop_of_length-le}
use lib.Seq.{drop-cons}
use Rattle.ascii.specs.Ascii.{sum_of, value_of, digits, spelt}
use Rattle.ascii.specs.Steps.{pair_of, stored_of, read_of}

-- what is left of a sum, one byte on
pub sum_step : (s : List ℕ) (i : ℕ) → i < length s → sum_of (drop i s) ≡ get_or s i 0 + sum_of (drop (i + 1) s)
unfolding sum_of
sum_step s i h = rw (drop-cons s i 0 h, add-one)

-- half as many bytes as characters
pub spelt-length : (s : List ℕ) → length (spelt s) ≡ length s / 2
unfolding spelt
spelt-length [] = refl
spelt-length (a ∷ []) = refl
spelt-length (a ∷ b ∷ s) = omega (arith, spelt-length s)

pub never : (b : Bool) → b ≡ false → b ≡ true → ⊥
never b p q = let z : ◌≡◌ {A = ℕ} 0 1 = cc in omega arith

pub both : (x y : Bool) → x && y ≡ true → (x ≡ true) × (y ≡ true)
both true y h = (refl, h)
both false y h = absurd (never false refl h)

grouped : (a b c d : Bool) → a && b && c && d ≡ a && (b && (c && d))
grouped false b c d = refl
grouped true false c d = refl
grouped true true c d = refl

-- two numbers are below 16 exactly where their bits together are
or_small : (a b : ℕ) → ltb (bit_or a b) 16 ≡ ltb a 16 && ltb b 16
or_small a b = go (ltb a 16) (ltb b 16) refl refl where
  go : (x y : Bool) → ltb a 16 ≡ x → ltb b 16 ≡ y → ltb (bit_or a b) 16 ≡ x && y
  go true true p q = lt-ltb (bit_or a b) 16 (or_lt 4 a b (ltb-true a 16 p) (ltb-true b 16 q))
  go true false p q = le-ltb (bit_or a b) 16 (omega (arith, or_add_and a b, and_le_l a b, ltb-false b 16 q))
  go false y p q = le-ltb (bit_or a b) 16 (omega (arith, or_add_and a b, and_le_r a b, ltb-false a 16 p))

-- a pair's byte, whatever the characters are
pub byte_small : (high low : ℕ) → low < 256 → bit_or (high % 16 * 16) low < 256
byte_small high low h = or_lt 8 (high % 16 * 16) low (omega arith) h

-- ---- one pair

module _ (s : List ℕ) (i : ℕ) (h : 2 * i + 1 < length s) where
  pair_step : drop (2 * i) s ≡ get_or s (2 * i) 0 ∷ get_or s (2 * i + 1) 0 ∷ drop (2 * (i + 1)) s
  pair_step =
      let h₀ : 2 * i < length s = omega arith in
      let h₁ : suc (2 * i) < length s = omega arith in
      let e₁ : suc (2 * i) ≡ 2 * i + 1 = omega arith in
      let e₂ : suc (suc (2 * i)) ≡ 2 * (i + 1) = omega arith in
      drop-cons s (2 * i) 0 h₀
      ∙ ap (λ (l : List ℕ). get_or s (2 * i) 0 ∷ l) (drop-cons s (suc (2 * i)) 0 h₁)
      ∙ ap (λ (k : ℕ). get_or s (2 * i) 0 ∷ get_or s k 0 ∷ drop (suc (suc (2 * i))) s) e₁
      ∙ ap (λ (k : ℕ). get_or s (2 * i) 0 ∷ get_or s (2 * i + 1) 0 ∷ drop k s) e₂

  digits_step : digits (drop (2 * i) s) ≡ ltb (value_of (get_or s (2 * i) 0)) 16 && (ltb (value_of (get_or s (2 * i + 1) 0)) 16 && digits (drop (2 * (i + 1)) s))
  unfolding digits
  digits_step = ap digits pair_step

  -- the digits that are left, after one more pair
  pub digits_again : (all high low : ℕ) → high ≡ value_of (get_or s (2 * i) 0) → low ≡ value_of (get_or s (2 * i + 1) 0)
      → ltb all 16 && digits (drop (2 * i) s) ≡ digits s
      → ltb (bit_or (bit_or all high) low) 16 && digits (drop (2 * (i + 1)) s) ≡ digits s
  digits_again all high low eh el e =
      let rest : Bool = digits (drop (2 * (i + 1)) s) in
      let d : digits (drop (2 * i) s) ≡ ltb high 16 && (ltb low 16 && rest) = rw (eh, el) digits_step in
      rw (or_small (bit_or all high) low, or_small all high) (grouped (ltb all 16) (ltb high 16) (ltb low 16) rest ∙ (rw d at e))

  -- where all are digits, this pair's byte
  pub pair_byte : (x : Bool) (high low : ℕ) → high ≡ value_of (get_or s (2 * i) 0) → low ≡ value_of (get_or s (2 * i + 1) 0)
      → x && digits (drop (2 * i) s) ≡ true
      → bit_or (high % 16 * 16) low ≡ value_of (get_or s (2 * i) 0) * 16 + value_of (get_or s (2 * i + 1) 0)
  pair_byte x high low eh el e =
      let d : digits (drop (2 * i) s) ≡ ltb high 16 && (ltb low 16 && digits (drop (2 * (i + 1)) s)) = rw (eh, el) digits_step in
      let p = both (ltb high 16) (ltb low 16 && digits (drop (2 * (i + 1)) s)) (sym d ∙ (both x (digits (drop (2 * i) s)) e).1) in
      let q = both (ltb low 16) (digits (drop (2 * (i + 1)) s)) p.1 in
      let l : low < 16 = ltb-true low 16 q.0 in
      omega (arith, ltb-true high 16 p.0, or_shifted (high % 16) 4 low l)

  pub spelt_step : spelt (drop (2 * i) s) ≡ (value_of (get_or s (2 * i) 0) * 16 + value_of (get_or s (2 * i + 1) 0)) ∷ spelt (drop (2 * (i + 1)) s)
  unfolding spelt
  spelt_step = ap spelt pair_step

  pub sum_more : sum_of (spelt (drop (2 * i) s)) ≡ value_of (get_or s (2 * i) 0) * 16 + value_of (get_or s (2 * i + 1) 0) + sum_of (spelt (drop (2 * (i + 1)) s))
  unfolding sum_of
  sum_more = ap sum_of spelt_step

-- ---- the bytes that are stored

pub stored_length : (s : List ℕ) → length (stored_of s) ≡ length s / 2
unfolding stored_of
stored_length [] = refl
stored_length (a ∷ []) = refl
stored_length (a ∷ b ∷ s) = omega (arith, stored_length s)

-- pair by pair
pub stored_at : (s : List ℕ) (i : ℕ) → 2 * i + 1 < length s → get_or (stored_of s) i 0 ≡ pair_of (get_or s (2 * i) 0) (get_or s (2 * i + 1) 0)
unfolding stored_of
stored_at [] i h = absurd (omega arith)
stored_at (a ∷ []) i h = absurd (omega arith)
stored_at (a ∷ b ∷ s) zero h = refl
stored_at (a ∷ b ∷ s) (suc i) h =
    let e₀ : 2 * suc i ≡ suc (suc (2 * i)) = omega arith in
    let e₁ : 2 * suc i + 1 ≡ suc (suc (2 * i + 1)) = omega arith in
    stored_at s i (omega arith) ∙ ap₂ (λ (j k : ℕ). pair_of (get_or (a ∷ b ∷ s) j 0) (get_or (a ∷ b ∷ s) k 0)) (sym e₀) (sym e₁)

-- of digits, what they say
pub stored_digits : (s : List ℕ) → digits s ≡ true → stored_of s ≡ spelt s
unfolding stored_of spelt digits
stored_digits [] h = refl
stored_digits (a ∷ []) h = refl
stored_digits (a ∷ b ∷ s) h =
    let p = both (ltb (value_of a) 16) (ltb (value_of b) 16 && digits s) h in
    let q = both (ltb (value_of b) 16) (digits s) p.1 in
    let e : pair_of a b ≡ value_of a * 16 + value_of b =
    omega (arith, ltb-true (value_of a) 16 p.0, or_shifted (value_of a % 16) 4 (value_of b) (ltb-true (value_of b) 16 q.0)) in
    ap₂ (λ (x : ℕ) (l : List ℕ). x ∷ l) e (stored_digits s q.1)

-- ---- the end

module _ (s : List ℕ) (i all : ℕ) (e : length s ≡ 2 * i) (d : ltb all 16 && digits (drop (2 * i) s) ≡ digits s) where
  pub none_left : drop (2 * i) s ≡ []
  none_left = drop_of_length-le s {i = 2 * i} (omega arith)

  -- a character was no digit
  pub read_bad_digit : 15 < all → digits s ≡ false
  unfolding digits
  read_bad_digit h =
      let t : ltb all 16 ≡ false = le-ltb all 16 (omega arith) in
      sym (rw t at d)

  pub read_digits : all ≤ 15 → digits s ≡ true
  unfolding digits
  read_digits h =
      let t : ltb all 16 ≡ true = lt-ltb all 16 (omega arith) in
      sym (rw (t, none_left) at d)

pub read_done : (s : List ℕ) (sum i : ℕ) → length s ≡ 2 * i → sum < 256 → digits s ≡ true
    → (sum + sum_of (spelt (drop (2 * i) s))) % 256 ≡ sum_of (spelt s) % 256
    → sum ≡ read_of s
unfolding spelt sum_of read_of
read_done s sum i e small d m =
    let z : drop (2 * i) s ≡ [] = drop_of_length-le s {i = 2 * i} (omega arith) in
    let m₁ : (sum + 0) % 256 ≡ sum_of (spelt s) % 256 = rw z at m in
    rw d (omega arith)
