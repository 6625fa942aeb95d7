-- Digits and what they say undo each other: of one digit, and of a list of bytes. Assumes nothing.
use mathlib.Core.Path.{◌≡◌, refl, ap, ap₂, ◌∙◌}
use mathlib.Core.Bool.{Bool, true, false, ◌&&◌, cond}
use mathlib.Core.List.{List, [], ◌∷◌}
use Prim.Native.Nat.{ℕ, suc, ◌+◌, ◌-◌, ◌*◌, ◌/◌, ◌%◌, ◌<◌, ◌≤◌}
use native.Mathlib.Omega.{arith}
use borrow.Author.Tests.{lt-ltb, le-ltb, ltb-true, ltb-false}
use lib.Dec.{ltb}
use lib.ListN.{length}
use Rattle.words.specs.Bytes.{Bytes}
use Rattle.words.specs.Digits.{hex_digit}
use Rattle.ascii.specs.Ascii.{value_of, digits, hex_of, spelt}
use Rattle.ascii.proofs.Reading.{both}

-- ---- one digit

low_digit : (n : ℕ) → n < 10 → hex_digit n ≡ 48 + n
unfolding hex_digit
low_digit n h = rw (lt-ltb n 10 h)

high_digit : (n : ℕ) → 10 ≤ n → hex_digit n ≡ 55 + n
unfolding hex_digit
high_digit n h = rw (le-ltb n 10 h)

low_value : (c : ℕ) → 48 ≤ c → c < 58 → value_of c ≡ c - 48
unfolding value_of
low_value c h k = rw (le-ltb c 48 h, lt-ltb c 58 k)

high_value : (c : ℕ) → 65 ≤ c → c < 71 → value_of c ≡ c - 55
unfolding value_of
high_value c h k =
    let t₀ : ltb c 48 ≡ false = le-ltb c 48 (omega arith) in
    let t₁ : ltb c 58 ≡ false = le-ltb c 58 (omega arith) in
    rw (t₀, t₁, le-ltb c 65 h, lt-ltb c 71 k)

-- a number's digit says the number
pub value_digit : (n : ℕ) → n < 16 → value_of (hex_digit n) ≡ n
value_digit n h = go (ltb n 10) refl where
  go : (b : Bool) → ltb n 10 ≡ b → value_of (hex_digit n) ≡ n
  go true e =
      let l : n < 10 = ltb-true n 10 e in
      ap value_of (low_digit n l) ∙ low_value (48 + n) (omega arith) (omega arith) ∙ omega arith
  go false e =
      let l : 10 ≤ n = ltb-false n 10 e in
      ap value_of (high_digit n l) ∙ high_value (55 + n) (omega arith) (omega arith) ∙ omega arith

-- a character that says a number is the number's digit
pub digit_value : (c : ℕ) → value_of c < 16 → hex_digit (value_of c) ≡ c
unfolding value_of
digit_value c h = go (ltb c 48) (ltb c 58) (ltb c 65) (ltb c 71) refl refl refl refl h where
  go : (p q r t : Bool) → ltb c 48 ≡ p → ltb c 58 ≡ q → ltb c 65 ≡ r → ltb c 71 ≡ t
      → cond p 16 (cond q (c - 48) (cond r 16 (cond t (c - 55) 16))) < 16
      → hex_digit (cond p 16 (cond q (c - 48) (cond r 16 (cond t (c - 55) 16)))) ≡ c
  go true q r t ep eq er et k = absurd (omega arith)
  go false true r t ep eq er et k =
      let l : 48 ≤ c = ltb-false c 48 ep in
      let m : c < 58 = ltb-true c 58 eq in
      low_digit (c - 48) (omega arith) ∙ omega arith
  go false false true t ep eq er et k = absurd (omega arith)
  go false false false true ep eq er et k =
      let l : 65 ≤ c = ltb-false c 65 er in
      high_digit (c - 55) (omega arith) ∙ omega arith
  go false false false false ep eq er et k = absurd (omega arith)

-- ---- lists

tail_bytes : (x : ℕ) (s : List ℕ) → Bytes (x ∷ s) → Bytes s
tail_bytes x s h = record { below = λ i. h.below (suc i) }

-- bytes in digits say the bytes
pub spelt-hex : (s : List ℕ) → Bytes s → spelt (hex_of s) ≡ s
unfolding spelt hex_of
spelt-hex [] h = refl
spelt-hex (b ∷ s) h =
    let lt : b < 256 = h.below 0 in
    let p : value_of (hex_digit (b / 16)) ≡ b / 16 = value_digit (b / 16) (omega arith) in
    let q : value_of (hex_digit (b % 16)) ≡ b % 16 = value_digit (b % 16) (omega arith) in
    let e : value_of (hex_digit (b / 16)) * 16 + value_of (hex_digit (b % 16)) ≡ b = omega arith in
    ap₂ (λ (x : ℕ) (l : List ℕ). x ∷ l) e (spelt-hex s (tail_bytes b s h))

-- and are digits
pub digits-hex : (s : List ℕ) → Bytes s → digits (hex_of s) ≡ true
unfolding digits hex_of
digits-hex [] h = refl
digits-hex (b ∷ s) h =
    let lt : b < 256 = h.below 0 in
    let p : value_of (hex_digit (b / 16)) ≡ b / 16 = value_digit (b / 16) (omega arith) in
    let q : value_of (hex_digit (b % 16)) ≡ b % 16 = value_digit (b % 16) (omega arith) in
    let t₀ : ltb (value_of (hex_digit (b / 16))) 16 ≡ true = lt-ltb (value_of (hex_digit (b / 16))) 16 (omega arith) in
    let t₁ : ltb (value_of (hex_digit (b % 16))) 16 ≡ true = lt-ltb (value_of (hex_digit (b % 16))) 16 (omega arith) in
    rw (t₀, t₁, digits-hex s (tail_bytes b s h))

-- an even number of digits is what spells the bytes that they say
pub hex-spelt : (s : List ℕ) → digits s ≡ true → length s % 2 ≡ 0 → hex_of (spelt s) ≡ s
unfolding spelt hex_of digits
hex-spelt [] h e = refl
hex-spelt (a ∷ []) h e = absurd (omega arith)
hex-spelt (a ∷ b ∷ s) h e =
    let p = both (ltb (value_of a) 16) (ltb (value_of b) 16 && digits s) h in
    let q = both (ltb (value_of b) 16) (digits s) p.1 in
    let la : value_of a < 16 = ltb-true (value_of a) 16 p.0 in
    let lb : value_of b < 16 = ltb-true (value_of b) 16 q.0 in
    let ha : (value_of a * 16 + value_of b) / 16 ≡ value_of a = omega arith in
    let hb : (value_of a * 16 + value_of b) % 16 ≡ value_of b = omega arith in
    ap₂ (λ (x y : ℕ). hex_digit x ∷ hex_digit y ∷ hex_of (spelt s)) ha hb
    ∙ ap₂ (λ (x y : ℕ). x ∷ y ∷ hex_of (spelt s)) (digit_value a la) (digit_value b lb)
    ∙ ap (λ (l : List ℕ). a ∷ b ∷ l) (hex-spelt s q.1 (omega arith))
