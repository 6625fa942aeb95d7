-- What the tests of `decode` say of a frame: each is one of the definition's. The LRC is right exactly where all decoded bytes, with it, add
-- up to 0 in one byte. Assumes nothing.
use mathlib.Core.Path.{◌≡◌, refl, sym, ap, ◌∙◌}
use mathlib.Core.Bool.{Bool, true, false, ◌&&◌, cond}
use mathlib.Core.List.{List, [], ◌∷◌, ◌++◌}
use Prim.Native.Nat.{ℕ, zero, suc, ◌+◌, ◌-◌, ◌/◌, ◌%◌, ◌<◌, ◌≤◌}
use native.Mathlib.Omega.{arith}
use borrow.Author.Tests.{lt-leb, le-leb, ltb-true, eq-eqb, ne_eqb, eqb-true}
use lib.Dec.{leb, ltb, eqb, lit<}
use lib.ListN.{length, get_or, take, drop, length-drop}
use lib.Seq.{length-take-le, take-suc, take_all, take-take}
use Rattle.words.specs.Overlay.{overlay}
use Rattle.ascii.specs.Ascii.{sum_of, lrc_of, value_of, digits, spelt, chars_of, decoded_bytes, ascii_body, enclosed, checked, ascii_good}
use Rattle.ascii.specs.Steps.{stored_of, read_of, good_body, readable, decoded_over}
use Rattle.ascii.proofs.Reading.{spelt-length, both}

-- ---- lengths

pub chars_length : (s : List ℕ) → length (chars_of s) ≡ length s - 3
unfolding chars_of
chars_length s = length-take-le (length s - 3) (drop 1 s) (omega (arith, length-drop 1 s))

pub decoded_length : (s : List ℕ) → length (decoded_bytes s) ≡ (length s - 3) / 2
unfolding decoded_bytes
decoded_length s = omega (arith, spelt-length (chars_of s), chars_length s)

pub body_length : (s : List ℕ) → length (ascii_body s) ≡ (length s - 3) / 2 - 1
unfolding ascii_body
body_length s = omega (arith, length-take-le (length (decoded_bytes s) - 1) (decoded_bytes s) (omega arith), decoded_length s)

-- ---- sums

pub sum_append : (xs ys : List ℕ) → sum_of (xs ++ ys) ≡ sum_of xs + sum_of ys
unfolding sum_of
sum_append [] ys = omega arith
sum_append (x ∷ xs) ys = omega (arith, sum_append xs ys)

-- a list without its last element, then that
pub last_one : (d : List ℕ) → 1 ≤ length d → d ≡ take (length d - 1) d ++ (get_or d (length d - 1) 0 ∷ [])
last_one d h =
    let h₁ : length d - 1 < length d = omega arith in
    sym (take_all (suc (length d - 1)) d (omega arith)) ∙ take-suc d (length d - 1) 0 h₁

pub sum_last : (d : List ℕ) → 1 ≤ length d → sum_of d ≡ sum_of (take (length d - 1) d) + get_or d (length d - 1) 0
unfolding sum_of
sum_last d h = ap sum_of (last_one d h) ∙ sum_append (take (length d - 1) d) (get_or d (length d - 1) 0 ∷ []) ∙ omega arith

-- what digits say is a byte
pub spelt_below : (s : List ℕ) → digits s ≡ true → (i : ℕ) → get_or (spelt s) i 0 < 256
unfolding digits spelt
spelt_below [] h i = lit< tt
spelt_below (a ∷ []) h i = lit< tt
spelt_below (a ∷ b ∷ s) h zero =
    let p = both (ltb (value_of a) 16) (ltb (value_of b) 16 && digits s) h in
    let q = both (ltb (value_of b) 16) (digits s) p.1 in
    omega (arith, ltb-true (value_of a) 16 p.0, ltb-true (value_of b) 16 q.0)
spelt_below (a ∷ b ∷ s) h (suc i) =
    let p = both (ltb (value_of a) 16) (ltb (value_of b) 16 && digits s) h in
    let q = both (ltb (value_of b) 16) (digits s) p.1 in
    spelt_below s q.1 i

-- ---- the tests

module _ (s : List ℕ) where
  pub short : length s < 9 → readable s ≡ false
  unfolding readable
  short h =
      let t : leb 3 (length (decoded_bytes s)) ≡ false = lt-leb 3 (length (decoded_bytes s)) (omega (arith, decoded_length s)) in
      rw t

  pub long : 9 ≤ length s → 255 < (length s - 3) / 2 → readable s ≡ false
  unfolding readable
  long h l =
      let t : leb 3 (length (decoded_bytes s)) ≡ true = le-leb 3 (length (decoded_bytes s)) (omega (arith, decoded_length s)) in
      let u : leb (length (decoded_bytes s)) 255 ≡ false = lt-leb (length (decoded_bytes s)) 255 (omega (arith, decoded_length s)) in
      rw (t, u)

  pub judged : 9 ≤ length s → (length s - 3) / 2 ≤ 255 → readable s ≡ enclosed s
  unfolding readable
  judged h l =
      let t : leb 3 (length (decoded_bytes s)) ≡ true = le-leb 3 (length (decoded_bytes s)) (omega (arith, decoded_length s)) in
      let u : leb (length (decoded_bytes s)) 255 ≡ true = le-leb (length (decoded_bytes s)) 255 (omega (arith, decoded_length s)) in
      rw (t, u)

  -- a good frame is readable, holds digits and has its body's LRC
  good_is : ascii_good s ≡ (readable s && digits (chars_of s) && checked s)
  unfolding ascii_good readable
  good_is = refl

  pub refused : ascii_good s ≡ false → good_body s ≡ []
  unfolding good_body
  refused h = rw h

  pub passed : ascii_good s ≡ true → good_body s ≡ ascii_body s
  unfolding good_body
  passed h = rw h

  -- a frame that isn't read: no body, and the lent bytes stay
  pub unread : (bytes : List ℕ) → readable s ≡ false → (0 ≡ length (good_body s)) × ((take 0 bytes ≡ good_body s) × (bytes ≡ decoded_over s bytes))
  unfolding decoded_over
  unread bytes h = let g : ascii_good s ≡ false = good_is ∙ rw h in rw (refused g, h) (refl, (refl, refl))

  -- one that is read: all its pairs are stored
  pub stored : (bytes : List ℕ) → readable s ≡ true → decoded_over s bytes ≡ overlay (stored_of (chars_of s)) bytes
  unfolding decoded_over
  stored bytes h = rw h

  pub checked_true : 1 ≤ length (decoded_bytes s) → get_or (decoded_bytes s) (length (decoded_bytes s) - 1) 0 < 256 → sum_of (decoded_bytes s) % 256 ≡ 0 → checked s ≡ true
  unfolding checked lrc_of ascii_body
  checked_true h b z =
      let m : sum_of (decoded_bytes s) ≡ sum_of (ascii_body s) + get_or (decoded_bytes s) (length (decoded_bytes s) - 1) 0 = sum_last (decoded_bytes s) h in
      eq-eqb (lrc_of (ascii_body s)) (get_or (decoded_bytes s) (length (decoded_bytes s) - 1) 0) (omega arith)

  pub checked_false : 1 ≤ length (decoded_bytes s) → (sum_of (decoded_bytes s) % 256 ≡ 0 → ⊥) → checked s ≡ false
  unfolding checked lrc_of ascii_body
  checked_false h z =
      let m : sum_of (decoded_bytes s) ≡ sum_of (ascii_body s) + get_or (decoded_bytes s) (length (decoded_bytes s) - 1) 0 = sum_last (decoded_bytes s) h in
      ne_eqb (lrc_of (ascii_body s)) (get_or (decoded_bytes s) (length (decoded_bytes s) - 1) 0) (λ e. z (omega arith))

-- the sum that is read, by cases on the digits
pub record Zero (s : List ℕ) : Type 0 where
  pub all : digits s ≡ true
  pub sum : sum_of (spelt s) % 256 ≡ 0

pub read_zero : (s : List ℕ) → read_of s ≡ 0 → Zero s
unfolding read_of
read_zero s h = go (digits s) refl h where
  go : (b : Bool) → digits s ≡ b → cond b (sum_of (spelt s) % 256) 256 ≡ 0 → Zero s
  go true e z = record { all = e; sum = z }
  go false e z = absurd (omega arith)

-- a sum of 0: good
pub read_good : (s : List ℕ) → 9 ≤ length s → (length s - 3) / 2 ≤ 255 → enclosed s ≡ true → read_of (chars_of s) ≡ 0 → ascii_good s ≡ true
unfolding decoded_bytes
read_good s h l e z =
    let r : Zero (chars_of s) = read_zero (chars_of s) z in
    let d : length (decoded_bytes s) ≡ (length s - 3) / 2 = decoded_length s in
    let b : get_or (decoded_bytes s) (length (decoded_bytes s) - 1) 0 < 256 = spelt_below (chars_of s) r.all (length (decoded_bytes s) - 1) in
    let k : checked s ≡ true = checked_true s (omega arith) b r.sum in
    good_is s ∙ rw (judged s h l, e, r.all, k)

-- any other: bad
pub read_bad : (s : List ℕ) → 9 ≤ length s → (length s - 3) / 2 ≤ 255 → enclosed s ≡ true → (read_of (chars_of s) ≡ 0 → ⊥) → ascii_good s ≡ false
unfolding decoded_bytes read_of
read_bad s h l e z = good_is s ∙ rw (judged s h l, e) (go (digits (chars_of s)) refl) where
  go : (b : Bool) → digits (chars_of s) ≡ b → digits (chars_of s) && checked s ≡ false
  go false p = rw p
  go true p =
      let n : 1 ≤ length (decoded_bytes s) = omega (arith, decoded_length s) in
      let k : checked s ≡ false = checked_false s n (λ q. z (rw p q)) in
      rw (p, k)

-- ---- what `decode` hands on

pub record Enclosed (s : List ℕ) : Type 0 where
  pub odd : length s % 2 ≡ 1
  pub colon : get_or s 0 0 ≡ 58
  pub cr : get_or s (length s - 2) 0 ≡ 13
  pub lf : get_or s (length s - 1) 0 ≡ 10

pub enclosed_parts : (s : List ℕ) → enclosed s ≡ true → Enclosed s
unfolding enclosed
enclosed_parts s h =
    let a : Bool = eqb (length s % 2) 1 in
    let b : Bool = eqb (get_or s 0 0) 58 in
    let c : Bool = eqb (get_or s (length s - 2) 0) 13 in
    let d : Bool = eqb (get_or s (length s - 1) 0) 10 in
    let p = both (a && b && c) d h in
    let q = both (a && b) c p.0 in
    let r = both a b q.0 in
    record {
      odd = eqb-true (length s % 2) 1 r.0;
      colon = eqb-true (get_or s 0 0) 58 r.1;
      cr = eqb-true (get_or s (length s - 2) 0) 13 q.1;
      lf = eqb-true (get_or s (length s - 1) 0) 10 p.1;
    }

pub enclosed_is : (s : List ℕ) → enclosed s ≡ eqb (length s % 2) 1 && eqb (get_or s 0 0) 58 && eqb (get_or s (length s - 2) 0) 13 && eqb (get_or s (length s - 1) 0) 10
unfolding enclosed
enclosed_is s = refl

-- the part of a frame that `decode` lends
pub part_is : (s : List ℕ) → take (length s - 2 - 1) (drop 1 s) ≡ chars_of s
unfolding chars_of
part_is s =
    let e : length s - 2 - 1 ≡ length s - 3 = omega arith in
    ap (λ (k : ℕ). take k (drop 1 s)) e

-- the first bytes of a buffer that begins with the decoded ones
pub body_said : (s bytes : List ℕ) (n : ℕ) → n ≡ length (ascii_body s) → take (length (spelt (chars_of s))) bytes ≡ spelt (chars_of s)
    → take n bytes ≡ ascii_body s
unfolding ascii_body decoded_bytes
body_said s bytes n e h =
    let d : List ℕ = spelt (chars_of s) in
    let m : ℕ = length d - 1 in
    let l : length (take m d) ≡ m = length-take-le m d (omega arith) in
    ap (λ (k : ℕ). take k bytes) (e ∙ l) ∙ sym (take-take m (length d) bytes (omega arith)) ∙ ap (λ (x : List ℕ). take m x) h
