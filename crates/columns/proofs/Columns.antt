-- The laws of columns, once over base, marks and width: a column's length, a column determines its number, a line determines its columns.
-- Assumes nothing.
use mathlib.Core.Path.{◌≡◌, refl, sym, ap, ◌∙◌}
use mathlib.Core.Bool.{Bool, true, false, cond}
use mathlib.Core.List.{List, [], ◌∷◌, ◌++◌, map}
use Prim.Native.Nat.{ℕ, zero, suc, ◌+◌, ◌/◌, ◌%◌, ◌<◌, ◌≤◌, ◌^◌}
use native.Mathlib.Nat.{div-add-mod', div-lt_iff_lt-mul, pow-zero, pow-suc}
use native.Mathlib.Omega.{arith}
use lib.Dec.{eqb, ltb}
use borrow.Author.Tests.{ltb-true, ltb-false, eqb-true}
use lib.ListN.{length, take, drop, length-append}
use lib.Seq.{take_at, drop_at}
use Rattle.words.specs.Digits.{hex_digit}
use Rattle.columns.specs.Columns.{last, last_or, last_or_blank, cells, number, hex, behind, spaced}

-- two parts of equal lengths
pub append_one : (x y a b : List ℕ) → length x ≡ length y → x ++ a ≡ y ++ b → (x ≡ y) × (a ≡ b)
append_one x y a b l e = (
  sym (take_at x a (length y) l) ∙ ap (take (length y)) e ∙ take_at y b (length y) refl,
  sym (drop_at x a (length y) l) ∙ ap (drop (length y)) e ∙ drop_at y b (length y) refl,
)

-- ---- a column's length

pub cells-length : (b : ℕ) (mark : ℕ → ℕ) (w n : ℕ) → length (cells b mark w n) ≡ w
unfolding cells
cells-length b mark zero n = refl
cells-length b mark (suc w) n = omega (arith, length-append (cells b mark w (n / b)) (mark n ∷ []), cells-length b mark w (n / b))

pub number_length : (w n : ℕ) → length (number w n) ≡ w
unfolding number
number_length zero n = refl
number_length (suc w) n =
    omega (arith, length-append (cells 10 (last_or_blank 10) w (n / 10)) (last 10 n ∷ []), cells-length 10 (last_or_blank 10) w (n / 10))

pub hex-length : (w n : ℕ) → length (hex w n) ≡ w
unfolding hex
hex-length w n = cells-length 16 (last 16) w n

-- ---- a column determines its number

-- a character tells the last digit of its number
pub record Tells (b : ℕ) (mark : ℕ → ℕ) : Type 0 where
  pub told : (m n : ℕ) → mark m ≡ mark n → m % b ≡ n % b

-- a number from its last digit and the rest
from_parts : (b m n : ℕ) → m / b ≡ n / b → m % b ≡ n % b → m ≡ n
from_parts b m n q r = sym (div-add-mod' m b) ∙ rw (q, r) (div-add-mod' n b)

-- the rest fits a column that is one narrower
rest_fits : (b w n : ℕ) → 0 < b → n < b ^ suc w → n / b < b ^ w
rest_fits b w n p h = (div-lt_iff_lt-mul p).1 (rw pow-suc at h)

head_one : (x y : ℕ) (a b : List ℕ) → x ∷ a ≡ y ∷ b → x ≡ y
head_one x y a b e = cc

-- of two columns of one width and one rule, for numbers that fit
pub cells_one : (b : ℕ) (mark : ℕ → ℕ) → 0 < b → Tells b mark → (w m n : ℕ) → m < b ^ w → n < b ^ w
    → cells b mark w m ≡ cells b mark w n → m ≡ n
unfolding cells
cells_one b mark p t zero m n hm hn e = omega (arith, pow-zero b)
cells_one b mark p t (suc w) m n hm hn e =
    let s = append_one (cells b mark w (m / b)) (cells b mark w (n / b)) (mark m ∷ []) (mark n ∷ [])
    (cells-length b mark w (m / b) ∙ sym (cells-length b mark w (n / b))) e in
    from_parts b m n
    (cells_one b mark p t w (m / b) (n / b) (rest_fits b w m p hm) (rest_fits b w n p hn) s.0)
    (t.told m n (head_one (mark m) (mark n) [] [] s.1))

digit_pair : (d e : ℕ) (s t : Bool) → ltb d 10 ≡ s → ltb e 10 ≡ t → cond s (48 + d) (55 + d) ≡ cond t (48 + e) (55 + e) → d ≡ e
digit_pair d e true true p q h = omega arith
digit_pair d e true false p q h = omega (arith, ltb-true d 10 p, ltb-false e 10 q)
digit_pair d e false true p q h = omega (arith, ltb-false d 10 p, ltb-true e 10 q)
digit_pair d e false false p q h = omega arith

-- no two digits share a character
pub digit_one : (d e : ℕ) → hex_digit d ≡ hex_digit e → d ≡ e
unfolding hex_digit
digit_one d e h = digit_pair d e (ltb d 10) (ltb e 10) refl refl h

digit_least : (d : ℕ) (s : Bool) → ltb d 10 ≡ s → 48 ≤ cond s (48 + d) (55 + d)
digit_least d true p = omega arith
digit_least d false p = omega arith

-- no digit is a blank
pub digit_low : (d : ℕ) → 48 ≤ hex_digit d
unfolding hex_digit
digit_low d = digit_least d (ltb d 10) refl

pub last_tells : (b : ℕ) → Tells b (last b)
unfolding last
last_tells b = record { told = λ m n e. digit_one (m % b) (n % b) e }

blank_pair : (b m n : ℕ) (s t : Bool) → eqb m 0 ≡ s → eqb n 0 ≡ t → cond s 32 (last b m) ≡ cond t 32 (last b n) → m % b ≡ n % b
unfolding last
blank_pair b m n true true p q h = rw (eqb-true m 0 p, eqb-true n 0 q)
blank_pair b m n true false p q h = absurd (omega (arith, digit_low (n % b)))
blank_pair b m n false true p q h = absurd (omega (arith, digit_low (m % b)))
blank_pair b m n false false p q h = digit_one (m % b) (n % b) h

pub blank_tells : (b : ℕ) → Tells b (last_or_blank b)
unfolding last_or
blank_tells b = record { told = λ m n e. blank_pair b m n (eqb m 0) (eqb n 0) refl refl e }

pub hex_one : (w m n : ℕ) → m < 16 ^ w → n < 16 ^ w → hex w m ≡ hex w n → m ≡ n
unfolding hex
hex_one w m n hm hn e = cells_one 16 (last 16) (omega arith) (last_tells 16) w m n hm hn e

pub number_one : (w m n : ℕ) → m < 10 ^ w → n < 10 ^ w → number w m ≡ number w n → m ≡ n
unfolding number
number_one zero m n hm hn e = omega (arith, pow-zero 10)
number_one (suc w) m n hm hn e =
    let mark = last_or_blank 10 in
    let s = append_one (cells 10 mark w (m / 10)) (cells 10 mark w (n / 10)) (last 10 m ∷ []) (last 10 n ∷ [])
    (cells-length 10 mark w (m / 10) ∙ sym (cells-length 10 mark w (n / 10))) e in
    from_parts 10 m n
    (cells_one 10 mark (omega arith) (blank_tells 10) w (m / 10) (n / 10) (rest_fits 10 w m (omega arith) hm) (rest_fits 10 w n (omega arith) hn) s.0)
    ((last_tells 10).told m n (head_one (last 10 m) (last 10 n) [] [] s.1))

-- ---- a line determines its columns

behind_one : (fs gs : List (List ℕ)) → map length fs ≡ map length gs → behind fs ≡ behind gs → fs ≡ gs
unfolding behind
behind_one [] [] l e = refl
behind_one [] (g ∷ gs) l e = absurd (let z : ◌≡◌ {A = ℕ} 0 1 = cc in omega arith)
behind_one (f ∷ fs) [] l e = absurd (let z : ◌≡◌ {A = ℕ} 0 1 = cc in omega arith)
behind_one (f ∷ fs) (g ∷ gs) l e =
    let lf : length f ≡ length g = cc in
    let lr : map length fs ≡ map length gs = cc in
    let t : f ++ behind fs ≡ g ++ behind gs = cc in
    let s = append_one f g (behind fs) (behind gs) lf t in
    rw (s.0, behind_one fs gs lr s.1)

-- two lines of columns of the same widths
pub spaced_one : (fs gs : List (List ℕ)) → map length fs ≡ map length gs → spaced fs ≡ spaced gs → fs ≡ gs
unfolding spaced
spaced_one [] [] l e = refl
spaced_one [] (g ∷ gs) l e = absurd (let z : ◌≡◌ {A = ℕ} 0 1 = cc in omega arith)
spaced_one (f ∷ fs) [] l e = absurd (let z : ◌≡◌ {A = ℕ} 0 1 = cc in omega arith)
spaced_one (f ∷ fs) (g ∷ gs) l e =
    let lf : length f ≡ length g = cc in
    let lr : map length fs ≡ map length gs = cc in
    let s = append_one f g (behind fs) (behind gs) lf e in
    rw (s.0, behind_one fs gs lr s.1)
