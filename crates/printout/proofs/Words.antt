-- The loop that stores the words of a file: which are left, and what stands there at its end. Assumes nothing.
use mathlib.Core.Path.{◌≡◌, refl, ap, ◌∙◌}
use mathlib.Core.List.{List, [], ◌∷◌}
use Prim.Native.Nat.{ℕ, suc, ◌+◌, ◌*◌, ◌/◌, ◌<◌, ◌≤◌}
use native.Mathlib.Numerals.{add-one}
use native.Mathlib.Omega.{arith}
use lib.ListN.{length, take, drop, set, length-drop}
use lib.Seq.{sets, sets-eq, take_at, drop-cons}
use Rattle.words.specs.Bytes.{word_at, words_of}

-- the words from word i on begin with word i
words_left : (b : List ℕ) (i : ℕ) → 2 * i + 1 < length b → words_of (drop (2 * i) b) ≡ word_at b (2 * i) ∷ words_of (drop (2 * (i + 1)) b)
unfolding words_of
words_left b i h =
    let m : suc (2 * i) ≡ 2 * i + 1 = omega arith in
    let n : suc (2 * i + 1) ≡ 2 * (i + 1) = omega arith in
    rw (drop-cons b (2 * i) 0 (omega arith), m, drop-cons b (2 * i + 1) 0 h, n)

-- a turn
pub words_again : (v b : List ℕ) (i x : ℕ) (all : List ℕ) → 2 * i + 1 < length b → x ≡ word_at b (2 * i) → sets v i (words_of (drop (2 * i) b)) ≡ all
    → sets (set v i x) (i + 1) (words_of (drop (2 * (i + 1)) b)) ≡ all
words_again v b i x all h e k = rw (add-one i, e) (rw (words_left b i h, add-one i) at k)

no_word : (s : List ℕ) → length s < 2 → words_of s ≡ []
unfolding words_of
no_word [] h = refl
no_word (a ∷ []) h = refl
no_word (a ∷ c ∷ s) h = absurd (omega arith)

-- none are left behind the last
pub words_done : (v b : List ℕ) (i : ℕ) (all : List ℕ) → length b / 2 ≤ i → sets v i (words_of (drop (2 * i) b)) ≡ all → v ≡ all
words_done v b i all h k =
    let n : words_of (drop (2 * i) b) ≡ [] = no_word (drop (2 * i) b) (omega (arith, length-drop (2 * i) b)) in
    rw n at k

-- two bytes make a word
pub words_length : (b : List ℕ) → length (words_of b) ≡ length b / 2
unfolding words_of
words_length [] = refl
words_length (a ∷ []) = refl
words_length (a ∷ c ∷ s) = omega (arith, words_length s)

-- the words that were stored, read again
pub words_stored : (v b : List ℕ) (n : ℕ) → length b / 2 ≡ n → n ≤ length v → take n (sets v 0 (words_of b)) ≡ words_of b
words_stored v b n e h =
    let l : length (words_of b) ≡ n = words_length b ∙ e in
    let room : 0 + length (words_of b) ≤ length v = omega arith in
    ap (take n) (sets-eq (words_of b) v 0 room) ∙ take_at (words_of b) (drop (0 + length (words_of b)) v) n l
