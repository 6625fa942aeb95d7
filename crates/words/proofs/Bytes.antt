-- Laws of bytes and words: the bytes of two lists of words, how many bytes words are, words and back, and the bytes at the start of bytes. Assumes nothing.
use mathlib.Core.Path.{◌≡◌, refl, ap, ap₂}
use mathlib.Core.List.{List, [], ◌∷◌, ◌++◌}
use Prim.Native.Nat.{ℕ, zero, suc, ◌+◌, ◌*◌, ◌/◌, ◌%◌, ◌<◌}
use native.Mathlib.Omega.{arith}
use lib.Dec.{lit<}
use lib.ListN.{length, get_or, take}
use Rattle.words.specs.Bytes.{Bytes, bytes_of, words_of}

-- the bytes of two lists of words, one behind the other
pub bytes_append : (xs ys : List ℕ) → bytes_of (xs ++ ys) ≡ bytes_of xs ++ bytes_of ys
unfolding bytes_of
bytes_append [] ys = refl
bytes_append (x ∷ xs) ys = ap (λ (l : List ℕ). x / 256 ∷ x % 256 ∷ l) (bytes_append xs ys)

-- a word is two bytes
pub bytes_length : (ws : List ℕ) → length (bytes_of ws) ≡ 2 * length ws
unfolding bytes_of
bytes_length [] = refl
bytes_length (w ∷ ws) = omega (arith, bytes_length ws)

-- the bytes of words give them again
pub words_and_back : (ws : List ℕ) → words_of (bytes_of ws) ≡ ws
unfolding bytes_of words_of
words_and_back [] = refl
words_and_back (w ∷ ws) =
    let e : w / 256 * 256 + w % 256 ≡ w = omega arith in
    ap₂ (λ (x : ℕ) (xs : List ℕ). x ∷ xs) e (words_and_back ws)

take_below : (n : ℕ) (s : List ℕ) → ((i : ℕ) → get_or s i 0 < 256) → (i : ℕ) → get_or (take n s) i 0 < 256
take_below zero s h i = lit< tt
take_below (suc n) [] h i = h i
take_below (suc n) (x ∷ s) h zero = h zero
take_below (suc n) (x ∷ s) h (suc i) = take_below n s (λ j. h (suc j)) i

-- the start of a list of bytes is a list of bytes
pub take_bytes : (n : ℕ) (s : List ℕ) → Bytes s → Bytes (take n s)
take_bytes n s bytes = record { below = take_below n s bytes.below }
