-- Stores into a buffer, in order: of two lists, from the start on, one more, and of a list over another. Assumes nothing.
use mathlib.Core.Path.{◌≡◌, sym, ap, ◌∙◌}
use mathlib.Core.List.{List, [], ◌∷◌, ◌++◌}
use Prim.Native.Nat.{ℕ, suc, ◌+◌, ◌-◌, ◌≤◌, ◌<◌}
use native.Mathlib.Nat.{add-zero, zero-add, le_of_lt}
use native.Mathlib.Numerals.{add-one}
use native.Mathlib.Omega.{arith}
use lib.ListN.{length, get_or, take, drop, set}
use lib.Seq.{sets, sets-eq, take_at, take-suc, length-take-le, drop-append-add, drop-drop}
use Rattle.words.specs.Overlay.{overlay}

-- stores of two lists, one behind the other
pub sets-append : (v : List ℕ) (at : ℕ) (xs ys : List ℕ) → sets v at (xs ++ ys) ≡ sets (sets v at xs) (at + length xs) ys
sets-append v at [] ys = rw add-zero
sets-append v at (x ∷ xs) ys =
    let e : suc at + length xs ≡ at + suc (length xs) = omega arith in
    sets-append (set v at x) (suc at) xs ys ∙ ap (λ (n : ℕ). sets (sets (set v at x) (suc at) xs) n ys) e

-- one element more of a list, from the start on
pub byte_more : (v s : List ℕ) (i : ℕ) → i < length s → set (sets v 0 (take i s)) i (get_or s i 0) ≡ sets v 0 (take (i + 1) s)
byte_more v s i h =
    let n : 0 + length (take i s) ≡ i = omega (arith, length-take-le i s (le_of_lt h)) in
    sym (ap (λ (l : List ℕ). sets v 0 l) (ap (λ (k : ℕ). take k s) (add-one i) ∙ take-suc s i 0 h)
    ∙ sets-append v 0 (take i s) (get_or s i 0 ∷ [])
    ∙ ap (λ (k : ℕ). set (sets v 0 (take i s)) k (get_or s i 0)) n)

-- stores from the start on
pub sets-overlay : (buffer b : List ℕ) → length b ≤ length buffer → sets buffer 0 b ≡ overlay b buffer
unfolding overlay
sets-overlay buffer b h =
    let h₀ : 0 + length b ≤ length buffer = omega arith in
    sets-eq b buffer 0 h₀ ∙ ap (λ (k : ℕ). b ++ drop k buffer) (zero-add (length b))

-- what was written over the start is what stands there
pub overlay-start : (buffer b : List ℕ) (n : ℕ) → n ≡ length b → take n (overlay b buffer) ≡ b
unfolding overlay
overlay-start buffer b n e = take_at b (drop (length b) buffer) n (sym e)

-- a longer list over a list over a buffer: the longer one over the buffer
pub overlay_over : (buffer b f : List ℕ) → length b ≤ length f → overlay f (overlay b buffer) ≡ overlay f buffer
unfolding overlay
overlay_over buffer b f h =
    let n : ℕ = length f - length b in
    let e : length f ≡ length b + n = omega arith in
    ap (λ (l : List ℕ). f ++ l)
    (ap (λ (k : ℕ). drop k (b ++ drop (length b) buffer)) e
    ∙ drop-append-add b (drop (length b) buffer) n
    ∙ drop-drop n (length b) buffer
    ∙ sym (ap (λ (k : ℕ). drop k buffer) e))
