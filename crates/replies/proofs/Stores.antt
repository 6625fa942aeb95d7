-- Stores into a reply: one word more. Assumes nothing.
use mathlib.Core.Path.{◌≡◌, sym, ap, ◌∙◌}
use mathlib.Core.List.{List, [], ◌∷◌}
use Prim.Native.Nat.{ℕ, suc, ◌+◌, ◌*◌, ◌/◌, ◌%◌, ◌<◌}
use native.Mathlib.Nat.{le_of_lt}
use native.Mathlib.Numerals.{add-one}
use native.Mathlib.Omega.{arith}
use lib.ListN.{length, get_or, take, set}
use lib.Seq.{sets, take-suc, length-take-le}
use Rattle.words.specs.Bytes.{bytes_of}
use Rattle.words.proofs.Bytes.{bytes_append, bytes_length}
use Rattle.words.proofs.Stores.{sets-append, sets-overlay}

-- one word more of a list, from byte 3 on
pub word_more : (v ws : List ℕ) (i : ℕ) → i < length ws
    → set (set (sets v 3 (bytes_of (take i ws))) (3 + 2 * i) (get_or ws i 0 / 256)) (4 + 2 * i) (get_or ws i 0 % 256) ≡ sets v 3 (bytes_of (take (i + 1) ws))
unfolding bytes_of
word_more v ws i h =
    let w : ℕ = get_or ws i 0 in
    let done : List ℕ = bytes_of (take i ws) in
    let n : 3 + length done ≡ 3 + 2 * i = omega (arith, bytes_length (take i ws), length-take-le i ws (le_of_lt h)) in
    let m : suc (3 + 2 * i) ≡ 4 + 2 * i = omega arith in
    sym (ap (λ (l : List ℕ). sets v 3 (bytes_of l)) (ap (λ (k : ℕ). take k ws) (add-one i) ∙ take-suc ws i 0 h)
    ∙ ap (sets v 3) (bytes_append (take i ws) (w ∷ []))
    ∙ sets-append v 3 done (w / 256 ∷ w % 256 ∷ [])
    ∙ ap (λ (k : ℕ). set (set (sets v 3 done) k (w / 256)) (suc k) (w % 256)) n
    ∙ ap (λ (k : ℕ). set (set (sets v 3 done) (3 + 2 * i) (w / 256)) k (w % 256)) m)

-- a list stored from byte 0 on, and how long the start of a list is
pub ruleset from_start = (sets-overlay, length-take-le)
