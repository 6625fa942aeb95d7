-- Stores from the end backwards: a store below a run of stores, one more byte spelt, and a body made a frame in place. Assumes nothing.
use mathlib.Core.Path.{◌≡◌, refl, sym, ap, ◌∙◌}
use mathlib.Core.List.{List, [], ◌∷◌, ◌++◌}
use Prim.Native.Nat.{ℕ, suc, ◌+◌, ◌*◌, ◌/◌, ◌%◌, ◌<◌, ◌≤◌}
use native.Mathlib.Omega.{arith}
use native.Mathlib.Numerals.{add-one}
use lib.ListN.{length, get_or, take, drop, set, length-append, length-set, drop_of_length-le}
use lib.Seq.{sets, set_comm, get_or-set_other, drop-cons, get_or-take, length-take-le, take-suc-set, drop-set-lt}
use Rattle.words.specs.Overlay.{overlay}
use Rattle.words.proofs.Stores.{sets-append, sets-overlay}
use Rattle.words.specs.Digits.{hex_digit}
use Rattle.ascii.specs.Ascii.{hex_of, lrc_of, ascii_framed}

-- a store below a run of stores
pub set-sets : (v : List ℕ) (at i a : ℕ) (xs : List ℕ) → i < at → set (sets v at xs) i a ≡ sets (set v i a) at xs
set-sets v at i a [] h = refl
set-sets v at i a (x ∷ xs) h =
    set-sets (set v at x) (suc at) i a xs (omega arith) ∙ ap (λ (l : List ℕ). sets l (suc at) xs) (set_comm v at i x a (λ e. omega arith))

-- a byte below a run of stores
pub get_or-sets : (v : List ℕ) (at i : ℕ) (xs : List ℕ) → i < at → get_or (sets v at xs) i 0 ≡ get_or v i 0
get_or-sets v at i [] h = refl
get_or-sets v at i (x ∷ xs) h = get_or-sets (set v at x) (suc at) i xs (omega arith) ∙ get_or-set_other v at i x 0 (λ e. omega arith)

-- two digits for each byte
pub hex-length : (s : List ℕ) → length (hex_of s) ≡ 2 * length s
unfolding hex_of
hex-length [] = refl
hex-length (b ∷ s) = omega (arith, hex-length s)

-- a frame has two characters for each byte of its body, and five more
pub ascii_length : (b : List ℕ) → length (ascii_framed b) ≡ 2 * length b + 5
unfolding ascii_framed
ascii_length b =
    omega (arith, length-append (hex_of (b ++ (lrc_of b ∷ []))) (13 ∷ 10 ∷ []), hex-length (b ++ (lrc_of b ∷ [])), length-append b (lrc_of b ∷ []))

-- one byte more, below those that are spelt
pub spell_more : (v : List ℕ) (n k m : ℕ) → suc k ≡ m → k < n → n ≤ length v
    → set (set (sets v (2 * m + 1) (hex_of (drop m (take n v)))) (2 * k + 1) (hex_digit (get_or v k 0 / 16))) (2 * k + 2) (hex_digit (get_or v k 0 % 16))
    ≡ sets v (2 * k + 1) (hex_of (drop k (take n v)))
unfolding hex_of
spell_more v n k m e h hn =
    let high : ℕ = hex_digit (get_or v k 0 / 16) in
    let low : ℕ = hex_digit (get_or v k 0 % 16) in
    let done : List ℕ = hex_of (drop m (take n v)) in
    let hk : k < length (take n v) = omega (arith, length-take-le n v hn) in
    let e₁ : suc (2 * k + 1) ≡ 2 * k + 2 = omega arith in
    let e₂ : suc (suc (2 * k + 1)) ≡ 2 * m + 1 = omega arith in
    let d : drop k (take n v) ≡ get_or v k 0 ∷ drop m (take n v) =
    drop-cons (take n v) k 0 hk
    ∙ ap (λ (b : ℕ). b ∷ drop (suc k) (take n v)) (get_or-take n v k 0 h)
    ∙ ap (λ (j : ℕ). get_or v k 0 ∷ drop j (take n v)) e in
    ap (λ (l : List ℕ). set l (2 * k + 2) low) (set-sets v (2 * m + 1) (2 * k + 1) high done (omega arith))
    ∙ set-sets (set v (2 * k + 1) high) (2 * m + 1) (2 * k + 2) low done (omega arith)
    ∙ sym (ap (λ (l : List ℕ). sets v (2 * k + 1) (hex_of l)) d
    ∙ ap (λ (j : ℕ). sets (set (set v (2 * k + 1) high) j low) (suc (suc (2 * k + 1))) done) e₁
    ∙ ap (λ (j : ℕ). sets (set (set v (2 * k + 1) high) (2 * k + 2) low) j done) e₂)

-- the same over the buffer as it stands
pub spell_again : (v buffer : List ℕ) (n k m high low : ℕ) → suc k ≡ m → k < n → n ≤ length v
    → buffer ≡ sets v (2 * m + 1) (hex_of (drop m (take n v)))
    → high ≡ hex_digit (get_or buffer k 0 / 16) → low ≡ hex_digit (get_or buffer k 0 % 16)
    → set (set buffer (2 * k + 1) high) (2 * k + 2) low ≡ sets v (2 * k + 1) (hex_of (drop k (take n v)))
spell_again v buffer n k m high low e h hn b eh el =
    let g : get_or buffer k 0 ≡ get_or v k 0 =
    ap (λ (l : List ℕ). get_or l k 0) b ∙ get_or-sets v (2 * m + 1) k (hex_of (drop m (take n v))) (omega arith) in
    rw (eh, el, g, b) (spell_more v n k m e h hn)

-- nothing spelt yet
pub spell_none : (v : List ℕ) (n : ℕ) → n ≤ length v → v ≡ sets v (2 * n + 1) (hex_of (drop n (take n v)))
unfolding hex_of
spell_none v n h =
    let z : drop n (take n v) ≡ [] = drop_of_length-le (take n v) {i = n} (omega (arith, length-take-le n v h)) in
    rw z

-- a body with its LRC spelt in place, then the colon, CR and LF: the body's frame over the buffer
pub sealed : (v : List ℕ) (n sum : ℕ) → sum ≡ lrc_of (take n v) → 2 * n + 5 ≤ length v
    → set (set (set (sets (set v n sum) 1 (hex_of (take (n + 1) (set v n sum)))) 0 58) (2 * n + 3) 13) (2 * n + 4) 10 ≡ overlay (ascii_framed (take n v)) v
unfolding overlay ascii_framed
sealed v n sum es h =
    let body : List ℕ = take n v in
    let all : List ℕ = body ++ (lrc_of body ∷ []) in
    let b : List ℕ = set v n sum in
    let hs : List ℕ = hex_of all in
    let lb : length body ≡ n = length-take-le n v (omega arith) in
    let lf : length (ascii_framed body) ≡ 2 * length body + 5 = ascii_length body in
    let lh : length hs ≡ 2 * n + 2 = omega (arith, hex-length all, length-append body (lrc_of body ∷ [])) in
    let t : take (n + 1) b ≡ all =
    ap (λ (k : ℕ). take k b) (add-one n) ∙ take-suc-set v n sum (omega arith) ∙ ap (λ (x : ℕ). body ++ (x ∷ [])) es in
    let e₃ : 2 * n + 3 ≡ 0 + length (58 ∷ hs) = omega arith in
    let e₄ : 2 * n + 4 ≡ suc (0 + length (58 ∷ hs)) = omega arith in
    let lv : length b ≡ length v = length-set v n sum in
    ap (λ (l : List ℕ). set (set (set (sets b 1 (hex_of l)) 0 58) (2 * n + 3) 13) (2 * n + 4) 10) t
    ∙ ap (λ (l : List ℕ). set (set l (2 * n + 3) 13) (2 * n + 4) 10) (set-sets b 1 0 58 hs (omega arith))
    ∙ ap (λ (k : ℕ). set (set (sets b 0 (58 ∷ hs)) k 13) (2 * n + 4) 10) e₃
    ∙ ap (λ (k : ℕ). set (set (sets b 0 (58 ∷ hs)) (0 + length (58 ∷ hs)) 13) k 10) e₄
    ∙ sym (sets-append b 0 (58 ∷ hs) (13 ∷ 10 ∷ []))
    ∙ sets-overlay b (ascii_framed body) (omega arith)
    ∙ ap (λ (l : List ℕ). ascii_framed body ++ l) (drop-set-lt (length (ascii_framed body)) v n sum (omega arith))
