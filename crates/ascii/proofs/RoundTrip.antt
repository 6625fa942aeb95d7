-- The frame of a body carries the body, and a good frame is the frame of its body and no other. Assumes nothing.
use mathlib.Core.Path.{◌≡◌, refl, sym, ap, ap₂, ◌∙◌}
use mathlib.Core.Bool.{Bool, true, ◌&&◌}
use mathlib.Core.List.{List, [], ◌∷◌, ◌++◌}
use Prim.Native.Nat.{ℕ, zero, suc, ◌+◌, ◌-◌, ◌*◌, ◌/◌, ◌%◌, ◌<◌, ◌≤◌}
use native.Mathlib.Omega.{arith}
use borrow.Author.Tests.{leb-true, eq-eqb, eqb-true}
use lib.Dec.{leb, eqb, lit<}
use lib.ListN.{length, get_or, take, length-append}
use lib.Seq.{take_at, get_or-append-add, length-take-le}
use Rattle.words.specs.Bytes.{Bytes}
use Rattle.words.proofs.Bytes.{take_bytes}
use Rattle.words.proofs.Lists.{last_two}
use Rattle.ascii.specs.Ascii.{sum_of, lrc_of, digits, hex_of, spelt, ascii_framed, chars_of, decoded_bytes, ascii_body, enclosed, checked, ascii_good}
use Rattle.ascii.specs.Steps.{read_of}
use Rattle.ascii.proofs.Stores.{hex-length, ascii_length}
use Rattle.ascii.proofs.Reading.{both}
use Rattle.ascii.proofs.Judging.{chars_length, decoded_length, sum_append, last_one, spelt_below, read_good, Enclosed, enclosed_parts}
use Rattle.ascii.proofs.Inverse.{spelt-hex, digits-hex, hex-spelt}

-- ---- lists of bytes

snoc_below : (s : List ℕ) (x : ℕ) → x < 256 → ((i : ℕ) → get_or s i 0 < 256) → (i : ℕ) → get_or (s ++ (x ∷ [])) i 0 < 256
snoc_below [] x l h zero = l
snoc_below [] x l h (suc i) = lit< tt
snoc_below (y ∷ s) x l h zero = h zero
snoc_below (y ∷ s) x l h (suc i) = snoc_below s x l (λ j. h (suc j)) i

-- a body with its LRC
whole : List ℕ → List ℕ
whole b = b ++ (lrc_of b ∷ [])

whole_bytes : (b : List ℕ) → Bytes b → Bytes (whole b)
unfolding whole lrc_of
whole_bytes b h = record { below = snoc_below b (lrc_of b) (omega arith) h.below }

whole_length : (b : List ℕ) → length (whole b) ≡ length b + 1
unfolding whole
whole_length b = length-append b (lrc_of b ∷ [])

-- ---- from a body to its frame and back

chars_of_ascii : (b : List ℕ) → chars_of (ascii_framed b) ≡ hex_of (whole b)
unfolding chars_of ascii_framed whole
chars_of_ascii b = take_at (hex_of (whole b)) (13 ∷ 10 ∷ []) (length (ascii_framed b) - 3) (omega (arith, ascii_length b, hex-length (whole b), whole_length b))

decoded_of_ascii : (b : List ℕ) → Bytes b → decoded_bytes (ascii_framed b) ≡ whole b
unfolding decoded_bytes
decoded_of_ascii b h = ap spelt (chars_of_ascii b) ∙ spelt-hex (whole b) (whole_bytes b h)

-- the body of a body's frame
pub body_of_ascii : (b : List ℕ) → Bytes b → ascii_body (ascii_framed b) ≡ b
unfolding ascii_body whole
body_of_ascii b h =
    let e : length b ≡ length (whole b) - 1 = omega (arith, whole_length b) in
    ap (λ (l : List ℕ). take (length l - 1) l) (decoded_of_ascii b h) ∙ take_at b (lrc_of b ∷ []) (length (whole b) - 1) e

-- with its LRC a body adds up to 0
sum_whole : (b : List ℕ) → sum_of (whole b) % 256 ≡ 0
unfolding whole lrc_of sum_of
sum_whole b = omega (arith, sum_append b (lrc_of b ∷ []))

end_at : (b : List ℕ) (k i : ℕ) → i ≡ length (58 ∷ hex_of (whole b)) + k → get_or (ascii_framed b) i 0 ≡ get_or (13 ∷ 10 ∷ []) k 0
unfolding ascii_framed whole
end_at b k i e = ap (λ (n : ℕ). get_or (ascii_framed b) n 0) e ∙ get_or-append-add (58 ∷ hex_of (whole b)) (13 ∷ 10 ∷ []) k 0

first_is : (b : List ℕ) → eqb (get_or (ascii_framed b) 0 0) 58 ≡ true
unfolding ascii_framed
first_is b = refl

ascii_enclosed : (b : List ℕ) → enclosed (ascii_framed b) ≡ true
unfolding enclosed
ascii_enclosed b =
    let s : List ℕ = ascii_framed b in
    let n : length s ≡ 2 * length b + 5 = ascii_length b in
    let m : length (58 ∷ hex_of (whole b)) ≡ 2 * length b + 3 = omega (arith, hex-length (whole b), whole_length b) in
    let odd : eqb (length s % 2) 1 ≡ true = eq-eqb (length s % 2) 1 (omega arith) in
    let colon : eqb (get_or s 0 0) 58 ≡ true = first_is b in
    let cr : eqb (get_or s (length s - 2) 0) 13 ≡ true = eq-eqb (get_or s (length s - 2) 0) 13 (end_at b 0 (length s - 2) (omega arith)) in
    let lf : eqb (get_or s (length s - 1) 0) 10 ≡ true = eq-eqb (get_or s (length s - 1) 0) 10 (end_at b 1 (length s - 1) (omega arith)) in
    rw (odd, colon, cr, lf)

read_whole : (b : List ℕ) → Bytes b → read_of (hex_of (whole b)) ≡ 0
unfolding read_of
read_whole b h =
    let w : Bytes (whole b) = whole_bytes b h in
    rw (digits-hex (whole b) w, spelt-hex (whole b) w) (sum_whole b)

-- the frame of a body of 2 to 254 bytes is good
pub ascii_is_good : (b : List ℕ) → Bytes b → 2 ≤ length b → length b ≤ 254 → ascii_good (ascii_framed b) ≡ true
ascii_is_good b h h₂ h₂₅₄ =
    let n : length (ascii_framed b) ≡ 2 * length b + 5 = ascii_length b in
    read_good (ascii_framed b) (omega arith) (omega arith) (ascii_enclosed b) (ap read_of (chars_of_ascii b) ∙ read_whole b h)

-- ---- from a good frame to its body and back

-- the first element, what is between, and the last two
parts : (s : List ℕ) → 3 ≤ length s → s ≡ get_or s 0 0 ∷ chars_of s ++ (get_or s (length s - 2) 0 ∷ get_or s (length s - 1) 0 ∷ [])
unfolding chars_of
parts [] h = absurd (omega arith)
parts (x ∷ r) h =
    let e₀ : length r - 2 ≡ length (x ∷ r) - 3 = omega arith in
    let e₁ : suc (length r - 2) ≡ length (x ∷ r) - 2 = omega arith in
    let e₂ : suc (length r - 1) ≡ length (x ∷ r) - 1 = omega arith in
    ap (λ (l : List ℕ). x ∷ l) (last_two r (omega arith))
    ∙ ap (λ (k : ℕ). x ∷ take k r ++ (get_or (x ∷ r) (suc (length r - 2)) 0 ∷ get_or (x ∷ r) (suc (length r - 1)) 0 ∷ [])) e₀
    ∙ ap₂ (λ (i j : ℕ). x ∷ take (length (x ∷ r) - 3) r ++ (get_or (x ∷ r) i 0 ∷ get_or (x ∷ r) j 0 ∷ [])) e₁ e₂

-- what is known of a good frame
pub record Good (s : List ℕ) : Type 0 where
  pub least : 2 ≤ length (ascii_body s)
  pub most : length (ascii_body s) ≤ 254
  pub bytes : Bytes (ascii_body s)
  pub own : s ≡ ascii_framed (ascii_body s)

pub good_is_ascii : (s : List ℕ) → ascii_good s ≡ true → Good s
unfolding ascii_good ascii_framed checked ascii_body decoded_bytes
good_is_ascii s h =
    let d : List ℕ = decoded_bytes s in
    let low : Bool = leb 3 (length d) in
    let high : Bool = leb (length d) 255 in
    let p = both (low && high && enclosed s && digits (chars_of s)) (checked s) h in
    let q = both (low && high && enclosed s) (digits (chars_of s)) p.0 in
    let r = both (low && high) (enclosed s) q.0 in
    let t = both low high r.0 in
    let w : Enclosed s = enclosed_parts s r.1 in
    let n : length d ≡ (length s - 3) / 2 = decoded_length s in
    let m : length (chars_of s) ≡ length s - 3 = chars_length s in
    let three : 3 ≤ length d = leb-true 3 (length d) t.0 in
    let many : length d ≤ 255 = leb-true (length d) 255 t.1 in
    let l : length (ascii_body s) ≡ length d - 1 = length-take-le (length d - 1) d (omega arith) in
    let sum : lrc_of (ascii_body s) ≡ get_or d (length d - 1) 0 = eqb-true (lrc_of (ascii_body s)) (get_or d (length d - 1) 0) p.1 in
    let c : chars_of s ≡ hex_of (ascii_body s ++ (lrc_of (ascii_body s) ∷ [])) =
    sym (hex-spelt (chars_of s) q.1 (omega arith))
    ∙ ap hex_of (last_one d (omega arith) ∙ ap (λ (x : ℕ). ascii_body s ++ (x ∷ [])) (sym sum)) in
    record {
      least = omega arith;
      most = omega arith;
      bytes = take_bytes (length d - 1) d (record { below = spelt_below (chars_of s) q.1 });
      own =
          parts s (omega arith)
          ∙ ap (λ (x : ℕ). x ∷ chars_of s ++ (get_or s (length s - 2) 0 ∷ get_or s (length s - 1) 0 ∷ [])) w.colon
          ∙ ap₂ (λ (x y : ℕ). 58 ∷ chars_of s ++ (x ∷ y ∷ [])) w.cr w.lf
          ∙ ap (λ (l : List ℕ). 58 ∷ l ++ (13 ∷ 10 ∷ [])) c;
    }

-- two good frames with one body are equal
pub one_frame : (s t : List ℕ) → ascii_good s ≡ true → ascii_good t ≡ true → ascii_body s ≡ ascii_body t → s ≡ t
one_frame s t hs ht e = (good_is_ascii s hs).own ∙ ap ascii_framed e ∙ sym (good_is_ascii t ht).own
