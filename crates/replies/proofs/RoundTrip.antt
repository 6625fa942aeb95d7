-- A reply carries its body, in both framings; and what function 16 is answered with, in words. Assumes nothing.
use mathlib.Core.Path.{◌≡◌, refl}
use mathlib.Core.Bool.{Bool}
use mathlib.Core.List.{List, [], ◌∷◌}
use Prim.Native.Nat.{ℕ, ◌+◌, ◌*◌, ◌/◌, ◌%◌, ◌≤◌, ◌<◌}
use native.Mathlib.Omega.{arith}
use borrow.Author.Tests.{ne_eqb}
use lib.ListN.{length, get_or}
use Rattle.words.specs.Bytes.{bytes_of, word_at, Bytes}
use Rattle.ports.specs.declared.Port.{Port}
use Rattle.framing.specs.Framing.{carried_in}
use Rattle.framing.specs.Framing.Carried.{Body}
use Rattle.framing.proofs.RoundTrip.{Passes, frame_carries}
use Rattle.replies.specs.Reply.{written_body, reply_of}

-- no bytes, or two to n
pub record SizedTo (n : ℕ) (b : List ℕ) : Type 0 where
  pub least : (length b ≡ 0 → ⊥) → 2 ≤ length b
  pub most : length b ≤ n

-- as many as a frame carries
abbrev pub Sized : List ℕ → Type 0
Sized = SizedTo 254

-- a reply carries its body, by a port that carries such a frame
pub reply_carries : (port : Port) (ascii : Bool) (b : List ℕ) → Bytes b → Sized b → Passes port ascii b → (length b ≡ 0 → ⊥)
    → carried_in port ascii (reply_of ascii b) ≡ Body b
unfolding reply_of
reply_carries port ascii b h s p n = rw (ne_eqb (length b) 0 n) (frame_carries port ascii b h (s.least n) s.most p)

-- the reply to function 16: address, function, start and count, high bytes first
pub start_and_count : (body : List ℕ) → Bytes body → 6 ≤ length body
    → written_body 16 body ≡ get_or body 0 0 ∷ get_or body 1 0 ∷ bytes_of (word_at body 2 ∷ word_at body 4 ∷ [])
unfolding written_body bytes_of
start_and_count (a ∷ b ∷ c ∷ d ∷ e ∷ f ∷ rest) h l =
    let high : (x y : ℕ) → y < 256 → (x * 256 + y) / 256 ≡ x = λ x y k. omega arith in
    let low : (x y : ℕ) → y < 256 → (x * 256 + y) % 256 ≡ y = λ x y k. omega arith in
    rw (high c d (h.below 3), low c d (h.below 3), high e f (h.below 5), low e f (h.below 5))
start_and_count [] h l = absurd (omega arith)
start_and_count (a ∷ []) h l = absurd (omega arith)
start_and_count (a ∷ b ∷ []) h l = absurd (omega arith)
start_and_count (a ∷ b ∷ c ∷ []) h l = absurd (omega arith)
start_and_count (a ∷ b ∷ c ∷ d ∷ []) h l = absurd (omega arith)
start_and_count (a ∷ b ∷ c ∷ d ∷ e ∷ []) h l = absurd (omega arith)

-- the reply to functions 6 and 22 is the request
pub echoed : (body : List ℕ) → (written_body 6 body ≡ body) × (written_body 22 body ≡ body)
unfolding written_body
echoed body = (refl, refl)
