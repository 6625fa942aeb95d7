-- What a frame carries, as the code hands it on, and how long it is. Assumes nothing.
use mathlib.Core.Path.{◌≡◌, refl}
use mathlib.Core.Bool.{Bool, true, false, ◌&&◌, cond}
use mathlib.Core.List.{List, [], ◌∷◌}
use Prim.Native.Nat.{ℕ, ◌≤◌}
use native.Mathlib.Omega.{arith}
use borrow.Author.Tests.{ne_eqb}
use lib.Dec.{eqb, lit≤}
use lib.ListN.{length}
use Rattle.ports.specs.Ports.{limits}
use Rattle.ports.specs.declared.Port.{Port}
use Rattle.ports.proofs.Most.{longest_most}
use Rattle.rtu.specs.Frame.{is_good, body_of as rtu_body}
use Rattle.rtu.proofs.RoundTrip.{good_least, good_most, body_length}
use Rattle.ascii.specs.Ascii.{ascii_good, ascii_body}
use Rattle.ascii.specs.Steps.{good_body}
use Rattle.ascii.proofs.RoundTrip.{good_is_ascii}
use Rattle.framing.specs.Framing.{Carried, carried_if, carried_in, body_of}
use Rattle.framing.specs.Framing.Carried.{Bad, Body}
use Rattle.framing.specs.Steps.{decoded_in, carried_by}

-- what is decoded, or else a part of the frame, is the body that is carried
pub decoded_body : (port : Port) (ascii : Bool) (frame : List ℕ)
    → cond ascii (decoded_in port ascii frame) (body_of (carried_in port false frame)) ≡ body_of (carried_in port ascii frame)
unfolding decoded_in
decoded_body port true frame = refl
decoded_body port false frame = refl

-- what is decoded of an ASCII frame is its body, where the port carries any
pub good_body_is : (port : Port) (frame : List ℕ) → (limits port).ascii ≡ true → good_body frame ≡ body_of (carried_in port true frame)
unfolding good_body carried_in
good_body_is port frame e = rw e (go (ascii_good frame) (ascii_body frame))
  where
    go : (good : Bool) (body : List ℕ) → cond good body [] ≡ body_of (carried_if good body)
    go true body = refl
    go false body = refl

-- so it is what is decoded where the framing is ASCII and the port carries it,
pub decoded_held : (port : Port) (ascii : Bool) (frame : List ℕ) → ascii && (limits port).ascii ≡ true → good_body frame ≡ decoded_in port ascii frame
unfolding decoded_in
decoded_held port true frame e = good_body_is port frame e
decoded_held port false frame e = let z : ◌≡◌ {A = ℕ} 0 1 = cc in absurd (omega arith)

-- and nothing is decoded elsewhere
pub decoded_none : (port : Port) (ascii : Bool) (frame : List ℕ) → ascii && (limits port).ascii ≡ false → [] ≡ decoded_in port ascii frame
unfolding decoded_in carried_in
decoded_none port true frame e = rw e
decoded_none port false frame e = refl

-- a body has 2 to 254 bytes in both framings
abbrev Sized : Carried → Type 0
Sized Bad = Unit {0}
Sized (Body b) = (2 ≤ length b) × (length b ≤ 254)

sized_if : (good : Bool) (body : List ℕ) → (good ≡ true → (2 ≤ length body) × (length body ≤ 254)) → Sized (carried_if good body)
sized_if true body f = f refl
sized_if false body f = tt

-- an ASCII frame's where the port carries any
ascii_sized : (takes : Bool) (frame : List ℕ) → Sized (carried_if (takes && ascii_good frame) (ascii_body frame))
ascii_sized true frame = sized_if (ascii_good frame) (ascii_body frame) (λ g. ((good_is_ascii frame g).least, (good_is_ascii frame g).most))
ascii_sized false frame = tt

carried_sized : (port : Port) (ascii : Bool) (frame : List ℕ) → Sized (carried_in port ascii frame)
unfolding carried_in
carried_sized port true frame = ascii_sized (limits port).ascii frame
carried_sized port false frame =
    let n : ℕ = (limits port).longest in
    sized_if (is_good n frame) (rtu_body frame)
    (λ g. (omega (arith, body_length frame, good_least n frame g), omega (arith, body_length frame, good_most n frame g, longest_most port)))

-- a list of bytes that is handed on is the body that it carries
pub body_again : (body : List ℕ) → body_of (carried_by body) ≡ body
unfolding carried_by
body_again [] = refl
body_again (x ∷ xs) = let e : eqb (length (x ∷ xs)) 0 ≡ false = ne_eqb (length (x ∷ xs)) 0 (λ z. omega arith) in rw e

again : (c : Carried) → Sized c → carried_by (body_of c) ≡ c
unfolding carried_by
again Bad h = refl
again (Body b) h = let e : eqb (length b) 0 ≡ false = ne_eqb (length b) 0 (λ z. omega (arith, h.0)) in rw e

-- a body of no bytes tells a bad frame
pub carried_again : (port : Port) (ascii : Bool) (frame : List ℕ) → carried_by (body_of (carried_in port ascii frame)) ≡ carried_in port ascii frame
carried_again port ascii frame = again (carried_in port ascii frame) (carried_sized port ascii frame)

most : (c : Carried) → Sized c → length (body_of c) ≤ 254
most Bad h = lit≤ tt
most (Body b) h = h.1

-- and it has 254 bytes at most
pub carried_most : (port : Port) (ascii : Bool) (frame : List ℕ) → length (body_of (carried_in port ascii frame)) ≤ 254
carried_most port ascii frame = most (carried_in port ascii frame) (carried_sized port ascii frame)

-- so is what is decoded
pub decoded_most : (port : Port) (ascii : Bool) (frame : List ℕ) → length (decoded_in port ascii frame) ≤ 254
unfolding decoded_in
decoded_most port true frame = carried_most port true frame
decoded_most port false frame = lit≤ tt
