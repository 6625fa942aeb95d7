-- Round trips, one law for both framings: the frame of a body of 2 to 254 bytes carries the body, by a port that carries such a frame; a frame that
-- carries a body is the body's frame, so that a body has one frame in each framing. Assumes nothing.
use mathlib.Core.Path.{◌≡◌, refl, sym, ◌∙◌, subst}
use mathlib.Core.Bool.{Bool, true, false, ◌&&◌}
use mathlib.Core.List.{List}
use Prim.Native.Nat.{ℕ, ◌+◌, ◌≤◌}
use native.Mathlib.Omega.{arith}
use lib.ListN.{length}
use Rattle.words.specs.Bytes.{Bytes}
use Rattle.ports.specs.Ports.{limits}
use Rattle.ports.specs.declared.Port.{Port}
use Rattle.ports.specs.declared.Port.TheVariants.{Serial}
use Rattle.ports.proofs.Most.{longest_most}
use Rattle.rtu.specs.Frame.{is_good, body_of as rtu_body}
use Rattle.rtu.proofs.RoundTrip.{framed-is_good, body_of-framed, good_is_framed, good_least, good_most, body_length, body_bytes}
use Rattle.ascii.specs.Ascii.{ascii_good, ascii_body}
use Rattle.ascii.proofs.RoundTrip.{ascii_is_good, body_of_ascii, Good, good_is_ascii}
use Rattle.framing.specs.Framing.{Carried, carried_if, carried_in, framed_in}
use Rattle.framing.specs.Framing.Carried.{Bad, Body}

-- a port carries the body's frame
abbrev pub Passes : Port → Bool → List ℕ → Type 0
Passes port true b = (limits port).ascii ≡ true
Passes port false b = length b + 2 ≤ (limits port).longest

-- the serial one carries every body's
pub serial_passes : (ascii : Bool) (b : List ℕ) → length b ≤ 254 → Passes Serial ascii b
serial_passes true b m = refl
serial_passes false b m = omega arith

-- decoding what sealing wrote gives the body
pub frame_carries : (port : Port) (ascii : Bool) (b : List ℕ) → Bytes b → 2 ≤ length b → length b ≤ 254 → Passes port ascii b
    → carried_in port ascii (framed_in ascii b) ≡ Body b
unfolding carried_in framed_in
frame_carries port true b h l m p = rw (p, ascii_is_good b h l m, body_of_ascii b h)
frame_carries port false b h l m p = rw (framed-is_good (limits port).longest b l p, body_of-framed b)

-- what is known of a frame that carries a body
pub record Whole (ascii : Bool) (s b : List ℕ) : Type 0 where
  pub least : 2 ≤ length b
  pub most : length b ≤ 254
  pub bytes : Bytes b
  pub own : s ≡ framed_in ascii b

abbrev WholeOf : Bool → List ℕ → Carried → Type 0
WholeOf ascii s Bad = Unit {0}
WholeOf ascii s (Body b) = Whole ascii s b

whole_if : (ascii : Bool) (s : List ℕ) (good : Bool) (body : List ℕ) → (good ≡ true → Whole ascii s body) → WholeOf ascii s (carried_if good body)
whole_if ascii s true body f = f refl
whole_if ascii s false body f = tt

whole_ascii : (takes : Bool) (s : List ℕ) → WholeOf true s (carried_if (takes && ascii_good s) (ascii_body s))
unfolding framed_in
whole_ascii true s = whole_if true s (ascii_good s) (ascii_body s) (λ g. of (good_is_ascii s g))
  where
    of : Good s → Whole true s (ascii_body s)
    of k = record { least = k.least; most = k.most; bytes = k.bytes; own = k.own }
whole_ascii false s = tt

whole : (port : Port) (ascii : Bool) (s : List ℕ) → Bytes s → WholeOf ascii s (carried_in port ascii s)
unfolding carried_in framed_in
whole port true s h = whole_ascii (limits port).ascii s
whole port false s h =
    let n : ℕ = (limits port).longest in
    whole_if false s (is_good n s) (rtu_body s)
    (λ g. record {
      least = omega (arith, body_length s, good_least n s g);
      most = omega (arith, body_length s, good_most n s g, longest_most port);
      bytes = body_bytes s h;
      own = (good_is_framed n s h g).own;
    })

-- a frame that carries a body is the body's frame
pub carries_own : (port : Port) (ascii : Bool) (s b : List ℕ) → Bytes s → carried_in port ascii s ≡ Body b → Whole ascii s b
carries_own port ascii s b h e = subst (WholeOf ascii s) e (whole port ascii s h)

-- two frames of one framing that carry the same body are equal, by whichever ports
pub one_frame : (p q : Port) (ascii : Bool) (s t b : List ℕ) → Bytes s → Bytes t → carried_in p ascii s ≡ Body b → carried_in q ascii t ≡ Body b → s ≡ t
one_frame p q ascii s t b hs ht es et = (carries_own p ascii s b hs es).own ∙ sym (carries_own q ascii t b ht et).own
