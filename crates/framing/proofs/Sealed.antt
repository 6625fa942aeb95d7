-- Lengths of frames, and a body that is sealed where it stands. Assumes nothing.
use mathlib.Core.Path.{◌≡◌, ap, ◌∙◌}
use mathlib.Core.Bool.{Bool, true, false}
use mathlib.Core.List.{List}
use Prim.Native.Nat.{ℕ, ◌+◌, ◌*◌, ◌≤◌}
use native.Mathlib.Omega.{arith}
use lib.Dec.{lit≤}
use lib.ListN.{length, take}
use Rattle.words.specs.Overlay.{overlay}
use Rattle.words.proofs.Stores.{overlay-start, overlay_over}
use Rattle.rtu.proofs.Stores.{framed-length}
use Rattle.ascii.proofs.Stores.{ascii_length}
use Rattle.framing.specs.Framing.{framed_in, room_in}

-- the longest frame fits into the room that a reply must have
pub frame_fits : (ascii : Bool) (b : List ℕ) → length b ≤ 254 → length (framed_in ascii b) ≤ room_in ascii
unfolding framed_in room_in
frame_fits true b h = omega (arith, ascii_length b)
frame_fits false b h = omega (arith, framed-length b)

-- that room is enough for any body
pub room_least : (ascii : Bool) → 256 ≤ room_in ascii
unfolding room_in
room_least true = lit≤ tt
room_least false = lit≤ tt

longer : (ascii : Bool) (b : List ℕ) → length b ≤ length (framed_in ascii b)
unfolding framed_in
longer true b = omega (arith, ascii_length b)
longer false b = omega (arith, framed-length b)

-- an ASCII frame has twice the RTU frame's length and one character more
pub ascii_twice : (b : List ℕ) → length (framed_in true b) ≡ 2 * length (framed_in false b) + 1
unfolding framed_in
ascii_twice b = omega (arith, ascii_length b, framed-length b)

-- the frame of a body that stands at the start of a buffer, over that: the body's frame over the buffer
pub sealed : (ascii : Bool) (buffer b : List ℕ) (n : ℕ) → n ≡ length b
    → overlay (framed_in ascii (take n (overlay b buffer))) (overlay b buffer) ≡ overlay (framed_in ascii b) buffer
sealed ascii buffer b n e =
    ap (λ (l : List ℕ). overlay (framed_in ascii l) (overlay b buffer)) (overlay-start buffer b n e) ∙ overlay_over buffer b (framed_in ascii b) (longer ascii b)
