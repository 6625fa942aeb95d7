-- Both framings as one: what a frame carries, the frame of a body, and the room that a reply needs, by the framing that the host names: true for
-- ASCII, false for RTU. Document 01, "Frames" and "What is sent back", and document 02, wish 1: "the host says with each frame which framing it
-- has", and wish 7: it "now names its port". Assumes nothing.
use Rattle.std.specs.Prelude.{Bool, ◌&&◌, cond, List, [], ℕ}
use Rattle.ports.specs.Ports.{limits}
use Rattle.ports.specs.declared.Port.{Port}
use Rattle.rtu.specs.Frame.{is_good, framed, body_of as rtu_body}
use Rattle.ascii.specs.Ascii.{ascii_good, ascii_body, ascii_framed}

-- what a frame carries: nothing, as it counts bad, or its body, which is all that its request is judged by
pub data Carried : Type 0 where
  Bad : Carried
  Body : List ℕ → Carried

-- the body of a frame that keeps to its framing's form and lengths, and has its body's checksum; any other "counts bad"
abbrev pub carried_if : Bool → List ℕ → Carried
carried_if good body = cond good (Body body) Bad

-- by the port and the framing that the host says the frame has: "Radio frames are RTU of at most 64 bytes, longer ones and ASCII ones count bad without
-- reply"
unfoldable pub carried_in : Port → Bool → List ℕ → Carried
carried_in port ascii frame =
    cond ascii (carried_if ((limits port).ascii && ascii_good frame) (ascii_body frame)) (carried_if (is_good (limits port).longest frame) (rtu_body frame))

-- the body that is carried; no bytes where it is bad
abbrev pub body_of : Carried → List ℕ
body_of Bad = []
body_of (Body body) = body

-- "The reply goes out in the same framing": the frame of a body
unfoldable pub framed_in : Bool → List ℕ → List ℕ
framed_in ascii body = cond ascii (ascii_framed body) (framed body)

-- "3: reply buffer under 256 bytes"; in ASCII "the reply buffer must then hold 513 bytes, under number 3"
unfoldable pub room_in : Bool → ℕ
room_in ascii = cond ascii 513 256
