-- What a frame carries, as the code hands it on: a list of bytes, none for a bad frame. No reader has to believe these definitions: `decoded_body`
-- and `carried_again` (framing/proofs/Carried) say that they come to what a frame carries. Assumes nothing.
use Rattle.std.specs.Prelude.{Bool, true, ◌&&◌, cond, List, [], ℕ, eqb, length}
use Rattle.ports.specs.Ports.{limits}
use Rattle.ports.specs.declared.Port.{Port}
use Rattle.ascii.specs.Steps.{decoded_over}
use Rattle.framing.specs.Framing.{Carried, carried_in, body_of}
use Rattle.framing.specs.Framing.Carried.{Bad, Body}

-- what is decoded into bytes of its own: an ASCII frame's body
unfoldable pub decoded_in : Port → Bool → List ℕ → List ℕ
decoded_in port ascii frame = cond ascii (body_of (carried_in port true frame)) []

-- what the lent bytes hold then; nothing is decoded where the port carries no ASCII
unfoldable pub decoded_into : Port → Bool → List ℕ → List ℕ → List ℕ
decoded_into port ascii frame bytes = cond (ascii && (limits port).ascii) (decoded_over frame bytes) bytes

-- a list of bytes that was handed on
unfoldable pub carried_by : List ℕ → Carried
carried_by body = cond (eqb (length body) 0) Bad (Body body)
