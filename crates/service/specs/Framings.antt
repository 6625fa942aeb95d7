-- One fact for both framings. Document 02, wish 1: "the same decoded request, with a reply buffer long enough for its framing, has the same
-- effect"; wish 7: "Wish 1's one fact is owed on the serial" port, since the radio carries no ASCII. Assumes nothing.
use Rattle.std.specs.Prelude.{◌≡◌, Bool, List, ℕ, ◌≤◌, length, take}
use Rattle.ports.specs.declared.Port.TheVariants.{Serial}
use Rattle.words.specs.Bytes.{Bytes}
use Rattle.framing.specs.Framing.{carried_in, room_in}
use Rattle.framing.specs.Framing.Carried.{Body}
use Rattle.replies.specs.Reply.{reply_of}
use Rattle.state.specs.declared.Sonde.{Sonde}
use Rattle.service.specs.Frame.{carried, answer_to, Outcome, frame_of}
use Rattle.service.specs.declared.Arrival.{Arrival}

-- the reply that is to be sent
abbrev pub sent_by : Outcome → List ℕ
sent_by o = take o.size o.reply

-- what a frame is answered with are bytes: a promise of `sonde_frame` (sonde/src)
abbrev pub AnswersBytes : Sonde → List ℕ → List ℕ → List ℕ → Arrival → Type 0
AnswersBytes d frame reply w a = (frame_of d frame reply w a).number ≡ 0 → Bytes (answer_to d frame w a).body

-- two frames, the first in framing p and the second in framing q, that did the same
pub record SameEffect (bytes : Type 0) (p q : Bool) (o r : Outcome) : Type 0 where
  pub number : o.number ≡ r.number
  pub sonde : o.sonde ≡ r.sonde
  pub volume : o.volume ≡ r.volume
  -- their replies are one body in the framing of each, or both are none
  pub body : List ℕ
  pub first : sent_by o ≡ reply_of p body
  pub second : sent_by r ≡ reply_of q body
  -- and, being bytes, each carries that body
  pub carries : bytes → (length body ≡ 0 → ⊥) → (carried_in Serial p (sent_by o) ≡ Body body) × (carried_in Serial q (sent_by r) ≡ Body body)

-- both frames came by the serial port, what they carry is the same, they came at the same time, and each reply has the room of its framing
abbrev pub OneEffect : Type 0
OneEffect =
    (d : Sonde) (w frame frame' reply reply' : List ℕ) (a b : Arrival) → a.port ≡ 1 → b.port ≡ 1 → carried frame a ≡ carried frame' b → a.clock ≡ b.clock
    → room_in a.ascii ≤ length reply → room_in b.ascii ≤ length reply'
    → SameEffect (AnswersBytes d frame reply w a) a.ascii b.ascii (frame_of d frame reply w a) (frame_of d frame' reply' w b)
