-- What a frame does: number, sonde, reply and volume as one function of what goes in. Document 01, "Frames", in its order: numbers 9 (document 02, wish
-- 7), 3 and 4; bad; another's; a read at address 0; codes 1, 3, 2, 0x80 and 0xC2, which the plan has; then the field's write. Document 02, wish 1: a
-- frame has one of two framings, and what it carries is all that is judged; wish 7: by the limits of its port. Assumes nothing.
use Rattle.std.specs.Prelude.{Bool, ◌&&◌, not, cond, List, [], Option, Some, None, ℕ, eqb, ltb, length}
use Rattle.refusals.specs.Codes.{byte_of, byte_if}
use Rattle.refusals.specs.declared.codes.Code.{Code}
use Rattle.ports.specs.Ports.{port_of, port_by}
use Rattle.ports.specs.declared.Port.{Port}
use Rattle.words.specs.Mask.{masked_of}
use Rattle.words.specs.Overlay.{overlay}
use Rattle.framing.specs.Framing.{Carried, carried_in, body_of, room_in}
use Rattle.framing.specs.Framing.Carried.{Bad as BadFrame, Body}
use Rattle.modbus.specs.Request.{header_of}
use Rattle.modbus.specs.declared.Header.{Header}
use Rattle.modbus.specs.declared.Value.{Value}
use Rattle.modbus.specs.declared.Value.TheVariants.{Words, Mask}
use Rattle.replies.specs.Reply.{written_body, exception_body, reply_of}
use Rattle.entries.specs.declared.Entry.{Entry}
use Rattle.fields.specs.declared.Field.{Field}
use Rattle.journal.specs.Stores.{appends_of}
use Rattle.sensors.specs.declared.Sensor.{Sensor}
use Rattle.registers.specs.Registers.{sensor_register, register_of}
use Rattle.registers.specs.declared.Device.{Device}
use Rattle.commands.specs.Commands.{context_of, code_of, setup_after, technician_after, entries_of}
use Rattle.commands.specs.declared.Written.{Written}
use Rattle.writes.specs.Writes.{write_to}
use Rattle.plans.specs.Plans.{plan_of}
use Rattle.plans.specs.declared.Plan.{Plan}
use Rattle.plans.specs.declared.Plan.TheVariants.{Bad, Foreign, BroadcastRead, Refused, Reading, Writing}
use Rattle.state.specs.Sonde.{sensor_at, setup_at, with_setup, with_technician, counted_by}
use Rattle.state.specs.declared.Event.{Event}
use Rattle.state.specs.declared.Event.TheVariants.{Uncounted, Bad as CountedBad, Good, Exception}
use Rattle.state.specs.declared.Sonde.{Sonde}
use Rattle.service.specs.Agrees.{agrees}
use Rattle.service.specs.Reads.{device_in, reading_body}
use Rattle.service.specs.declared.Arrival.{Arrival}
use Rattle.service.specs.declared.SondeFrame.{SondeFrame}

-- ---- how a frame came

abbrev pub arrival : ℕ → Bool → ℕ → Arrival
arrival clock ascii port = record { clock = clock; ascii = ascii; port = port }

-- the port that it is judged by
abbrev pub port_in : Arrival → Port
port_in a = port_by a.port

-- what a frame carries, by its framing and its port
abbrev pub carried : List ℕ → Arrival → Carried
carried frame a = carried_in (port_in a) a.ascii frame

-- the number that refuses a frame for how it came or for its reply buffer's length, before any look at the frame, the sonde or the volume; 0 for none.
-- Document 02, wish 7: "9, a port other than 1 or 2, tried before number 3"; then 3, by the room that the framing's replies need
abbrev pub room_number : Arrival → ℕ → Option Port → ℕ
room_number a room None = 9
room_number a room (Some port) = cond (ltb room (room_in a.ascii)) 3 0

unfoldable pub arrival_number : Arrival → ℕ → ℕ
arrival_number a room = room_number a room (port_of a.port)

-- ---- what a frame asks for

-- a bad frame "counts bad"; of any other its body is judged, in whichever framing it came, by what its port carries
abbrev pub plan_for : ℕ → Port → Carried → Plan
plan_for own port BadFrame = Bad
plan_for own port (Body body) = plan_of own port (header_of body) body

-- what a frame asks of the sonde with this address
abbrev pub plan_to : ℕ → List ℕ → Arrival → Plan
plan_to own frame a = plan_for own (port_in a) (carried frame a)

-- the words that a write gives its field: "mask: (old and A) or (B and not A), then as 6"; old is what a read shows
abbrev pub first_word : ℕ → Value → ℕ
first_word old (Words word1 word2) = word1
first_word old (Mask and_mask or_mask) = masked_of old and_mask or_mask

abbrev pub second_word : Value → ℕ
second_word (Words word1 word2) = word2
second_word (Mask and_mask or_mask) = 0

-- ---- what a frame is answered with

-- how it counts, the body of its reply, none for no reply, and the sonde and the volume that it leaves
pub record Answer : Type 0 where
  pub event : Event
  pub body : List ℕ
  pub sonde : Sonde
  pub volume : List ℕ

abbrev pub answer : Event → List ℕ → Sonde → List ℕ → Answer
answer event body d w = record { event = event; body = body; sonde = d; volume = w }

-- "Address 0 never gets a reply"
unfoldable pub sent : Header → List ℕ → List ℕ
sent h body = cond (eqb h.address 0) [] body

-- the reply to what is refused by a code's byte, if one is sent
abbrev pub refusal_body : Header → ℕ → List ℕ
refusal_body h code = sent h (exception_body h.address h.function code)

-- the answer to a write by its code, if one refuses it: "Others count good, and a refused one also as exception"
abbrev pub event_of : Option Code → Event
event_of None = Good
event_of (Some code) = Exception

unfoldable pub write_body : Header → List ℕ → Option Code → List ℕ
write_body h body None = sent h (written_body h.function body)
write_body h body (Some code) = refusal_body h (byte_of code)

-- ---- writes

-- the field's own write, by its owner's values: the device's, e, or a sensor's, x
unfoldable pub written_by : ℕ → Device → Sensor → Field → Value → Written
written_by o e x f v = write_to o x.setup f (first_word (register_of o e x f.offset) v) (second_word v) (context_of e)

abbrev pub write_at : Sonde → List ℕ → Arrival → ℕ → Field → Value → Written
write_at d w a o f v = written_by o (device_in d w a) (sensor_at d o) f v

-- "writes 0xE001 to a command register" ("5 command") of a sensor, by functions 6 and 16 or by a mask
unfoldable pub is_update : ℕ → Sensor → Field → Value → Bool
is_update o x f v = not (eqb o 0) && (eqb f.offset 5 && eqb (first_word (sensor_register o x f.offset) v) 0xE001)

-- what is stored is the owner's, the sensor's setup or the technician's number; what a refusal leaves too (`setup_after`). A write of the device, owner
-- 0, leaves all setups: `setup_at` and `with_setup` take 0 for the first sensor, which is put back as it was
unfoldable pub sonde_after : Sonde → ℕ → Written → Sonde
sonde_after d o x = with_technician (with_setup d o (setup_after (setup_at d o) x)) (technician_after d.technician x)

-- an update also appends its entry, by all of its 27 stores
unfoldable pub carried_out : Sonde → Header → List ℕ → List ℕ → ℕ → Written → Answer
carried_out d h body w o x = answer (event_of (code_of x)) (write_body h body (code_of x)) (sonde_after d o x) (appends_of 27 w (entries_of x))

-- ---- the frame

-- "another's address counts nothing"; a read at address 0 "counts good and nothing else happens"
abbrev pub planned : Sonde → Header → List ℕ → List ℕ → Arrival → Plan → Answer
planned d h body w a Bad = answer CountedBad [] d w
planned d h body w a Foreign = answer Uncounted [] d w
planned d h body w a BroadcastRead = answer Good [] d w
planned d h body w a (Refused code) = answer Exception (refusal_body h (byte_of code)) d w
planned d h body w a (Reading start count) = answer Good (reading_body d w a start count) d w
planned d h body w a (Writing o f v) = carried_out d h body w o (write_at d w a o f v)

-- the byte of the code that refuses what a frame asks; 0 for none
abbrev pub code_by : Sonde → List ℕ → Arrival → Plan → ℕ
code_by d w a Bad = 0
code_by d w a Foreign = 0
code_by d w a BroadcastRead = 0
code_by d w a (Refused code) = byte_of code
code_by d w a (Reading start count) = 0
code_by d w a (Writing o f v) = byte_if (code_of (write_at d w a o f v))

-- the entries that what a frame asks for appends: one by an update that is accepted, else none
abbrev pub entries_by : Sonde → List ℕ → Arrival → Plan → List Entry
entries_by d w a Bad = []
entries_by d w a Foreign = []
entries_by d w a BroadcastRead = []
entries_by d w a (Refused code) = []
entries_by d w a (Reading start count) = []
entries_by d w a (Writing o f v) = entries_of (write_at d w a o f v)

-- by what a frame carries
unfoldable pub answer_of : Sonde → Carried → List ℕ → Arrival → Answer
answer_of d c w a = planned d (header_of (body_of c)) (body_of c) w a (plan_for d.address (port_in a) c)

abbrev pub answer_to : Sonde → List ℕ → List ℕ → Arrival → Answer
answer_to d frame w a = answer_of d (carried frame a) w a

-- ---- what is left after the call

-- all that a frame call leaves: what it hands back, and the two slices that were lent to it
pub record Outcome : Type 0 where
  pub number : ℕ
  pub size : ℕ
  pub sonde : Sonde
  pub reply : List ℕ
  pub volume : List ℕ

abbrev pub outcome : SondeFrame → List ℕ → List ℕ → Outcome
outcome r reply volume = record { number = r.number; size = r.length; sonde = r.sonde; reply = reply; volume = volume }

-- demand 1: "A number changes nothing"; length 0
abbrev pub refused_by : ℕ → Sonde → SondeFrame
refused_by number d = record { number = number; length = 0; sonde = d }

-- "a frame refused by code also gives 0, and each frame gives its reply's length, 0 for none"; "Reply bytes past the reply's length stay"; "The
-- reply goes out in the same framing"
unfoldable pub left : Answer → Bool → List ℕ → Outcome
left x ascii reply =
    record {
      number = 0;
      size = length (reply_of ascii x.body);
      sonde = counted_by x.event x.sonde;
      reply = overlay (reply_of ascii x.body) reply;
      volume = x.volume;
    }

-- numbers 9 and 3; then number 4
unfoldable pub frame_of : Sonde → List ℕ → List ℕ → List ℕ → Arrival → Outcome
frame_of d frame reply w a =
    cond (eqb (arrival_number a (length reply)) 0)
    (cond (agrees d w) (left (answer_to d frame w a) a.ascii reply) (outcome (refused_by 4 d) reply w))
    (outcome (refused_by (arrival_number a (length reply)) d) reply w)

-- ---- a cut

-- document 02, wish 6: the volume after a frame that was cut behind the first n stores of its append; sonde and reply are lost. A frame that appends
-- nothing leaves the volume, and so does one that a number refuses
unfoldable pub cut_of : Sonde → List ℕ → List ℕ → List ℕ → Arrival → ℕ → List ℕ
cut_of d frame reply w a n =
    cond (eqb (frame_of d frame reply w a).number 0) (appends_of n w (entries_by d w a (plan_to d.address frame a))) w
