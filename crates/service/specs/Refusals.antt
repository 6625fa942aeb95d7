-- What a refusal by a code leaves. Demand 1: "a code changes only the message counters and writes its exception reply (no reply at address 0)", with
-- the one exception of document 02, wish 2: "an update that is refused for its limits alone puts the candidate in the trial figures". Assumes nothing.
use Rattle.std.specs.Prelude.{◌≡◌, true, false, cond, Ok, List, [], ◌∷◌, ℕ, ◌+◌, ◌*◌, ◌≤◌, length, take, drop}
use Rattle.floats.specs.Floats.{high_word, low_word}
use Rattle.framing.specs.Framing.{body_of}
use Rattle.modbus.specs.Request.{header_of}
use Rattle.modbus.specs.declared.Value.{Value}
use Rattle.replies.specs.Reply.{read_body, reply_of}
use Rattle.coefficients.specs.Coefficients.{all_finite, in_limits}
use Rattle.coefficients.specs.declared.Coefficients.{Coefficients}
use Rattle.methods.specs.Methods.{candidate_of}
use Rattle.journal.specs.Journal.{IsSensor}
use Rattle.journal.specs.Replay.{replay_of}
use Rattle.fields.specs.declared.Field.{Field}
use Rattle.sensors.specs.Changes.{with_trial}
use Rattle.commands.specs.Commands.{method_set, refused_update}
use Rattle.plans.specs.declared.Plan.{Plan}
use Rattle.plans.specs.declared.Plan.TheVariants.{Bad, Foreign, BroadcastRead, Refused, Reading, Writing}
use Rattle.state.specs.Sonde.{sensor_at, setup_at, with_setup}
use Rattle.state.specs.declared.Event.TheVariants.{Exception}
use Rattle.state.specs.declared.Sonde.{Sonde}
use Rattle.service.specs.Agrees.{agrees}
use Rattle.service.specs.Frame.{carried, arrival_number, plan_to, answer, refusal_body, is_update, code_by, Outcome, left, frame_of}
use Rattle.service.specs.Framings.{sent_by}
use Rattle.service.specs.declared.Arrival.{Arrival}

-- the sonde that a refusal of what a frame asks for leaves, the counters aside: it stays, but for what a refused update leaves of its sensor
abbrev pub refused_leaves : Sonde → Plan → Sonde
refused_leaves d Bad = d
refused_leaves d Foreign = d
refused_leaves d BroadcastRead = d
refused_leaves d (Refused code) = d
refused_leaves d (Reading start count) = d
refused_leaves d (Writing o f v) = cond (is_update o (sensor_at d o) f v) (with_setup d o (refused_update o (setup_at d o))) d

-- what the call of a frame that a code refuses leaves, d being the sonde before the exception is counted: number 0, the exception reply (none at
-- address 0), and the volume as it was
abbrev pub refused_with : List ℕ → List ℕ → List ℕ → Arrival → ℕ → Sonde → Outcome
refused_with frame reply w a code d = left (answer Exception (refusal_body (header_of (body_of (carried frame a))) code) d w) a.ascii reply

-- ---- the figures of a failed update

-- "an update that is refused for its limits alone": a frame that writes 0xE001 to the command register of sensor s, in mode, where the candidate by
-- the method that is set is c, finite and outside the limits. The journal's room isn't asked for, nor whether the address is 0
pub record FailedUpdate (d : Sonde) (frame : List ℕ) (a : Arrival) (s : ℕ) (c : Coefficients) : Type 0 where
  pub field : Field
  pub value : Value
  pub asks : plan_to d.address frame a ≡ Writing s field value
  pub is_update_holds : is_update s (sensor_at d s) field value ≡ true
  pub mode_on_holds : (setup_at d s).procedure.calibrating ≡ true
  pub candidate : candidate_of (method_set (setup_at d s)) ≡ Ok c
  pub all_finite_holds : all_finite c ≡ true
  pub outside : in_limits s c ≡ false

-- the words of coefficients, from offset 10 on
abbrev pub coefficient_words : Coefficients → List ℕ
coefficient_words c =
    high_word c.coefficient1 ∷ low_word c.coefficient1
    ∷ high_word c.coefficient2 ∷ low_word c.coefficient2
    ∷ high_word c.coefficient3 ∷ low_word c.coefficient3
    ∷ []

-- what the call of such a frame leaves, o
pub record CandidateShown (d : Sonde) (frame reply w : List ℕ) (a : Arrival) (s : ℕ) (c : Coefficients) (o : Outcome) : Type 0 where
  -- counters and reply of any 0x97, the candidate in the trial figures of sensor s, and nothing else
  pub leaves : o ≡ refused_with frame reply w a 0x97 (with_setup d s (with_trial (setup_at d s) c))
  -- "In force and journal are as before": of each sensor figures in force, last and next calibration,
  pub active : (t : ℕ) → IsSensor t → (setup_at o.sonde t).active ≡ (setup_at d t).active
  -- every word of the volume, and so the entries, and their replay
  pub volume : o.volume ≡ w
  pub replayed : (t : ℕ) → replay_of o.volume t ≡ replay_of w t
  -- the sensor is in mode, and a read of the figures' registers, n of them from offset 10 + i on, is answered with the candidate bit for bit, in
  -- whichever framing, by whichever port and at whichever time
  pub mode_on_holds : (setup_at o.sonde s).procedure.calibrating ≡ true
  pub shown : (frame' reply' : List ℕ) (b : Arrival) (i n : ℕ) → plan_to d.address frame' b ≡ Reading (100 * s + 10 + i) n → i + n ≤ 6
      → arrival_number b (length reply') ≡ 0
      → sent_by (frame_of o.sonde frame' reply' o.volume b) ≡ reply_of b.ascii (read_body d.address (take n (drop i (coefficient_words c))))

-- document 02, wish 2, as one claim: where no number refuses, each failed update shows its candidate
abbrev pub FailedUpdatesShown : Type 0
FailedUpdatesShown =
    (d : Sonde) (frame reply w : List ℕ) (a : Arrival) (s : ℕ) (c : Coefficients) → agrees d w ≡ true → arrival_number a (length reply) ≡ 0
    → FailedUpdate d frame a s c → CandidateShown d frame reply w a s c (frame_of d frame reply w a)

-- and it is the "one exception": any other frame that a code refuses changes the counters and writes its exception reply, and nothing else; "Equal
-- points and results that aren't finite still change nothing"
abbrev pub OtherRefusalsKeep : Type 0
OtherRefusalsKeep =
    (d : Sonde) (frame reply w : List ℕ) (a : Arrival) → agrees d w ≡ true → arrival_number a (length reply) ≡ 0
    → (code_by d w a (plan_to d.address frame a) ≡ 0 → ⊥) → ((s : ℕ) (c : Coefficients) → FailedUpdate d frame a s c → ⊥)
    → frame_of d frame reply w a ≡ refused_with frame reply w a (code_by d w a (plan_to d.address frame a)) d
