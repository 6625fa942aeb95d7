-- What a call leaves alone. Demand 1: "A number changes nothing; a code changes only the message counters and writes its exception reply", with
-- the exception of document 02, wish 2, which `refused_leaves` has; document 01: "Reply bytes past the reply's length stay", and "the free words past
-- the entries in use keep what they held". Assumes nothing.
use mathlib.Core.Path.{◌≡◌, refl, ap}
use mathlib.Core.Bool.{Bool, true, false, cond}
use mathlib.Core.List.{List}
use Prim.Native.Nat.{ℕ, zero, suc, ◌-◌}
use native.Mathlib.Omega.{arith}
use lib.Dec.{ltb}
use lib.Ieee.{Float}
use lib.ListN.{length, get_or, drop}
use lib.Seq.{drop-append_seam, set-get_or}
use Rattle.std.specs.Prelude.{Option, Some, None, eqb}
use Rattle.refusals.specs.Codes.{byte_if}
use Rattle.refusals.specs.declared.codes.Code.{Code}
use Rattle.floats.proofs.Bools.{choose}
use Rattle.words.specs.Overlay.{overlay}
use Rattle.framing.specs.Framing.{Carried, body_of}
use Rattle.modbus.specs.Request.{header_of}
use Rattle.modbus.specs.declared.Header.{Header}
use Rattle.modbus.specs.declared.Value.{Value}
use Rattle.entries.specs.declared.Entry.{Entry}
use Rattle.fields.specs.declared.Field.{Field}
use Rattle.journal.specs.Layout.{place}
use Rattle.journal.specs.Stores.{spare_for, append_of, appends_of}
use Rattle.journal.specs.Valid.{valid}
use Rattle.journal.proofs.Stores.{spare_parts, append_all, append_none}
use Rattle.journal.proofs.Facts.{valid_length, valid_last}
use Rattle.journal.proofs.Kept.{append_keeps, append_used, begin_keeps as begin-words}
use Rattle.audit.specs.Audit.{replayed}
use Rattle.std.specs.Prelude.{Result, Ok, Err}
use Rattle.refusals.specs.Numbers.{number_of}
use Rattle.refusals.specs.declared.numbers.Refusal.{Refusal}
use Rattle.journal.specs.declared.Calibrations.{Calibrations}
use Rattle.sensors.specs.Changes.{raws_of, sensor_with_setup}
use Rattle.sensors.specs.declared.Setup.{Setup}
use Rattle.sensors.specs.declared.Sensor.{Sensor}
use Rattle.registers.specs.Registers.{sensor_register}
use Rattle.commands.specs.Commands.{context_of, code_of, setup_after, refused_update}
use Rattle.commands.specs.declared.Context.{Context}
use Rattle.commands.specs.declared.Written.{Written}
use Rattle.writes.proofs.Laws.{Journalled, nothing, entry, journalled}
use Rattle.writes.proofs.Updates.{refused_leaves_holds, refused_journals, refused_technician}
use Rattle.plans.specs.declared.Plan.{Plan}
use Rattle.plans.specs.declared.Plan.TheVariants.{Bad, Foreign, BroadcastRead, Refused, Reading, Writing}
use Rattle.state.specs.Sonde.{address_valid, valid_sonde, sonde, no_sensor, sensor_at, setup_at, with_sensor, with_setup, with_technician}
use Rattle.state.specs.declared.Event.TheVariants.{Exception}
use Rattle.state.specs.declared.Sonde.{Sonde}
use Rattle.service.specs.Agrees.{openings, agrees}
use Rattle.service.specs.Calls.{made, rejected, fresh_of, Begun, begun, begin_of, powered_by, power_up_of, raws_finite, measure_of, audit_of}
use Rattle.replies.specs.Reply.{reply_of}
use Rattle.service.specs.Reads.{device_in}
use Rattle.service.specs.Frame.{first_word, second_word, answer, refusal_body, write_body, write_at, is_update, sonde_after, carried_out, planned, code_by, answer_of, answer_to, Outcome, outcome, refused_by, left, frame_of, event_of, carried, arrival_number, plan_to}
use Rattle.service.specs.Refusals.{refused_leaves}
use Rattle.service.specs.declared.Arrival.{Arrival}
use Rattle.service.specs.declared.SondeMade.{SondeMade}
use Rattle.service.specs.declared.SondeAudit.{SondeAudit}
use Rattle.service.proofs.Parts.{agrees_parts}
use Rattle.service.proofs.Owners.{device_write, sensor_write, sensor_update}

-- ---- a number

-- "A number changes nothing": what each call leaves where its number isn't 0. The volume of a power-up and of an audit is only read
pub record NumberKeeps : Type 0 where
  pub fresh : (address : ℕ) → ((fresh_of address).number ≡ 0 → ⊥) → fresh_of address ≡ rejected (fresh_of address).number
  pub begin : (d : Sonde) (w : List ℕ) → ((begin_of d w).number ≡ 0 → ⊥) → begin_of d w ≡ begun (made (begin_of d w).number d) w
  pub power_up : (address : ℕ) (w : List ℕ) → ((power_up_of address w).number ≡ 0 → ⊥) → power_up_of address w ≡ rejected (power_up_of address w).number
  pub measure : (d : Sonde) (s : ℕ) (present : Bool) (raw1 raw2 : Float) → ((measure_of d s present raw1 raw2).number ≡ 0 → ⊥)
      → measure_of d s present raw1 raw2 ≡ made (measure_of d s present raw1 raw2).number d
  pub frame : (d : Sonde) (frame reply w : List ℕ) (a : Arrival) → ((frame_of d frame reply w a).number ≡ 0 → ⊥)
      → frame_of d frame reply w a ≡ outcome (refused_by (frame_of d frame reply w a).number d) reply w
  pub audit : (d : Sonde) (w : List ℕ) → ((audit_of d w).number ≡ 0 → ⊥) → audit_of d w ≡ record { number = (audit_of d w).number; entries = 0 }

-- a fresh or power-up that a number refuses
abbrev MadeKeeps : SondeMade → Type 0
MadeKeeps r = (r.number ≡ 0 → ⊥) → r ≡ rejected r.number

rejected_keeps : (n : ℕ) → MadeKeeps (rejected n)
unfolding rejected
rejected_keeps n h = refl

fresh_number : (address : ℕ) → MadeKeeps (fresh_of address)
unfolding fresh_of
fresh_number address = choose MadeKeeps (address_valid address) _ _ (λ e h. absurd (h refl)) (λ e. rejected_keeps 1)

power_up_number : (address : ℕ) (w : List ℕ) → MadeKeeps (power_up_of address w)
unfolding power_up_of
power_up_number address w = choose MadeKeeps (address_valid address) _ _ (λ e. of (replayed w)) (λ e. rejected_keeps 1)
  where
    of : (r : Result Calibrations Refusal) → MadeKeeps (powered_by address r)
    of (Err refusal) h = rejected_keeps (number_of refusal) h
    of (Ok o) h = absurd (h refl)

begin_number : (d : Sonde) (w : List ℕ) → ((begin_of d w).number ≡ 0 → ⊥) → begin_of d w ≡ begun (made (begin_of d w).number d) w
unfolding begin_of
begin_number d w = choose P (ltb (length w) 88) _ _ (λ e h. refl) (λ e. choose P (valid_sonde d) _ _ (λ f h. absurd (h refl)) (λ f h. refl))
  where
    P : Begun → Type 0
    P r = (r.number ≡ 0 → ⊥) → r ≡ begun (made r.number d) w

measure_number : (d : Sonde) (s : ℕ) (present : Bool) (raw1 raw2 : Float) → ((measure_of d s present raw1 raw2).number ≡ 0 → ⊥)
    → measure_of d s present raw1 raw2 ≡ made (measure_of d s present raw1 raw2).number d
unfolding measure_of
measure_number d s present raw1 raw2 =
    choose P (valid_sonde d) _ _
    (λ e. choose P (ltb s 1) _ _ (λ f h. refl)
    (λ f. choose P (ltb 4 s) _ _ (λ g h. refl)
    (λ g. choose P (raws_finite s (raws_of present raw1 raw2)) _ _ (λ i h. absurd (h refl)) (λ i h. refl))))
    (λ e h. refl)
  where
    P : SondeMade → Type 0
    P r = (r.number ≡ 0 → ⊥) → r ≡ made r.number d

frame_number : (d : Sonde) (frame reply w : List ℕ) (a : Arrival) → ((frame_of d frame reply w a).number ≡ 0 → ⊥)
    → frame_of d frame reply w a ≡ outcome (refused_by (frame_of d frame reply w a).number d) reply w
unfolding frame_of left
frame_number d frame reply w a =
    choose P (eqb (arrival_number a (length reply)) 0) _ _ (λ e. choose P (agrees d w) _ _ (λ f h. absurd (h refl)) (λ f h. refl)) (λ e h. refl)
  where
    P : Outcome → Type 0
    P o = (o.number ≡ 0 → ⊥) → o ≡ outcome (refused_by o.number d) reply w

audit_number : (d : Sonde) (w : List ℕ) → ((audit_of d w).number ≡ 0 → ⊥) → audit_of d w ≡ record { number = (audit_of d w).number; entries = 0 }
unfolding audit_of
audit_number d w = choose P (agrees d w) _ _ (λ e h. absurd (h refl)) (λ e h. refl)
  where
    P : SondeAudit → Type 0
    P r = (r.number ≡ 0 → ⊥) → r ≡ record { number = r.number; entries = 0 }

pub number_keeps : NumberKeeps
number_keeps =
    record {
      fresh = fresh_number;
      begin = begin_number;
      power_up = power_up_number;
      measure = measure_number;
      frame = frame_number;
      audit = audit_number;
    }

-- ---- begin

-- a begin hands the sonde back as it was, refused or not
pub begin_sonde : (d : Sonde) (w : List ℕ) → (begin_of d w).sonde ≡ d
unfolding begin_of
begin_sonde d w = choose P (ltb (length w) 88) _ _ (λ e. refl) (λ e. choose P (valid_sonde d) _ _ (λ f. refl) (λ f. refl))
  where
    P : Begun → Type 0
    P r = r.sonde ≡ d

-- it writes words 0..63 only, and none where it is refused
pub begin_keeps : (d : Sonde) (w : List ℕ) → drop 64 (begin_of d w).volume ≡ drop 64 w
unfolding begin_of
begin_keeps d w =
    choose P (ltb (length w) 88) _ _ (λ e. refl) (λ e. choose P (valid_sonde d) _ _ (λ f. begin-words w (openings d)) (λ f. refl))
  where
    P : Begun → Type 0
    P r = drop 64 r.volume ≡ drop 64 w

-- ---- a code

-- a sensor's own setup, put back
pub with_setup_same : (d : Sonde) (s : ℕ) → with_setup d s (setup_at d s) ≡ d
unfolding with_setup with_sensor setup_at sensor_at sensor_with_setup
with_setup_same d s = ap (λ (l : List Sensor). sonde d.address d.technician l d.counters) (set-get_or d.sensors (s - 1) no_sensor)

-- the setup that a refused write leaves
write_leaves : (d : Sonde) (w : List ℕ) (a : Arrival) (o : ℕ) (f : Field) (v : Value) → (code_of (write_at d w a o f v) ≡ None → ⊥)
    → setup_after (setup_at d o) (write_at d w a o f v) ≡ cond (is_update o (sensor_at d o) f v) (refused_update o (setup_at d o)) (setup_at d o)
unfolding setup_at
write_leaves d w a zero f v n = absurd (n (rw (device_write (device_in d w a) (sensor_at d 0) f v) refl))
write_leaves d w a (suc s) f v n =
    let x = sensor_at d (suc s) in
    let q = sensor_write (device_in d w a) x f v (suc s) (omega arith) in
    rw (q, sensor_update x f v (suc s) (omega arith))
    (refused_leaves_holds (suc s) x.setup f (first_word (sensor_register (suc s) x f.offset) v) (second_word v) (context_of (device_in d w a)) (rw q at n))

-- the technician's number stays
number_leaves : (d : Sonde) (o : ℕ) (x : Written) → (code_of x ≡ None → ⊥) → sonde_after d o x ≡ with_setup d o (setup_after (setup_at d o) x)
unfolding sonde_after with_technician with_setup with_sensor
number_leaves d o x n = ap (with_technician (with_setup d o (setup_after (setup_at d o) x))) (refused_technician d.technician x n)

-- a code that refuses is answered and counted as one
refused_event : (code : Option Code) → (code ≡ None → ⊥) → event_of code ≡ Exception
refused_event None n = absurd (n refl)
refused_event (Some code) n = refl

refused_body : (h : Header) (body : List ℕ) (code : Option Code) → (code ≡ None → ⊥) → write_body h body code ≡ refusal_body h (byte_if code)
unfolding write_body
refused_body h body None n = absurd (n refl)
refused_body h body (Some code) n = refl

-- the write of a field that is refused: a sensor's, since the device's never is
write_refused : (d : Sonde) (h : Header) (body w : List ℕ) (a : Arrival) (o : ℕ) (f : Field) (v : Value) → (code_of (write_at d w a o f v) ≡ None → ⊥)
    → carried_out d h body w o (write_at d w a o f v) ≡ answer Exception (refusal_body h (byte_if (code_of (write_at d w a o f v)))) (refused_leaves d (Writing o f v)) w
unfolding carried_out
write_refused d h body w a o f v n =
    rw (
      refused_event (code_of (write_at d w a o f v)) n,
      refused_body h body (code_of (write_at d w a o f v)) n,
      refused_journals (write_at d w a o f v) n,
      number_leaves d o (write_at d w a o f v) n,
      write_leaves d w a o f v n,
    )
    (go (is_update o (sensor_at d o) f v))
  where
    go : (u : Bool) → answer Exception (refusal_body h (byte_if (code_of (write_at d w a o f v)))) (with_setup d o (cond u (refused_update o (setup_at d o)) (setup_at d o))) w
        ≡ answer Exception (refusal_body h (byte_if (code_of (write_at d w a o f v)))) (cond u (with_setup d o (refused_update o (setup_at d o))) d) w
    go true = refl
    go false = rw (with_setup_same d o)

-- what is refused by a code has the refusal's answer, the volume stays, and so does the sonde, but for the trial coefficients of a sensor whose
-- update is refused for its limits alone
pub code_keeps : (d : Sonde) (h : Header) (body w : List ℕ) (a : Arrival) (p : Plan) → (code_by d w a p ≡ 0 → ⊥)
    → planned d h body w a p ≡ answer Exception (refusal_body h (code_by d w a p)) (refused_leaves d p) w
code_keeps d h body w a Bad n = absurd (n refl)
code_keeps d h body w a Foreign n = absurd (n refl)
code_keeps d h body w a BroadcastRead n = absurd (n refl)
code_keeps d h body w a (Refused code) n = refl
code_keeps d h body w a (Reading start count) n = absurd (n refl)
code_keeps d h body w a (Writing s f v) n = write_refused d h body w a s f v (λ e. n (ap byte_if e))

-- ---- a frame

-- the words of a volume after a frame, v, against those before it, w: all stay where nothing is appended, and those past the entries in use
-- stay in any case
record Keeps (w v : List ℕ) : Type 0 where
  pub whole : get_or v 2 0 ≡ get_or w 2 0 → v ≡ w
  pub free : drop (place (get_or v 2 0)) v ≡ drop (place (get_or v 2 0)) w

same : (w : List ℕ) → Keeps w w
same w = record { whole = λ e. refl; free = refl }

module _ (w : List ℕ) (v : valid w ≡ true) (a : Arrival) where
  append_volume : (e : Entry) → Keeps w (append_of w e)
  append_volume e = go (spare_for w e) refl
    where
      go : (b : Bool) → spare_for w e ≡ b → Keeps w (append_of w e)
      go true h =
          let k = (spare_parts w e h).0 in
          let u = append_used w e (omega (arith, valid_length w v)) in
          rw (append_all w e 27 (omega arith) h)
          (record { whole = λ q. absurd (omega (arith, q, u)); free = rw u (append_keeps w e k (valid_last w v e.sensor k)) })
      go false h = rw (append_none w e 27 h) (same w)

  write_volume : {s : ℕ} {x t : Setup} {c : Context} {code : Option Code} {es : List Entry} → Journalled s x t c code es → Keeps w (appends_of 27 w es)
  write_volume (nothing h) = same w
  write_volume (entry e z r i q g f) = append_volume e

  planned_volume : (d : Sonde) (h : Header) (body : List ℕ) (p : Plan) → Keeps w (planned d h body w a p).volume
  unfolding carried_out
  planned_volume d h body Bad = same w
  planned_volume d h body Foreign = same w
  planned_volume d h body BroadcastRead = same w
  planned_volume d h body (Refused code) = same w
  planned_volume d h body (Reading start count) = same w
  planned_volume d h body (Writing zero f x) = rw (device_write (device_in d w a) (sensor_at d 0) f x) (same w)
  planned_volume d h body (Writing (suc s) f x) =
      rw (sensor_write (device_in d w a) (sensor_at d (suc s)) f x (suc s) (omega arith))
      (write_volume (journalled (suc s) (sensor_at d (suc s)).setup f _ _ (context_of (device_in d w a))))

-- what a frame keeps, refused or not
pub record FrameKeeps (reply w : List ℕ) (o : Outcome) : Type 0 where
  -- a frame that appends nothing leaves the volume whole
  pub whole : get_or o.volume 2 0 ≡ get_or w 2 0 → o.volume ≡ w
  -- the free words past the entries in use keep what they held
  pub free : drop (place (get_or o.volume 2 0)) o.volume ≡ drop (place (get_or o.volume 2 0)) w
  -- reply bytes past the reply's length stay
  pub past : drop o.size o.reply ≡ drop o.size reply

pub frame_keeps : (d : Sonde) (frame reply w : List ℕ) (a : Arrival) → FrameKeeps reply w (frame_of d frame reply w a)
unfolding frame_of left answer_of overlay
frame_keeps d frame reply w a =
    choose (FrameKeeps reply w) (eqb (arrival_number a (length reply)) 0) _ _
    (λ e. choose (FrameKeeps reply w) (agrees d w) _ _ answered (λ f. refused 4))
    (λ e. refused (arrival_number a (length reply)))
  where
    refused : (n : ℕ) → FrameKeeps reply w (outcome (refused_by n d) reply w)
    refused n = record { whole = λ e. refl; free = refl; past = refl }

    c : Carried
    c = carried frame a

    answered : agrees d w ≡ true → FrameKeeps reply w (left (answer_to d frame w a) a.ascii reply)
    answered f =
        let v = (agrees_parts d w f).volume_valid in
        let k = planned_volume w v a d (header_of (body_of c)) (body_of c) (plan_to d.address frame a) in
        let bytes = reply_of a.ascii (answer_of d c w a).body in
        record { whole = k.whole; free = k.free; past = drop-append_seam bytes (drop (length bytes) reply) }
