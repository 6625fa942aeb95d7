-- What the frame call leaves, put together from what it was served with: the counters, the technician's number, and the sensor that the
-- frame names. Assumes nothing.
use mathlib.Core.Path.{◌≡◌, refl, sym, ap, subst, ◌∙◌}
use mathlib.Core.Bool.{Bool, true, false, cond}
use mathlib.Core.List.{List}
use Prim.Native.Nat.{ℕ, ◌-◌}
use native.Mathlib.Omega.{arith}
use lib.Dec.{ltb, eqb}
use lib.ListN.{length, set}
use Rattle.std.specs.Prelude.{Option, Some, None, Result, Ok, Err}
use Rattle.ports.specs.Ports.{port_of, port_by}
use Rattle.ports.specs.declared.Port.{Port}
use Rattle.refusals.specs.Numbers.{number_of}
use Rattle.refusals.specs.declared.numbers.Refusal.{Refusal}
use Rattle.refusals.specs.declared.numbers.Refusal.TheVariants.{InvalidAddress, ShortVolume, ShortReply, Disagreement, NoSensor, RawNotFinite, ShortPage, BeyondSalvage, NoPort}
use Rattle.words.specs.Overlay.{overlay}
use Rattle.words.specs.Bytes.{Bytes}
use Rattle.framing.specs.Framing.{Carried, carried_in, body_of, room_in}
use Rattle.framing.specs.Steps.{decoded_in}
use Rattle.framing.proofs.Carried.{decoded_body}
use Rattle.modbus.specs.Request.{header_of}
use Rattle.sensors.specs.Changes.{sensor_with_setup}
use Rattle.sensors.specs.declared.Setup.{Setup}
use Rattle.sensors.specs.declared.Sensor.{Sensor}
use Rattle.state.specs.Sonde.{sonde, counted, counted_by, sensor_at, with_sensor, with_setup, with_technician}
use Rattle.state.specs.declared.Counters.{Counters}
use Rattle.state.specs.declared.Sonde.{Sonde}
use Rattle.service.specs.Agrees.{agrees}
use Rattle.service.specs.Reads.{device_in}
use Rattle.replies.specs.Reply.{reply_of}
use Rattle.service.specs.Frame.{Answer, port_in, carried, arrival_number, plan_for, answer_of, answer_to, Outcome, outcome, refused_by, left, frame_of}
use Rattle.service.specs.Framings.{AnswersBytes}
use Rattle.service.specs.declared.Arrival.{Arrival}
use Rattle.service.proofs.Parts.{frame_facts}
use Rattle.execution.specs.Steps.{Step}
use Rattle.admission.specs.Steps.{admitted, owner_of}
use Rattle.frames.specs.Steps.{step_for, served_of, changed}
use Rattle.frames.specs.declared.Served.{Served}
use Rattle.frames.proofs.Steps.{steps_left}

-- the body that the code hands on is the one that the frame carries
pub handed_on : (port : Port) (ascii : Bool) (frame body decoded : List ℕ) → body ≡ cond ascii decoded (body_of (carried_in port false frame))
    → decoded ≡ decoded_in port ascii frame → body ≡ body_of (carried_in port ascii frame)
handed_on port ascii frame body decoded e f = e ∙ ap (λ (l : List ℕ). cond ascii l (body_of (carried_in port false frame))) f ∙ decoded_body port ascii frame

-- a port that was asked for is the one that a frame is judged by
port_is : (n : ℕ) (port : Port) → port_of n ≡ Some port → port_by n ≡ port
unfolding port_by
port_is n port e = rw e

-- both by whether the reply is too short
abbrev admitted_in : Bool → Bool → Option Port → Result Port Refusal
admitted_in fit short None = Err NoPort
admitted_in fit short (Some port) = cond short (Err ShortReply) (cond fit (Ok port) (Err Disagreement))

abbrev numbered_in : Bool → Option Port → ℕ
numbered_in short None = 9
numbered_in short (Some port) = cond short 3 0

-- a frame that a number refuses
pub refused_left : (d : Sonde) (frame reply w : List ℕ) (a : Arrival) (r : Refusal) → admitted a.port a.ascii (length reply) (agrees d w) ≡ Err r
    → outcome (refused_by (number_of r) d) reply w ≡ frame_of d frame reply w a
unfolding admitted frame_of arrival_number
refused_left d frame reply w a r e = go (port_of a.port) (ltb (length reply) (room_in a.ascii)) (agrees d w) e
  where
    same : {p q : Refusal} → ◌≡◌ {A = Result Port Refusal} (Err p) (Err q) → p ≡ q
    same e = cc

    -- what is left by the number that an arrival has
    by : Bool → ℕ → Outcome
    by fit n =
        cond (eqb n 0)
        (cond fit (left (answer_to d frame w a) a.ascii reply) (outcome (refused_by 4 d) reply w))
        (outcome (refused_by n d) reply w)

    go : (o : Option Port) (short fit : Bool) → admitted_in fit short o ≡ Err r → outcome (refused_by (number_of r) d) reply w ≡ by fit (numbered_in short o)
    go None short fit e = rw (← same e)
    go (Some port) true fit e = rw (← same e)
    go (Some port) false true e = let z : ◌≡◌ {A = ℕ} 0 1 = cc in absurd (omega arith)
    go (Some port) false false e = rw (← same e)

-- has no answer that could be other than bytes
pub refused_bytes : (d : Sonde) (frame reply w : List ℕ) (a : Arrival) (r : Refusal) → outcome (refused_by (number_of r) d) reply w ≡ frame_of d frame reply w a
    → AnswersBytes d frame reply w a
refused_bytes d frame reply w a r e h = absurd (numbered r (ap (λ (o : Outcome). o.number) e ∙ h))
  where
    numbered : (r : Refusal) → number_of r ≡ 0 → ⊥
    numbered InvalidAddress e = omega arith
    numbered ShortVolume e = omega arith
    numbered ShortReply e = omega arith
    numbered Disagreement e = omega arith
    numbered NoSensor e = omega arith
    numbered RawNotFinite e = omega arith
    numbered ShortPage e = omega arith
    numbered BeyondSalvage e = omega arith
    numbered NoPort e = omega arith

-- one that none does: the reply has its room, sonde and volume agree, no number is due before that, and the port is the one that it is judged by
pub record Passed (a : Arrival) (room : ℕ) (fit : Bool) (port : Port) : Type 0 where
  pub long : ltb room (room_in a.ascii) ≡ false
  pub fits : fit ≡ true
  pub number : arrival_number a room ≡ 0
  pub carrier : port ≡ port_in a

pub passed : (a : Arrival) (room : ℕ) (fit : Bool) (port : Port) → admitted a.port a.ascii room fit ≡ Ok port → Passed a room fit port
unfolding admitted arrival_number
passed a room fit port e = go (port_of a.port) refl (ltb room (room_in a.ascii)) refl fit refl e
  where
    go : (o : Option Port) → port_of a.port ≡ o → (short : Bool) → ltb room (room_in a.ascii) ≡ short → (agreed : Bool) → fit ≡ agreed
        → admitted_in agreed short o ≡ Ok port → Passed a room fit port
    go None p short s agreed f e = let z : ◌≡◌ {A = ℕ} 0 1 = cc in absurd (omega arith)
    go (Some q) p true s agreed f e = let z : ◌≡◌ {A = ℕ} 0 1 = cc in absurd (omega arith)
    go (Some q) p false s false f e = let z : ◌≡◌ {A = ℕ} 0 1 = cc in absurd (omega arith)
    go (Some q) p false s true f e =
        let same : q ≡ port = cc in
        record { long = s; fits = f; number = rw (p, s); carrier = sym (port_is a.port q p ∙ same) }

module _ (d : Sonde) (frame reply w : List ℕ) (a : Arrival) (port : Port) (taken : Passed a (length reply) (agrees d w) port)
    (x : Carried) (carries : x ≡ carried frame a) where
  abbrev owner : ℕ
  owner = owner_of (plan_for d.address (port_in a) x)

  abbrev step : Step
  step = step_for d.address (port_in a) (device_in d w a) (sensor_at d owner) x w

  -- the step is what the definition says
  step_left : outcome (record { number = 0; length = length (reply_of a.ascii step.body); sonde = counted_by step.event (with_technician (changed d owner step.change) step.technician) })
      (overlay (reply_of a.ascii step.body) reply) step.volume ≡ frame_of d frame reply w a
  unfolding step_for frame_of left answer_of
  step_left =
      rw (taken.number, taken.fits, ← carries)
      (ap (λ (y : Answer). left y a.ascii reply)
      (steps_left d (header_of (body_of x)) (body_of x) w a (plan_for d.address (port_in a) x) (frame_facts d.address (port_in a) x)))

  -- and its body is what is answered
  pub step_bytes : (s : Sensor) → s ≡ sensor_at d owner → Bytes (step_for d.address (port_in a) (device_in d w a) s x w).body → AnswersBytes d frame reply w a
  unfolding step_for answer_of
  step_bytes s named b h =
      rw (← carries)
      (subst (λ (y : Answer). Bytes y.body)
      (steps_left d (header_of (body_of x)) (body_of x) w a (plan_for d.address (port_in a) x) (frame_facts d.address (port_in a) x)) (rw named at b))

  module _ (r : Served) (reply' w' : List ℕ) (c : Counters) (s : Sensor) (named : s ≡ sensor_at d owner)
      (served : r ≡ served_of a.ascii (step_for d.address (port_in a) (device_in d w a) s x w))
      (sent : reply' ≡ overlay (reply_of a.ascii (step_for d.address (port_in a) (device_in d w a) s x w).body) reply)
      (words : w' ≡ (step_for d.address (port_in a) (device_in d w a) s x w).volume) (count : c ≡ counted r.event d.counters) where
    -- a frame that changes the counters alone
    pub nothing_left : r.change ≡ None → outcome (record { number = 0; length = r.length; sonde = sonde d.address r.technician d.sensors c }) reply' w' ≡ frame_of d frame reply w a
    unfolding counted_by with_technician
    nothing_left e =
        let v : r ≡ served_of a.ascii step = served ∙ rw named in
        let h : step.change ≡ None = sym (ap (λ (z : Served). z.change) v) ∙ e in
        rw (count, sent, words, named, v) (rw h at step_left)

    -- one that stores a setup
    pub setup-left : (y : Setup) (t : Sensor) (i : ℕ) → r.change ≡ Some y → t ≡ sensor_with_setup s y → i ≡ owner - 1
        → outcome (record { number = 0; length = r.length; sonde = sonde d.address r.technician (set d.sensors i t) c }) reply' w' ≡ frame_of d frame reply w a
    unfolding counted_by with_setup with_sensor with_technician
    setup-left y t i e f g =
        let v : r ≡ served_of a.ascii step = served ∙ rw named in
        let h : step.change ≡ Some y = sym (ap (λ (z : Served). z.change) v) ∙ e in
        rw (count, sent, words, f, g, named, v) (rw h at step_left)
