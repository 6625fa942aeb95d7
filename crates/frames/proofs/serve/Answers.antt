-- The body that stands in the buffer gets its framing; all else is the step's. Assumes nothing.
use mathlib.Core.Path.{◌≡◌, refl, ap, ◌∙◌}
use mathlib.Core.List.{List}
use Prim.Native.Nat.{ℕ, ◌≤◌}
use native.Mathlib.Omega.{arith}
use lib.ListN.{length, take}
use Rattle.words.specs.Overlay.{overlay}
use Rattle.words.specs.Bytes.{Bytes}
use Rattle.words.proofs.Bytes.{take_bytes}
use Rattle.words.proofs.Stores.{overlay-start}
use Rattle.ports.specs.declared.Port.{Port}
use Rattle.framing.specs.Steps.{carried_by}
use Rattle.framing.proofs.Carried.{body_again}
use Rattle.framing.proofs.Sealed.{room_least}
use Rattle.plans.proofs.Plans.{Facts}
use Rattle.sensors.specs.declared.Sensor.{Sensor}
use Rattle.registers.specs.declared.Device.{Device}
use Rattle.service.specs.Reads.{device_of}
use Rattle.service.specs.Frame.{port_in, plan_for}
use Rattle.service.proofs.Parts.{frame_facts}
use Rattle.modbus.specs.Request.{header_of}
use Rattle.execution.specs.Steps.{Step, effect_of}
use Rattle.admission.specs.Steps.{judged_of}
use Rattle.frames.specs.Steps.{step_of, step_for}
use Rattle.admission.specs.declared.Judged.{Judged}
use Rattle.frames.proofs.Steps.{step_short}
use Rattle.replies.proofs.Sealed.{reply_sealed}
use borrow.Author.Rules.{rules}
use Rattle.frames.proofs.serve.Goals as goal

-- the step by the parts that were judged
step_same : (own : ℕ) (port : Port) (e : Device) (s : Sensor) (body w : List ℕ) (j : Judged) → j ≡ judged_of own port body
    → step_of own e s j.header body w j.plan ≡ step_for own port e s (carried_by body) w
unfolding step_for
step_same own port e s body w j q = rw (q, body_again body)

-- what the body asks for has the facts of its plan
facts : (own : ℕ) (port : Port) (body : List ℕ) → Facts body (plan_for own port (carried_by body))
facts own port body = rw (body_again body) at (frame_facts own port (carried_by body))

-- the reply's body fits a frame
for_short : (own : ℕ) (port : Port) (e : Device) (s : Sensor) (body w : List ℕ) → length body ≤ 254
    → length (step_for own port e s (carried_by body) w).body ≤ 254
unfolding step_for
for_short own port e s body w l = rw (body_again body) (step_short (header_of body) body own e s w (plan_for own port (carried_by body)) (facts own port body) l)

-- bytes over the start of a buffer of bytes
start_bytes : (buffer b : List ℕ) → Bytes (overlay b buffer) → Bytes b
start_bytes buffer b h = rw (overlay-start buffer b (length b) refl) at (take_bytes (length b) (overlay b buffer) h)

pub answer-effect-requires : goal.answer-effect-requires
answer-effect-requires c =
    let a = c.args in
    rw c.requires.2 (omega (arith, c.requires.0, room_least a.arrival.ascii), c.requires.1, facts a.own (port_in a.arrival) a.body.now)

pub seal-requires : goal.seal-requires
seal-requires c =
    let a = c.args in
    let e = c.answer-effect.ensures.value ∙ ap effect_of (step_same a.own (port_in a.arrival) (device_of a.counters a.technician a.volume.now a.arrival) a.sensor.now a.body.now a.volume.now a.judged c.requires.2) in
    (rw e (for_short a.own (port_in a.arrival) (device_of a.counters a.technician a.volume.now a.arrival) a.sensor.now a.body.now a.volume.now c.requires.1), search rules)

pub returns : goal.returns
returns c =
    let a = c.args in
    let p = step_same a.own (port_in a.arrival) (device_of a.counters a.technician a.volume.now a.arrival) a.sensor.now a.body.now a.volume.now a.judged c.requires.2 in
    let y = step_for a.own (port_in a.arrival) (device_of a.counters a.technician a.volume.now a.arrival) a.sensor.now (carried_by a.body.now) a.volume.now in
    let e : c.answer-effect.result ≡ effect_of y = c.answer-effect.ensures.value ∙ ap effect_of p in
    let r : c.answer-effect.new.reply ≡ overlay y.body a.reply.now = c.answer-effect.ensures.reply_after ∙ ap (λ (z : Step). overlay z.body a.reply.now) p in
    let w : c.answer-effect.new.volume ≡ y.volume = c.answer-effect.ensures.volume_after ∙ ap (λ (z : Step). z.volume) p in
    let t : take (length y.body) (overlay y.body a.reply.now) ≡ y.body = overlay-start a.reply.now y.body (length y.body) refl in
    let k : Bytes c.answer-effect.new.reply = record { below = λ i. omega (arith, c.slice_known-3-1.given i) } in
    let b : Bytes y.body = start_bytes a.reply.now y.body (rw r at k) in
    record {
      value = rw (c.seal.ensures.value, r, e, t);
      reply_after = c.seal.ensures.reply_after ∙ rw (r, e, t) (reply_sealed a.arrival.ascii a.reply.now y.body);
      volume_after = w;
      bytes = b;
    }
