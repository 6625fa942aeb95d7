-- The numbers come first, in their order; then what the frame changes is put into the sonde. Assumes nothing.
use mathlib.Core.Path.{sym, ap, ◌∙◌}
use native.Mathlib.Omega.{arith}
use lib.ListN.{length}
use borrow.Author.Tests.{ltb-false}
use Rattle.framing.specs.Framing.{body_of, room_in}
use Rattle.framing.specs.Steps.{carried_by}
use Rattle.framing.proofs.Carried.{decoded_most, carried_again, carried_most}
use Rattle.state.specs.Sonde.{sensor_at}
use Rattle.service.specs.Agrees.{agrees}
use Rattle.service.specs.Frame.{plan_for, arrival, port_in}
use Rattle.service.proofs.Parts.{frame_facts}
use Rattle.admission.proofs.Owners.{owner_below}
use Rattle.sonde.proofs.Left.{refused_left, refused_bytes, passed, handed_on, step_bytes, nothing_left, setup-left}
use Rattle.sonde.proofs.sonde_frame.Goals as goal

pub returns-in-Err : goal.returns-in-Err
unfolding agrees
returns-in-Err c =
    let a = c.args in
    let e = sym c.admit.ensures ∙ c.in-Err.is in
    let t = rw c.agrees-agreed.ensures at e in
    let k = refused_left a.sonde a.frame.now a.reply.now a.volume.now (arrival a.clock a.ascii a.port) c.in-Err.refusal t in
    rw c.from.ensures
    record {
      as_defined = k;
      answers_bytes = refused_bytes a.sonde a.frame.now a.reply.now a.volume.now (arrival a.clock a.ascii a.port) c.in-Err.refusal k;
    }

pub slice_bounds-decoded-end : goal.slice_bounds-decoded-end
slice_bounds-decoded-end c =
    let a = c.args in
    omega (arith, c.decode-n.ensures.value, decoded_most c.in-Ok.carrier a.ascii a.frame.now)

pub slice_bounds-body-end : goal.slice_bounds-body-end
slice_bounds-body-end c =
    c.decode-n.ensures.value ∙ sym (ap length c.decode-n.ensures.body)

pub sensor_index-i-requires : goal.sensor_index-i-requires
sensor_index-i-requires c =
    let a = c.args in
    let x = carried_by _ in
    rw c.judge-judged.ensures (owner_below (body_of x) (plan_for a.sonde.address c.in-Ok.carrier x) (frame_facts a.sonde.address c.in-Ok.carrier x))

pub serve-served-requires : goal.serve-served-requires
unfolding agrees
serve-served-requires c =
    let a = c.args in
    let t = rw c.agrees-agreed.ensures at (sym c.admit.ensures ∙ c.in-Ok.is) in
    let q = passed (arrival a.clock a.ascii a.port) (length a.reply.now) (agrees a.sonde a.volume.now) c.in-Ok.carrier t in
    let f = handed_on c.in-Ok.carrier a.ascii a.frame.now _ _ c.body-body.ensures c.decode-n.ensures.body in
    (ltb-false (length a.reply.now) (room_in a.ascii) q.long, rw f (carried_most c.in-Ok.carrier a.ascii a.frame.now), rw (← q.carrier) c.judge-judged.ensures)

pub returns-in_default : goal.returns-in_default
unfolding agrees sensor_at
returns-in_default c =
    let a = c.args in
    let t = rw c.agrees-agreed.ensures at (sym c.admit.ensures ∙ c.in-Ok.is) in
    let q = passed (arrival a.clock a.ascii a.port) (length a.reply.now) (agrees a.sonde a.volume.now) c.in-Ok.carrier t in
    let f = rw q.carrier at (handed_on c.in-Ok.carrier a.ascii a.frame.now _ _ c.body-body.ensures c.decode-n.ensures.body) in
    let own = rw (c.judge-judged.ensures, q.carrier) at c.sensor_index-i.ensures.0 in
    let x = ap carried_by f ∙ carried_again (port_in (arrival a.clock a.ascii a.port)) a.ascii a.frame.now in
    record {
      as_defined = nothing_left a.sonde a.frame.now a.reply.now a.volume.now (arrival a.clock a.ascii a.port) c.in-Ok.carrier q
          _ x c.serve-served.result _ _ _ _ (rw own)
          c.serve-served.ensures.value c.serve-served.ensures.reply_after c.serve-served.ensures.volume_after c.count-after.ensures c.in_default.is;
      answers_bytes = step_bytes a.sonde a.frame.now a.reply.now a.volume.now (arrival a.clock a.ascii a.port) c.in-Ok.carrier q
          _ x _ (rw own) c.serve-served.ensures.bytes;
    }

pub returns-in-Some : goal.returns-in-Some
unfolding agrees sensor_at
returns-in-Some c =
    let a = c.args in
    let t = rw c.agrees-agreed.ensures at (sym c.admit.ensures ∙ c.in-Ok.is) in
    let q = passed (arrival a.clock a.ascii a.port) (length a.reply.now) (agrees a.sonde a.volume.now) c.in-Ok.carrier t in
    let f = rw q.carrier at (handed_on c.in-Ok.carrier a.ascii a.frame.now _ _ c.body-body.ensures c.decode-n.ensures.body) in
    let own = rw (c.judge-judged.ensures, q.carrier) at c.sensor_index-i.ensures.0 in
    let x = ap carried_by f ∙ carried_again (port_in (arrival a.clock a.ascii a.port)) a.ascii a.frame.now in
    record {
      as_defined = setup-left a.sonde a.frame.now a.reply.now a.volume.now (arrival a.clock a.ascii a.port) c.in-Ok.carrier q
          _ x c.serve-served.result _ _ _ _ (rw own)
          c.serve-served.ensures.value c.serve-served.ensures.reply_after c.serve-served.ensures.volume_after c.count-after.ensures _ _ _ c.in-Some.is c.with_setup-t.ensures own;
      answers_bytes = step_bytes a.sonde a.frame.now a.reply.now a.volume.now (arrival a.clock a.ascii a.port) c.in-Ok.carrier q
          _ x _ (rw own) c.serve-served.ensures.bytes;
    }
