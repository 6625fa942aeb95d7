-- A frame keeps the invariant and gives neither number 4 nor 8, whatever its bytes. Assumes nothing.
use mathlib.Core.Path.{◌≡◌, refl}
use mathlib.Core.Bool.{Bool, true, false, not, ◌&&◌}
use mathlib.Core.List.{List}
use Prim.Native.Nat.{ℕ}
use lib.Dec.{ltb, eqb}
use lib.ListN.{length}
use Rattle.std.specs.Prelude.{Option, Some, None}
use Rattle.floats.proofs.Bools.{choose}
use Rattle.ports.specs.Ports.{port_of}
use Rattle.ports.specs.declared.Port.{Port}
use Rattle.framing.specs.Framing.{Carried, body_of, room_in}
use Rattle.modbus.specs.Request.{header_of}
use Rattle.modbus.specs.declared.Header.{Header}
use Rattle.journal.proofs.Holds.{holds_used}
use Rattle.plans.specs.declared.Plan.{Plan}
use Rattle.plans.specs.declared.Plan.TheVariants.{Bad, Foreign, BroadcastRead, Refused, Reading, Writing}
use Rattle.plans.proofs.Plans.{Facts}
use Rattle.commands.specs.Commands.{context_of}
use Rattle.service.specs.Reads.{device_of, device_in}
use Rattle.service.specs.Frame.{port_in, room_number, arrival_number, planned, answer_of, left, frame_of, carried, plan_to}
use Rattle.service.specs.declared.Arrival.{Arrival}
use Rattle.service.proofs.Parts.{frame_facts}
use Rattle.agreement.specs.Model.{Model, model_planned, model_frame}
use Rattle.agreement.specs.Runs.{State, number_of, after, model_after}
use Rattle.agreement.specs.Runs.Call.{Frame}
use Rattle.agreement.specs.Accepted.{accepted_in, context_after, noted_in, noted}
use Rattle.agreement.proofs.Invariant.{Invariant, agrees_with}
use Rattle.agreement.proofs.Calls.{Keeps}
use Rattle.agreement.proofs.Writes.{Answered, counted_keeps, write_keeps}

-- the number that refuses a frame for how it came is 9 or 3
neither : (a : Arrival) (room : ℕ) → not (eqb (arrival_number a room) 4) && not (eqb (arrival_number a room) 8) ≡ true
unfolding arrival_number
neither a room = go (port_of a.port)
  where
    go : (o : Option Port) → not (eqb (room_number a room o) 4) && not (eqb (room_number a room o) 8) ≡ true
    go None = refl
    go (Some port) = choose (λ (n : ℕ). not (eqb n 4) && not (eqb n 8) ≡ true) (ltb room (room_in a.ascii)) 3 0 (λ e. refl) (λ e. refl)

module _ {x : State} {b : Model} (h : Invariant x b) where
  -- what a frame asks for
  plan_keeps : (a : Arrival) (hd : Header) (body : List ℕ) (p : Plan) → Facts body p
      → Answered b (planned x.sonde hd body x.volume a p) (model_planned b a p) (accepted_in x.sonde (context_of (device_in x.sonde x.volume a)) p)
  plan_keeps a hd body Bad l = counted_keeps h _ _
  plan_keeps a hd body Foreign l = counted_keeps h _ _
  plan_keeps a hd body BroadcastRead l = counted_keeps h _ _
  plan_keeps a hd body (Refused code) l = counted_keeps h _ _
  plan_keeps a hd body (Reading start count) l = counted_keeps h _ _
  plan_keeps a hd body (Writing o f v) l = write_keeps h a hd body o f v l.located

  -- the entries in use are those that were accepted
  context_same : (a : Arrival) → context_after b.journal.entries x a ≡ context_of (device_in x.sonde x.volume a)
  unfolding device_of
  context_same a = rw (holds_used x.volume b.journal h.holds)

  -- any frame of either framing, by any port, with any reply buffer
  pub frame_keeps : (frame reply : List ℕ) (a : Arrival) → Keeps x b (Frame frame reply a)
  unfolding number_of after model_after noted noted_in frame_of answer_of left model_frame
  frame_keeps frame reply a = go (eqb (arrival_number a (length reply)) 0) refl
    where
      c : Carried
      c = carried frame a

      p : Plan
      p = plan_to x.sonde.address frame a

      q : plan_to b.address frame a ≡ p
      q = rw h.matches.address_is

      go : (taken : Bool) → eqb (arrival_number a (length reply)) 0 ≡ taken → Keeps x b (Frame frame reply a)
      go false l = record { never_refused = rw (number_of, l) (neither a (length reply)); invariant = rw l h; entries = rw l }
      go true l =
          let k = plan_keeps a (header_of (body_of c)) (body_of c) p (frame_facts x.sonde.address (port_in a) c) in
          record {
            never_refused = rw (number_of, l, agrees_with h);
            invariant = rw (l, agrees_with h, q) k.invariant;
            entries = rw (l, q, context_same a) k.entries;
          }
