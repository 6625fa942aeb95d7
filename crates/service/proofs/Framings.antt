-- The same decoded request has the same effect in both framings. Assumes nothing.
use mathlib.Core.Path.{◌≡◌, refl, sym, ◌∙◌}
use mathlib.Core.Bool.{Bool, true, false, cond}
use mathlib.Core.List.{List, []}
use Prim.Native.Nat.{ℕ, ◌+◌, ◌*◌, ◌≤◌}
use native.Mathlib.Omega.{arith}
use lib.Dec.{lit≤}
use lib.ListN.{length}
use borrow.Author.Tests.{le-ltb}
use Rattle.ports.specs.Ports.{port_of, port_by}
use Rattle.ports.specs.declared.Port.TheVariants.{Serial}
use Rattle.refusals.specs.Codes.{byte_of}
use Rattle.words.specs.Bytes.{Bytes}
use Rattle.words.proofs.Stores.{overlay-start}
use Rattle.framing.specs.Framing.{Carried, body_of, room_in}
use Rattle.framing.proofs.RoundTrip.{serial_passes}
use Rattle.modbus.specs.Request.{header_of}
use Rattle.modbus.specs.declared.Header.{Header}
use Rattle.replies.specs.Reply.{reply_of}
use Rattle.replies.proofs.RoundTrip.{SizedTo, Sized, reply_carries}
use Rattle.commands.specs.Commands.{code_of}
use Rattle.plans.specs.declared.Plan.{Plan}
use Rattle.plans.specs.declared.Plan.TheVariants.{Bad, Foreign, BroadcastRead, Refused, Reading, Writing}
use Rattle.plans.proofs.Plans.{FactsOf}
use Rattle.state.specs.declared.Sonde.{Sonde}
use Rattle.service.specs.Agrees.{agrees}
use Rattle.service.specs.Reads.{device_of, device_in, register_at, shown_from, reading_body}
use Rattle.service.specs.Frame.{Answer, write_at, carried_out, planned, plan_for, answer_of, answer_to, Outcome, outcome, refused_by, left, frame_of, carried, port_in, arrival_number, plan_to}
use Rattle.service.specs.Framings.{SameEffect, OneEffect}
use Rattle.service.specs.declared.Arrival.{Arrival}
use Rattle.service.proofs.Bodies.{none_sized, refusal_sized, write_sized, read_sized}
use Rattle.service.proofs.Parts.{frame_facts}
use Rattle.service.proofs.Registers.{shown_length}

-- ---- the body of an answer

-- where a read names m registers at most and a body may have n bytes
pub planned_sized : (n m : ℕ) → 11 ≤ n → 3 + 2 * m ≤ n → (d : Sonde) (h : Header) (body w : List ℕ) (a : Arrival) (p : Plan) → FactsOf m body p
    → SizedTo n (planned d h body w a p).body
unfolding carried_out reading_body
planned_sized n m k l d h body w a Bad f = none_sized n
planned_sized n m k l d h body w a Foreign f = none_sized n
planned_sized n m k l d h body w a BroadcastRead f = none_sized n
planned_sized n m k l d h body w a (Refused code) f = refusal_sized n (omega arith) h body (byte_of code)
planned_sized n m k l d h body w a (Reading start count) f =
    let r = register_at d (device_in d w a) in
    read_sized n d.address m (shown_from r start count) (rw (shown_length r start count) f.most) l
planned_sized n m k l d h body w a (Writing s x v) f = write_sized n (omega arith) h body (code_of (write_at d w a s x v)) (omega (arith, f.short)) f.long

-- an answer's body is none, or fits a frame of either framing
pub answer_sized : (d : Sonde) (frame w : List ℕ) (a : Arrival) → Sized (answer_to d frame w a).body
unfolding answer_of
answer_sized d frame w a =
    let c = carried frame a in
    planned_sized 254 125 (lit≤ tt) (lit≤ tt) d (header_of (body_of c)) (body_of c) w a (plan_to d.address frame a) (frame_facts d.address (port_in a) c)

-- ---- the answer doesn't ask for the framing

planned_same : (d : Sonde) (h : Header) (body w : List ℕ) (a b : Arrival) (p : Plan) → a.clock ≡ b.clock → planned d h body w a p ≡ planned d h body w b p
unfolding reading_body device_of
planned_same d h body w a b Bad e = refl
planned_same d h body w a b Foreign e = refl
planned_same d h body w a b BroadcastRead e = refl
planned_same d h body w a b (Refused code) e = refl
planned_same d h body w a b (Reading start count) e = rw e
planned_same d h body w a b (Writing s f v) e = rw e

answer_same : (d : Sonde) (c c' : Carried) (w : List ℕ) (a b : Arrival) → c ≡ c' → a.clock ≡ b.clock → port_in a ≡ port_in b → answer_of d c w a ≡ answer_of d c' w b
unfolding answer_of
answer_same d c c' w a b e f g = rw (e, g) (planned_same d (header_of (body_of c')) (body_of c') w a b (plan_for d.address (port_in b) c') f)

-- ---- the fact

-- what is left of one answer in two framings
same_left : (bytes : Type 0) (x : Answer) (p q : Bool) (reply reply' : List ℕ) → Sized x.body → (bytes → Bytes x.body)
    → SameEffect bytes p q (left x p reply) (left x q reply')
unfolding left
same_left bytes x p q reply reply' s h =
    let first = overlay-start reply (reply_of p x.body) (length (reply_of p x.body)) refl in
    let second = overlay-start reply' (reply_of q x.body) (length (reply_of q x.body)) refl in
    record {
      number = refl;
      sonde = refl;
      volume = refl;
      body = x.body;
      first = first;
      second = second;
      carries = λ g n. rw (first, second) (
        reply_carries Serial p x.body (h g) s (serial_passes p x.body s.most) n,
        reply_carries Serial q x.body (h g) s (serial_passes q x.body s.most) n,
      );
    }

pub number_zero : (x : Answer) (p : Bool) (reply : List ℕ) → (left x p reply).number ≡ 0
unfolding left
number_zero x p reply = refl

-- what is left of a refusal
same_refused : (bytes : Type 0) (d : Sonde) (w : List ℕ) (p q : Bool) (reply reply' : List ℕ) (n : ℕ)
    → SameEffect bytes p q (outcome (refused_by n d) reply w) (outcome (refused_by n d) reply' w)
unfolding reply_of
same_refused bytes d w p q reply reply' n =
    record { number = refl; sonde = refl; volume = refl; body = []; first = refl; second = refl; carries = λ g z. absurd (z refl) }

-- a frame that came by the serial port is judged by it, and isn't refused where the reply has its room
serial_by : (a : Arrival) → a.port ≡ 1 → port_in a ≡ Serial
unfolding port_by port_of
serial_by a p = rw p

serial_taken : (a : Arrival) (reply : List ℕ) → a.port ≡ 1 → room_in a.ascii ≤ length reply → arrival_number a (length reply) ≡ 0
unfolding arrival_number port_of
serial_taken a reply p l = rw (p, le-ltb (length reply) (room_in a.ascii) l)

pub one_effect : OneEffect
unfolding frame_of
one_effect d w frame frame' reply reply' a b pa pb e f l m = rw (serial_taken a reply pa l, serial_taken b reply' pb m) (go (agrees d w))
  where
    x : Answer
    x = answer_to d frame w a

    first : Bool → Outcome
    first fit = cond fit (left x a.ascii reply) (outcome (refused_by 4 d) reply w)

    go : (fit : Bool)
        → SameEffect ((first fit).number ≡ 0 → Bytes x.body) a.ascii b.ascii (first fit)
        (cond fit (left (answer_to d frame' w b) b.ascii reply') (outcome (refused_by 4 d) reply' w))
    go true =
        rw (← (answer_same d (carried frame a) (carried frame' b) w a b e f (serial_by a pa ∙ sym (serial_by b pb))))
        (same_left _ x a.ascii b.ascii reply reply' (answer_sized d frame w a) (λ g. g (number_zero x a.ascii reply)))
    go false = same_refused _ d w a.ascii b.ascii reply reply' 4
