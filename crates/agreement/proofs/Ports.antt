-- Lists that differ only in the ports of RTU frames leave the same books and the same sonde, counters aside. Assumes nothing.
use mathlib.Core.Path.{◌≡◌, refl, sym, ap, ap₂, subst, ◌∙◌}
use mathlib.Core.Bool.{Bool, true, false, cond}
use mathlib.Core.List.{List, ◌∷◌}
use Prim.Native.Nat.{ℕ}
use lib.Dec.{eqb}
use lib.ListN.{length}
use lib.Ieee.{Float}
use Rattle.entries.specs.declared.Entry.{Entry}
use Rattle.commands.specs.declared.Context.{Context}
use Rattle.recovery.specs.Salvage.{salvage_of}
use Rattle.plans.specs.declared.Plan.{Plan}
use Rattle.plans.specs.declared.Plan.TheVariants.{Bad, Foreign, BroadcastRead, Refused, Reading, Writing}
use Rattle.plans.proofs.Plans.{write_in_plan}
use Rattle.state.specs.Sonde.{sensor_at, setup_at, address_valid}
use Rattle.state.specs.declared.Counters.{Counters}
use Rattle.state.specs.declared.Sonde.{Sonde}
use Rattle.service.specs.Calls.{begin_of, power_up_of}
use Rattle.service.specs.Frame.{plan_to}
use Rattle.service.specs.Ports.{uncounted}
use Rattle.service.specs.declared.Arrival.{Arrival}
use Rattle.service.proofs.Ports.{recounted, recount, SameTask, own_task, apart_task, frame_alike, cut_alike, SameBegun, begin_alike, measure_alike}
use Rattle.agreement.specs.Model.{Model, model_planned, model_frame, model_cut, write_in}
use Rattle.agreement.specs.Runs.{Call, State, state, run, numbers, number_of, after, model_run, model_after}
use Rattle.agreement.specs.Runs.Call.{Frame, Measure, PowerUp, Begin, Cut}
use Rattle.agreement.specs.Accepted.{accepted_in, context_after, noted_in, noted, accepted_from}
use Rattle.agreement.specs.Ports.{Apart, ListsApart, PortsAside}
use Rattle.agreement.specs.Ports.Apart.{Same, Frames, Cuts}
use Rattle.agreement.specs.Ports.ListsApart.{End, Next}

-- ---- the sonde and its volume

-- two states that are the same, counters aside
record SameState (x y : State) : Type 0 where
  sonde_is : uncounted x.sonde ≡ uncounted y.sonde
  volume_is : x.volume ≡ y.volume

-- two calls that give the same number and leave such states
record SameCall (x y : State) (c d : Call) : Type 0 where
  number_is : number_of x c ≡ number_of y d
  left_is : SameState (after x c) (after y d)

module _ (d e : Sonde) (w : List ℕ) (u : uncounted d ≡ uncounted e) where
  abbrev x : State
  x = state d w

  abbrev y : State
  y = state e w

  frame_call : (frame reply : List ℕ) (a b : Arrival) → SameTask d.address frame reply a b → SameCall x y (Frame frame reply a) (Frame frame reply b)
  unfolding number_of after
  frame_call frame reply a b t =
      let s = frame_alike d e u frame reply w a b t in
      record { number_is = s.number; left_is = record { sonde_is = s.sonde; volume_is = s.volume } }

  cut_call : (frame reply : List ℕ) (a b : Arrival) (n address : ℕ) (v : address_valid address ≡ true) → SameTask d.address frame reply a b
      → SameCall x y (Cut frame reply a n address v) (Cut frame reply b n address v)
  unfolding number_of after
  cut_call frame reply a b n address v t =
      let c = cut_alike d e u frame reply w a b t n in
      record {
        number_is = ap (λ (z : List ℕ). cond (eqb (salvage_of z).number 0) (power_up_of address (salvage_of z).words).number (salvage_of z).number) c;
        left_is = record {
          sonde_is = ap (λ (z : List ℕ). uncounted (power_up_of address (salvage_of z).words).sonde) c;
          volume_is = ap (λ (z : List ℕ). (salvage_of z).words) c;
        };
      }

  measure_call : (s : ℕ) (present : Bool) (raw1 raw2 : Float) → SameCall x y (Measure s present raw1 raw2) (Measure s present raw1 raw2)
  unfolding number_of after
  measure_call s present raw1 raw2 =
      let m = measure_alike d e u s present raw1 raw2 in
      record { number_is = m.number; left_is = record { sonde_is = m.sonde; volume_is = refl } }

  power_up_call : (address : ℕ) → SameCall x y (PowerUp address) (PowerUp address)
  unfolding number_of after
  power_up_call address =
      record { number_is = refl; left_is = go (eqb (power_up_of address w).number 0) }
    where
      go : (done : Bool) → SameState (cond done (state (power_up_of address w).sonde w) x) (cond done (state (power_up_of address w).sonde w) y)
      go true = record { sonde_is = refl; volume_is = refl }
      go false = record { sonde_is = u; volume_is = refl }

  begin_call : (v : List ℕ) → SameCall x y (Begin v) (Begin v)
  unfolding number_of after
  begin_call v =
      let m = begin_alike d e u v in
      record { number_is = m.number; left_is = rw m.number (go m (eqb (begin_of e v).number 0)) }
    where
      go : SameBegun (begin_of d v) (begin_of e v) → (done : Bool)
          → SameState (cond done (state (begin_of d v).sonde (begin_of d v).volume) x) (cond done (state (begin_of e v).sonde (begin_of e v).volume) y)
      go m true = record { sonde_is = m.sonde; volume_is = m.volume }
      go m false = record { sonde_is = u; volume_is = refl }

  same_call : (c : Call) → SameCall x y c c
  same_call (Frame frame reply a) = frame_call frame reply a a (own_task d.address frame reply a)
  same_call (Measure s present raw1 raw2) = measure_call s present raw1 raw2
  same_call (PowerUp address) = power_up_call address
  same_call (Begin v) = begin_call v
  same_call (Cut frame reply a n address v) = cut_call frame reply a a n address v (own_task d.address frame reply a)

  apart_call : {c c' : Call} → Apart c c' → SameCall x y c c'
  apart_call (Same c) = same_call c
  apart_call (Frames frame reply a b p) = frame_call frame reply a b (apart_task d.address frame reply a b p)
  apart_call (Cuts frame reply a b n address v p) = cut_call frame reply a b n address v (apart_task d.address frame reply a b p)

-- of any two such states
call_alike : (x y : State) → SameState x y → {c d : Call} → Apart c d → SameCall x y c d
call_alike x y s {c} {d} p =
    subst (λ (w : List ℕ). SameCall x (state y.sonde w) c d) s.volume_is (apart_call x.sonde y.sonde x.volume s.sonde_is p)

-- ---- the control book

-- what the book takes of a plan is what the plan writes
planned_left : (b : Model) (a : Arrival) (p : Plan) → model_planned b a p ≡ model_planned b a (write_in_plan p)
planned_left b a Bad = refl
planned_left b a Foreign = refl
planned_left b a BroadcastRead = refl
planned_left b a (Refused code) = refl
planned_left b a (Reading start count) = refl
planned_left b a (Writing o f v) = refl

-- at a time
planned_same : (b : Model) (a a' : Arrival) (p : Plan) → a.clock ≡ a'.clock → model_planned b a p ≡ model_planned b a' p
unfolding write_in
planned_same b a a' Bad e = refl
planned_same b a a' Foreign e = refl
planned_same b a a' BroadcastRead e = refl
planned_same b a a' (Refused code) e = refl
planned_same b a a' (Reading start count) e = refl
planned_same b a a' (Writing o f v) e = rw e

model_same : (b : Model) (frame reply : List ℕ) (a a' : Arrival) → SameTask b.address frame reply a a' → model_frame b frame (length reply) a ≡ model_frame b frame (length reply) a'
unfolding model_frame
model_same b frame reply a a' t =
    let p = plan_to b.address frame a in
    let q = plan_to b.address frame a' in
    let m : model_planned b a p ≡ model_planned b a' q =
    planned_left b a p ∙ ap (model_planned b a) t.plans ∙ planned_same b a a' (write_in_plan q) t.time ∙ sym (planned_left b a' q) in
    rw (t.numbers, m)

model_alike : (b : Model) {c d : Call} → Apart c d → model_after b c ≡ model_after b d
unfolding model_after model_cut
model_alike b (Same c) = refl
model_alike b (Frames frame reply a a' p) = model_same b frame reply a a' (apart_task b.address frame reply a a' p)
model_alike b (Cuts frame reply a a' n address v p) = rw (model_same b frame reply a a' (apart_task b.address frame reply a a' p))

-- ---- accepted calibrations

-- what is accepted of a plan is what the plan writes
accepted_left : (d : Sonde) (c : Context) (p : Plan) → accepted_in d c p ≡ accepted_in d c (write_in_plan p)
accepted_left d c Bad = refl
accepted_left d c Foreign = refl
accepted_left d c BroadcastRead = refl
accepted_left d c (Refused code) = refl
accepted_left d c (Reading start count) = refl
accepted_left d c (Writing o f v) = refl

-- a sonde with other counters
accepted_recounted : (es : List Entry) (d : Sonde) (c : Counters) (w : List ℕ) (a b : Arrival) (p : Plan) → a.clock ≡ b.clock
    → accepted_in d (context_after es (state d w) a) p ≡ accepted_in (recounted d c) (context_after es (state (recounted d c) w) b) p
unfolding sensor_at setup_at
accepted_recounted es d c w a b Bad e = refl
accepted_recounted es d c w a b Foreign e = refl
accepted_recounted es d c w a b BroadcastRead e = refl
accepted_recounted es d c w a b (Refused code) e = refl
accepted_recounted es d c w a b (Reading start count) e = refl
accepted_recounted es d c w a b (Writing o f v) e = rw e

module _ (es : List Entry) (d e : Sonde) (w : List ℕ) (u : uncounted d ≡ uncounted e) where
  -- the same sonde but for its counters
  accepted_same : (a b : Arrival) (p : Plan) → a.clock ≡ b.clock
      → accepted_in d (context_after es (state d w) a) p ≡ accepted_in e (context_after es (state e w) b) p
  accepted_same a b p time =
      subst (λ (z : Sonde). accepted_in d (context_after es (state d w) a) p ≡ accepted_in z (context_after es (state z w) b) p) (sym (recount d e u))
      (accepted_recounted es d e.counters w a b p time)

  address_same : d.address ≡ e.address
  unfolding uncounted
  address_same = ap (λ (z : Sonde). z.address) u

  noted_frame : (frame reply : List ℕ) (a b : Arrival) → SameTask d.address frame reply a b → noted_in es (state d w) frame reply a ≡ noted_in es (state e w) frame reply b
  unfolding noted_in
  noted_frame frame reply a b t =
      let c = context_after es (state d w) a in
      let p = plan_to d.address frame a in
      let q = plan_to d.address frame b in
      let l : accepted_in d c p ≡ accepted_in e (context_after es (state e w) b) (plan_to e.address frame b) =
      accepted_left d c p ∙ ap (accepted_in d c) t.plans ∙ sym (accepted_left d c q) ∙ accepted_same a b q t.time
      ∙ ap (λ (own : ℕ). accepted_in e (context_after es (state e w) b) (plan_to own frame b)) address_same in
      rw (t.numbers, l)

  noted_same : (c : Call) → noted es (state d w) c ≡ noted es (state e w) c
  unfolding noted
  noted_same (Frame frame reply a) = noted_frame frame reply a a (own_task d.address frame reply a)
  noted_same (Measure s present raw1 raw2) = refl
  noted_same (PowerUp address) = refl
  noted_same (Begin v) = rw (begin_alike d e u v).number
  noted_same (Cut frame reply a n address v) = rw (noted_frame frame reply a a (own_task d.address frame reply a))

  noted_apart : {c c' : Call} → Apart c c' → noted es (state d w) c ≡ noted es (state e w) c'
  unfolding noted
  noted_apart (Same c) = noted_same c
  noted_apart (Frames frame reply a b p) = noted_frame frame reply a b (apart_task d.address frame reply a b p)
  noted_apart (Cuts frame reply a b n address v p) = rw (noted_frame frame reply a b (apart_task d.address frame reply a b p))

noted_alike : (es : List Entry) (x y : State) → SameState x y → {c d : Call} → Apart c d → noted es x c ≡ noted es y d
noted_alike es x y s {c} {d} p =
    subst (λ (w : List ℕ). noted es x c ≡ noted es (state y.sonde w) d) s.volume_is (noted_apart es x.sonde y.sonde x.volume s.sonde_is p)

-- ---- lists

same_end : (x y : State) → SameState x y → (b : Model) (es : List Entry) (cs ds : List Call) → ListsApart cs ds
    → (numbers x cs ≡ numbers y ds) × SameState (run x cs) (run y ds) × (model_run b cs ≡ model_run b ds) × (accepted_from es x cs ≡ accepted_from es y ds)
same_end x y s b es _ _ End = (refl, s, refl, refl)
same_end x y s b es _ _ (Next c d cs ds p l) =
    let k = call_alike x y s p in
    let r = same_end (after x c) (after y d) k.left_is (model_after b c) (noted es x c) cs ds l in (
      ap₂ (λ (n : ℕ) (ns : List ℕ). n ∷ ns) k.number_is r.0,
      r.1,
      r.2 ∙ ap (λ (m : Model). model_run m ds) (model_alike b p),
      r.3 ∙ ap (λ (es' : List Entry). accepted_from es' (after y d) ds) (noted_alike es x y s p),
    )

pub ports_aside : PortsAside
ports_aside x b es cs ds l =
    let r = same_end x x (record { sonde_is = refl; volume_is = refl }) b es cs ds l in
    record { given = r.0; sonde = r.1.sonde_is; volume = r.1.volume_is; book = r.2; accepted = r.3 }
