-- A frame appends by all stores: what it leaves of the volume is what a cut behind the last store, or later, leaves. Assumes nothing.
use mathlib.Core.Path.{◌≡◌, refl, sym, ◌∙◌}
use mathlib.Core.Bool.{Bool, true, false}
use mathlib.Core.List.{List}
use Prim.Native.Nat.{ℕ, ◌≤◌}
use lib.Dec.{eqb}
use lib.ListN.{length}
use Rattle.framing.specs.Framing.{body_of}
use Rattle.modbus.specs.Request.{header_of}
use Rattle.modbus.specs.declared.Header.{Header}
use Rattle.journal.specs.Stores.{appends_of}
use Rattle.journal.proofs.Stores.{appends_more}
use Rattle.plans.specs.declared.Plan.{Plan}
use Rattle.plans.specs.declared.Plan.TheVariants.{Bad, Foreign, BroadcastRead, Refused, Reading, Writing}
use Rattle.state.specs.declared.Sonde.{Sonde}
use Rattle.service.specs.Agrees.{agrees}
use Rattle.service.specs.Frame.{carried_out, planned, entries_by, answer_of, left, frame_of, cut_of, arrival_number, plan_to, carried}
use Rattle.service.specs.declared.Arrival.{Arrival}

-- what is asked for leaves the volume with its entries appended
pub planned_appends : (d : Sonde) (h : Header) (body w : List ℕ) (a : Arrival) (p : Plan) → (planned d h body w a p).volume ≡ appends_of 27 w (entries_by d w a p)
unfolding carried_out
planned_appends d h body w a Bad = refl
planned_appends d h body w a Foreign = refl
planned_appends d h body w a BroadcastRead = refl
planned_appends d h body w a (Refused code) = refl
planned_appends d h body w a (Reading start count) = refl
planned_appends d h body w a (Writing o f v) = refl

-- a frame that isn't cut, or behind its last store
pub cut_whole : (d : Sonde) (frame reply w : List ℕ) (a : Arrival) (n : ℕ) → 27 ≤ n → cut_of d frame reply w a n ≡ (frame_of d frame reply w a).volume
unfolding cut_of frame_of left answer_of
cut_whole d frame reply w a n l = go (eqb (arrival_number a (length reply)) 0) (agrees d w) refl refl
  where
    go : (taken fit : Bool) → eqb (arrival_number a (length reply)) 0 ≡ taken → agrees d w ≡ fit → cut_of d frame reply w a n ≡ (frame_of d frame reply w a).volume
    go false fit p q = rw (p, p)
    go true false p q = rw (p, q)
    go true true p q =
        let y = plan_to d.address frame a in
        rw (p, q) (appends_more n w (entries_by d w a y) l ∙ sym (planned_appends d (header_of (body_of (carried frame a))) (body_of (carried frame a)) w a y))
