-- A cut, the salvage and the power-up after it keep the invariant, and neither is refused: what a cut leaves is salvaged to the journal from before
-- or, where the count is new, to the one from after, as a frame that isn't cut leaves it. Assumes nothing.
use mathlib.Core.Path.{◌≡◌, refl, ap, ◌∙◌}
use mathlib.Core.Bool.{Bool, true, false, cond}
use mathlib.Core.List.{List, [], ◌∷◌}
use Prim.Native.Nat.{ℕ, zero, suc, ◌<◌}
use native.Mathlib.Omega.{arith}
use lib.Dec.{eqb, ltb}
use lib.ListN.{length}
use borrow.Author.Tests.{ltb-true, ltb-false}
use Rattle.std.specs.Prelude.{Option}
use Rattle.refusals.specs.declared.codes.Code.{Code}
use Rattle.framing.specs.Framing.{body_of}
use Rattle.entries.specs.Entries.{valid_entry}
use Rattle.entries.specs.declared.Entry.{Entry}
use Rattle.entries.proofs.Entries.{entry_fits}
use Rattle.journal.specs.Journal.{Journal, IsSensor}
use Rattle.journal.specs.Stores.{appends_of}
use Rattle.journal.proofs.Holds.{Holds}
use Rattle.recovery.specs.Salvage.{Salvaged, gives, salvage_of}
use Rattle.recovery.proofs.Cuts.{salvage-holds, holds_kept}
use Rattle.commands.specs.Commands.{context_of}
use Rattle.commands.specs.declared.Context.{Context}
use Rattle.writes.proofs.Laws.{Journalled, nothing, entry, journalled}
use Rattle.plans.specs.declared.Plan.{Plan}
use Rattle.plans.specs.declared.Plan.TheVariants.{Bad, Foreign, BroadcastRead, Refused, Reading, Writing}
use Rattle.plans.proofs.Plans.{Facts}
use Rattle.sensors.specs.declared.Setup.{Setup}
use Rattle.state.specs.Sonde.{sensor_at, setup_at, address_valid}
use Rattle.service.specs.Reads.{device_in}
use Rattle.service.specs.Frame.{entries_by, frame_of, cut_of, plan_to, carried, port_in}
use Rattle.service.specs.declared.Arrival.{Arrival}
use Rattle.service.proofs.Owners.{device_write, sensor_write}
use Rattle.service.proofs.Parts.{frame_facts}
use Rattle.service.proofs.Cuts.{cut_whole}
use Rattle.agreement.specs.Model.{Model, model_frame, model_cut, model_power_up}
use Rattle.agreement.specs.Runs.{State, state, frame_in, salvage_in, number_of, after, model_after}
use Rattle.agreement.specs.Runs.Call.{Frame, Cut}
use Rattle.agreement.specs.Accepted.{noted}
use Rattle.agreement.proofs.Sondes.{setup_valid, setup_fits}
use Rattle.agreement.proofs.Invariant.{Invariant}
use Rattle.agreement.proofs.Calls.{Keeps, power_up_done, power_up_journal}
use Rattle.agreement.proofs.Writes.{context_same}
use Rattle.agreement.proofs.Frames.{frame_keeps}

-- the entries that a frame appends: none, or a valid one that has room
data Fit (j : Journal) : List Entry → Type 0 where
  none : Fit j []
  one : (e : Entry) → valid_entry e ≡ true → entry_fits e ≡ true → length j.entries < j.capacity → Fit j (e ∷ [])

-- a salvage that leaves a journal
record Leaves (j : Journal) (r : Salvaged) : Type 0 where
  done : r.number ≡ 0
  holds : Holds r.words j

module _ {x : State} {b : Model} (h : Invariant x b) where
  -- what a write journals
  journalled_fit : (a : Arrival) (s : ℕ) → IsSensor s → {y : Setup} {code : Option Code} {es : List Entry}
      → Journalled s (setup_at x.sonde s) y (context_of (device_in x.sonde x.volume a)) code es → Fit b.journal es
  journalled_fit a s k (nothing e) = none
  journalled_fit a s k (entry e c r n u v f) =
      one e (v (setup_valid h.matches s k)) (f (setup_fits h.matches s k))
      (ltb-true (length b.journal.entries) b.journal.capacity (ap (λ (c : Context). c.spare) (context_same h a) ∙ r))

  -- what a frame asks for
  plan_fit : (a : Arrival) (body : List ℕ) (p : Plan) → Facts body p → Fit b.journal (entries_by x.sonde x.volume a p)
  unfolding setup_at
  plan_fit a body Bad l = none
  plan_fit a body Foreign l = none
  plan_fit a body BroadcastRead l = none
  plan_fit a body (Refused code) l = none
  plan_fit a body (Reading start count) l = none
  plan_fit a body (Writing zero f v) l = rw (device_write (device_in x.sonde x.volume a) (sensor_at x.sonde 0) f v) none
  plan_fit a body (Writing (suc s) f v) l =
      rw (sensor_write (device_in x.sonde x.volume a) (sensor_at x.sonde (suc s)) f v (suc s) (omega arith))
      (journalled_fit a (suc s) (omega arith, l.located.owner_most) (journalled (suc s) (setup_at x.sonde (suc s)) f _ _ (context_of (device_in x.sonde x.volume a))))

  -- a volume that holds the book's journal is left
  kept_leaves : Leaves b.journal (salvage_of x.volume)
  kept_leaves = rw (holds_kept x.volume b.journal h.holds) (record { done = refl; holds = h.holds })

  -- and so is one to which an entry was appended in part
  fit_leaves : (n : ℕ) → ltb n 27 ≡ true → {es : List Entry} → Fit b.journal es → Leaves b.journal (salvage_of (appends_of n x.volume es))
  fit_leaves n l none = kept_leaves
  fit_leaves n l (one e v f r) =
      let s = salvage-holds x.volume b.journal e h.holds v r f n in
      record { done = s.0; holds = rw l at s.1 }

  module _ (frame reply : List ℕ) (a : Arrival) (n : ℕ) where
    -- the salvage after a cut that left the count old
    old-leaves : ltb n 27 ≡ true → Leaves b.journal (salvage_in x frame reply a n)
    unfolding cut_of
    old-leaves l = go (eqb (frame_of x.sonde frame reply x.volume a).number 0)
      where
        p : Plan
        p = plan_to x.sonde.address frame a

        go : (d : Bool) → Leaves b.journal (salvage_of (cond d (appends_of n x.volume (entries_by x.sonde x.volume a p)) x.volume))
        go true = fit_leaves n l (plan_fit a (body_of (carried frame a)) p (frame_facts x.sonde.address (port_in a) (carried frame a)))
        go false = kept_leaves

    -- so the sonde that was lost, beside it, would keep the invariant
    old-invariant : ltb n 27 ≡ true → Invariant (state x.sonde (salvage_in x frame reply a n).words) b
    old-invariant l = record { matches = h.matches; holds = (old-leaves l).holds; followed = h.followed }

    -- the salvage after one that left it new: nothing is to be changed of the volume that the frame leaves
    new-salvage : ltb n 27 ≡ false → salvage_in x frame reply a n ≡ gives 0 0 (after x (Frame frame reply a)).volume
    unfolding after
    new-salvage l =
        rw (cut_whole x.sonde frame reply x.volume a n (ltb-false n 27 l))
        (holds_kept (frame_in x frame reply a).volume (model_after b (Frame frame reply a)).journal (frame_keeps h frame reply a).invariant.holds)

    -- any frame, cut anywhere, with any fit address
    pub cut_keeps : (address : ℕ) (v : address_valid address ≡ true) → Keeps x b (Cut frame reply a n address v)
    unfolding number_of after model_after model_cut noted
    cut_keeps address v = go (ltb n 27) refl
      where
        entries-stay : (c : Model) → (model_power_up c address).journal.entries ≡ c.journal.entries
        entries-stay c = ap (λ (j : Journal). j.entries) (power_up_journal c address)

        go : (l : Bool) → ltb n 27 ≡ l → Keeps x b (Cut frame reply a n address v)
        go true l =
            let p = power_up_done (old-invariant l) address v in
            record { never_refused = rw (number_of, (old-leaves l).done, p.0); invariant = rw l p.1; entries = rw l (entries-stay b) }
        go false l =
            let f = frame_keeps h frame reply a in
            let p = power_up_done f.invariant address v in
            record {
              never_refused = rw (number_of, new-salvage l, p.0);
              invariant = rw (l, new-salvage l) p.1;
              entries = rw l (entries-stay (model_frame b frame (length reply) a) ∙ f.entries);
            }
