-- The write of a field is judged the same on the sonde and on the book, and what comes of it keeps the invariant and adds the entries of
-- accepted calibrations. Assumes nothing.
use mathlib.Core.Path.{◌≡◌, refl, sym, ap, subst, ◌∙◌}
use mathlib.Core.Bool.{Bool, true, false, ◌||◌, cond}
use mathlib.Core.List.{List, [], ◌++◌, append-nil}
use Prim.Native.Nat.{ℕ, zero, suc, ◌≤◌}
use native.Mathlib.Omega.{arith}
use lib.Dec.{eqb, ltb}
use lib.ListN.{length}
use lib.Seq.{set-get_or}
use borrow.Author.Tests.{eqb-true, ltb-true, ltb-false}
use Rattle.std.specs.Prelude.{Option}
use Rattle.refusals.specs.declared.codes.Code.{Code}
use Rattle.modbus.specs.declared.Header.{Header}
use Rattle.modbus.specs.declared.Value.{Value}
use Rattle.floats.proofs.Bools.{no}
use Rattle.coefficients.specs.declared.Calibration.{Calibration}
use Rattle.parameters.specs.Parameters.{parameter_part}
use Rattle.entries.specs.Entries.{replaced_by}
use Rattle.entries.specs.declared.Entry.{Entry}
use Rattle.fields.specs.declared.Field.{Field}
use Rattle.fields.proofs.Computed.{other}
use Rattle.journal.specs.Journal.{Journal, IsSensor, of_sensor, on, latest}
use Rattle.journal.specs.Stores.{appends_of}
use Rattle.journal.proofs.Holds.{Holds, holds_used, append_holds}
use Rattle.journal.proofs.Replay.{latest_snoc}
use Rattle.sensors.specs.Sensors.{fresh_sample}
use Rattle.sensors.specs.declared.Setup.{Setup}
use Rattle.sensors.specs.declared.Sample.{Sample}
use Rattle.sensors.specs.declared.Sensor.{Sensor}
use Rattle.registers.specs.Registers.{parameter_register, sensor_register, device_register}
use Rattle.commands.specs.Commands.{context_of, setup_after, entries_of}
use Rattle.commands.specs.declared.Context.{Context}
use Rattle.writes.specs.Writes.{write_of}
use Rattle.writes.proofs.Laws.{Journalled, nothing, entry, after_valid, after_fits, journalled}
use Rattle.writes.proofs.Owners.{sensor_technician}
use Rattle.writes.proofs.Rows.{settled, written_part}
use Rattle.writes.proofs.Updates.{entries_told}
use Rattle.plans.specs.declared.Plan.TheVariants.{Writing}
use Rattle.plans.proofs.Plans.{Located}
use Rattle.state.specs.Sonde.{no_sensor, sensor_at, setup_at, with_sensor, with_setup, with_technician, counted_by}
use Rattle.state.specs.declared.Event.{Event}
use Rattle.service.specs.Reads.{device_of, device_in}
use Rattle.service.specs.Frame.{first_word, second_word, Answer, answer, write_at, is_update, sonde_after, carried_out}
use Rattle.service.specs.declared.Arrival.{Arrival}
use Rattle.service.proofs.Owners.{device_write, sensor_write, sensor_update}
use Rattle.service.proofs.Kept.{with_setup_same}
use Rattle.agreement.specs.Model.{Model, setup_of, device_for, write_in, extended, kept}
use Rattle.agreement.specs.Runs.{State, state}
use Rattle.agreement.specs.Accepted.{accepted_in}
use Rattle.agreement.proofs.Sondes.{setup_replaced, setup_same, setup_valid, setup_fits, counted, with_technician_holds, with_setup_holds}
use Rattle.agreement.proofs.Invariant.{Invariant}

-- ---- the same write

-- a choice is the same where both of its arms are
same_choice : (b : Bool) (m n m' n' : ℕ) → (b ≡ true → m ≡ m') → (b ≡ false → n ≡ n') → cond b m n ≡ cond b m' n'
same_choice true m n m' n' f g = f refl
same_choice false m n m' n' f g = g refl

-- a register shows no measurement, unless it is a part of a parameter that does
unmeasured : (s : ℕ) (x : Sensor) (y : Sample) (o : ℕ) → (30 ≤ o → settled (parameter_part o) ≡ true)
    → sensor_register s x o ≡ sensor_register s (record { setup = x.setup; sample = y }) o
unfolding sensor_register parameter_register
unmeasured s x y o w =
    same_choice (ltb o 10) _ _ _ _ (λ e. refl)
    (λ e. same_choice (ltb o 16) _ _ _ _ (λ e. refl)
    (λ e. same_choice (ltb o 24) _ _ _ _ (λ e. refl)
    (λ e. same_choice (ltb o 30) _ _ _ _ (λ e. refl)
    (λ l. same_choice (ltb o 54) _ _ _ _
    (λ e. same_choice (eqb part 2) _ _ _ _ (λ e. refl)
    (λ two. same_choice (eqb part 3) _ _ _ _ (λ e. refl)
    (λ three. same_choice (eqb part 5) _ _ _ _ (λ e. refl)
    (λ five. absurd (no (sym five ∙ other (eqb part 3) (eqb part 5) three (other (eqb part 2) (eqb part 3 || eqb part 5) two (w (ltb-false o 30 l)))))))))
    (λ e. refl)))))
  where
    part : ℕ
    part = parameter_part o

module _ {x : State} {b : Model} (h : Invariant x b) where
  -- what an update takes from the device is the same, whose counters aside the book has all values
  pub context_same : (a : Arrival) → context_of (device_for b a) ≡ context_of (device_in x.sonde x.volume a)
  unfolding device_of
  context_same a = rw (holds_used x.volume b.journal h.holds, h.holds.capacity_is, h.matches.technician_is)

  -- the write of the technician's number
  device_same : (a : Arrival) (f : Field) (v : Value) → Located f.words 0 f → write_in b a 0 f v ≡ write_at x.sonde x.volume a 0 f v
  unfolding write_in device_register device_of
  device_same a f v l =
      rw (
        device_write (device_for b a) (record { setup = setup_of b.setups 0; sample = fresh_sample }) f v,
        device_write (device_in x.sonde x.volume a) (sensor_at x.sonde 0) f v,
        l.device refl,
        h.matches.technician_is,
      )

  -- the write of a sensor's field
  sensor_same : (a : Arrival) (s : ℕ) (k : IsSensor s) (f : Field) (v : Value) → Located f.words s f → write_in b a s f v ≡ write_at x.sonde x.volume a s f v
  unfolding write_in
  sensor_same a s k f v l =
      rw (
        sensor_write (device_for b a) (record { setup = setup_of b.setups s; sample = fresh_sample }) f v s k.0,
        sensor_write (device_in x.sonde x.volume a) (sensor_at x.sonde s) f v s k.0,
        unmeasured s (sensor_at x.sonde s) fresh_sample f.offset (written_part l.register f l.field l.writable),
        (h.matches.each s k).setup_is,
        context_same a,
      )

-- ---- what comes of it

-- a journal with no entries more
none_more : (j : Journal) → extended j [] ≡ j
none_more j = rw (append-nil j.entries)

-- what an answer leaves, once it is counted, keeps the invariant, and the book has these entries more
pub record Answered (b : Model) (o : Answer) (c : Model) (es : List Entry) : Type 0 where
  pub invariant : Invariant (state (counted_by o.event o.sonde) o.volume) c
  pub entries : c.journal.entries ≡ b.journal.entries ++ es

module _ {x : State} {b : Model} (h : Invariant x b) where
  -- an answer that leaves the sonde and the volume: the counters don't matter
  pub counted_keeps : (event : Event) (body : List ℕ) → Answered b (answer event body x.sonde x.volume) b []
  counted_keeps event body =
      record { invariant = record { matches = counted h.matches event; holds = h.holds; followed = h.followed }; entries = sym (append-nil _) }

  module _ (s : ℕ) (k : IsSensor s) where
    abbrev old : Setup
    old = setup_at x.sonde s

    -- the calibration of sensor t, where sensor s has the setup y
    abbrev in_force : Setup → ℕ → Calibration
    in_force y t = (cond (eqb t s) y (setup_of b.setups t)).active.calibration

    -- the volume holds the journal with entries more, and this comes to what is in force
    record Recorded (y : Setup) (es : List Entry) : Type 0 where
      holds : Holds (appends_of 27 x.volume es) (extended b.journal es)
      followed : (t : ℕ) → IsSensor t → latest t (of_sensor b.journal.opening t) (b.journal.entries ++ es) ≡ in_force y t

    -- so it is with what a write journals: nothing, or one entry
    recorded : (a : Arrival) {y : Setup} {code : Option Code} {es : List Entry} → Journalled s old y (context_of (device_in x.sonde x.volume a)) code es → Recorded y es
    unfolding on
    recorded a {y} (nothing e) = record { holds = rw append-nil h.holds; followed = λ t l. rw append-nil (h.followed t l ∙ go t (eqb t s) refl) }
      where
        go : (t : ℕ) (p : Bool) → eqb t s ≡ p → (setup_of b.setups t).active.calibration ≡ (cond p y (setup_of b.setups t)).active.calibration
        go t true q = rw (eqb-true t s q, ← (setup_same h.matches s k)) (sym e)
        go t false q = refl
    recorded a {y} (entry e c r n u v f) =
        record {
          holds =
              append_holds x.volume b.journal e h.holds (v (setup_valid h.matches s k))
              (ltb-true (length b.journal.entries) b.journal.capacity (ap (λ (c : Context). c.spare) (context_same h a) ∙ r)) (f (setup_fits h.matches s k));
          followed = λ t l. latest_snoc t (of_sensor b.journal.opening t) b.journal.entries e ∙ rw (ap (eqb t) n) (go t l (eqb t s) refl);
        }
      where
        before : ℕ → Calibration
        before t = latest t (of_sensor b.journal.opening t) b.journal.entries

        go : (t : ℕ) → IsSensor t → (p : Bool) → eqb t s ≡ p
            → cond p (replaced_by (before t) e) (before t) ≡ (cond p y (setup_of b.setups t)).active.calibration
        go t l true q = ap (λ (c : Calibration). replaced_by c e) (h.followed t l ∙ rw (eqb-true t s q, ← (setup_same h.matches s k))) ∙ u
        go t l false q = h.followed t l

  -- the write of the technician's number
  device_keeps : (a : Arrival) (hd : Header) (body : List ℕ) (f : Field) (v : Value) → Located f.words 0 f
      → Answered b (carried_out x.sonde hd body x.volume 0 (write_at x.sonde x.volume a 0 f v)) (kept b 0 (write_in b a 0 f v)) []
  unfolding carried_out sonde_after setup_of
  device_keeps a hd body f v l =
      rw (device_same h a f v l, device_write (device_in x.sonde x.volume a) (sensor_at x.sonde 0) f v, with_setup_same x.sonde 0, set-get_or b.setups 0 no_sensor.setup)
      (record {
        invariant = record {
          matches = counted (with_technician_holds h.matches _) _;
          holds = subst (Holds x.volume) (sym (none_more b.journal)) h.holds;
          followed = λ t j. ap (latest t (of_sensor b.journal.opening t)) (append-nil b.journal.entries) ∙ h.followed t j;
        };
        entries = refl;
      })

  -- the write of a sensor's field, whatever comes of it
  sensor_keeps : (a : Arrival) (hd : Header) (body : List ℕ) (s : ℕ) (k : IsSensor s) (f : Field) (v : Value) → Located f.words s f
      → Answered b (carried_out x.sonde hd body x.volume s (write_at x.sonde x.volume a s f v)) (kept b s (write_in b a s f v))
      (accepted_in x.sonde (context_of (device_in x.sonde x.volume a)) (Writing s f v))
  unfolding carried_out sonde_after setup_at with_technician with_setup with_sensor
  sensor_keeps a hd body s k f v l =
      rw (sensor_same h a s k f v l, sensor_write (device_in x.sonde x.volume a) (sensor_at x.sonde s) f v s k.0, sensor_update (sensor_at x.sonde s) f v s k.0, ← (setup_same h.matches s k), sensor_technician y f high low c s x.sonde.technician, sensor_technician y f high low c s b.technician)
      (record {
        invariant = record {
          matches = counted (with_setup_holds h.matches s k _ (after_valid s y f high low c (setup_valid h.matches s k)) (after_fits s y f high low c (setup_fits h.matches s k))) _;
          holds = r.holds;
          followed = λ t j. rw (setup_replaced b.setups s t _ h.matches.four_setups k j) (r.followed t j);
        };
        entries = ap (λ (es : List Entry). b.journal.entries ++ es) (entries_told s y f high low c);
      })
    where
      y : Setup
      y = setup_at x.sonde s

      high : ℕ
      high = first_word (sensor_register s (sensor_at x.sonde s) f.offset) v

      low : ℕ
      low = second_word v

      c : Context
      c = context_of (device_in x.sonde x.volume a)

      r : Recorded s k (setup_after y (write_of s y f high low c)) (entries_of (write_of s y f high low c))
      r = recorded s k a (journalled s y f high low c)

  -- the write of a field
  pub write_keeps : (a : Arrival) (hd : Header) (body : List ℕ) (o : ℕ) (f : Field) (v : Value) → Located f.words o f
      → Answered b (carried_out x.sonde hd body x.volume o (write_at x.sonde x.volume a o f v)) (kept b o (write_in b a o f v))
      (accepted_in x.sonde (context_of (device_in x.sonde x.volume a)) (Writing o f v))
  unfolding is_update
  write_keeps a hd body zero f v l = device_keeps a hd body f v l
  write_keeps a hd body (suc n) f v l = sensor_keeps a hd body (suc n) (omega arith, l.owner_most) f v l
