-- Updates: what an accepted one says, that none is refused without a reason, that no other write journals, what a refused write leaves, and that
-- the journal's room matters to an update alone. Assumes nothing.
use mathlib.Core.Path.{◌≡◌, refl, sym, ap, subst, ◌∙◌}
use mathlib.Core.Bool.{Bool, true, false, ◌&&◌, not, cond}
use mathlib.Core.List.{List, []}
use Prim.Native.Nat.{ℕ}
use lib.Dec.{eqb}
use borrow.Author.Tests.{eqb-true}
use Rattle.floats.proofs.Bools.{no, both, choose}
use Rattle.coefficients.specs.Coefficients.{all_finite, coefficients_of, in_limits}
use Rattle.methods.specs.Methods.{points_of, judged_of}
use Rattle.coefficients.specs.declared.Coefficients.{Coefficients}
use Rattle.std.specs.Prelude.{Result, Ok, Err}
use Rattle.methods.specs.declared.Rejection.{Rejection}
use Rattle.methods.specs.declared.Rejection.TheVariants.{OutsideLimits, NotFinite, Undefined}
use Rattle.methods.proofs.Candidates.{accepted}
use Rattle.entries.specs.Entries.{entry_of, replaced_by}
use Rattle.entries.specs.declared.Entry.{Entry}
use Rattle.std.specs.Prelude.{None}
use Rattle.refusals.specs.declared.codes.Code.TheVariants.{SensorMode, JournalFull}
use Rattle.fields.specs.Fields.{is_modal}
use Rattle.fields.specs.declared.Access.TheVariants.{Writable}
use Rattle.fields.specs.declared.Field.{Field}
use Rattle.sensors.specs.Changes.{with_trial, calibrated_at}
use Rattle.sensors.specs.declared.Setup.{Setup}
use Rattle.commands.specs.Commands.{context, code_of, setup_after, technician_after, entries_of, method_set, judged_update, updated, commanded, tried_by, refused_update, accepted_by, accepted_update}
use Rattle.writes.specs.Writes.{field_written, write_of}
use Rattle.commands.specs.declared.Context.{Context}
use Rattle.commands.specs.declared.Written.{Written}
use Rattle.commands.specs.declared.Written.TheVariants.{Refused, Failed, Stored, Updated, Technician}
use Rattle.writes.proofs.Outcomes.{Outcome, refused, failed, stored, update, write_outcome}

-- ---- what an update says

-- an accepted update: what was asked for, what becomes active, and the entry that is to be appended
pub record Update (sensor : ℕ) (s : Setup) (f : Field) (high : ℕ) (context : Context) (t : Setup) (e : Entry) : Type 0 where
  pub is_command : f.offset ≡ 5
  pub is_update_holds : high ≡ 0xE001
  pub mode_on_holds : s.procedure.calibrating ≡ true
  pub has_room : context.spare ≡ true
  pub verdict_is : judged_of sensor (method_set s) ≡ Ok (coefficients_of t.active.calibration)
  pub all_finite_holds : all_finite (coefficients_of t.active.calibration) ≡ true
  pub in_limits_holds : in_limits sensor (coefficients_of t.active.calibration) ≡ true
  pub time_is : t.active.calibration.time ≡ context.clock
  pub setup_is : t ≡ calibrated_at s (coefficients_of t.active.calibration) context.clock
  pub journalled : t.active.calibration ≡ e.calibration
  pub replaced : replaced_by s.active.calibration e ≡ t.active.calibration
  pub sensor_is : e.sensor ≡ sensor
  pub points_are : e.points ≡ points_of (method_set s)
  pub technician_is : e.technician ≡ context.technician
  pub entry_is : e ≡ entry_of sensor (method_set s) (coefficients_of t.active.calibration) context.clock context.technician

module _ (sensor : ℕ) (s : Setup) (f : Field) (high low : ℕ) (context : Context) (t : Setup) (e : Entry) where
  -- an accepted update says all that
  pub update_facts : write_of sensor s f high low context ≡ Updated t e → Update sensor s f high context t e
  unfolding calibrated_at replaced_by
  update_facts w = of (write_outcome sensor s f high low context) w
    where
      made : (c : Coefficients) → f.offset ≡ 5 → high ≡ 0xE001 → s.procedure.calibrating ≡ true → context.spare ≡ true → judged_of sensor (method_set s) ≡ Ok c
          → Update sensor s f high context (calibrated_at s c context.clock) (entry_of sensor (method_set s) c context.clock context.technician)
      made c i u m r j =
          record {
            is_command = i;
            is_update_holds = u;
            mode_on_holds = m;
            has_room = r;
            verdict_is = j;
            all_finite_holds = (accepted sensor (method_set s) c j).all_finite_holds;
            in_limits_holds = (accepted sensor (method_set s) c j).limits;
            time_is = refl;
            setup_is = refl;
            journalled = refl;
            replaced = refl;
            sensor_is = refl;
            points_are = refl;
            technician_is = refl;
            entry_is = refl;
          }

      at : (t₀ : Setup) (e₀ : Entry) → Updated t₀ e₀ ≡ Updated t e → Update sensor s f high context t₀ e₀ → Update sensor s f high context t e
      at t₀ e₀ w u =
          let p : t₀ ≡ t = cc in
          let q : e₀ ≡ e = cc in
          subst (Update sensor s f high context t) q (subst (λ (x : Setup). Update sensor s f high context x e₀) p u)

      of : {w : Written} → Outcome sensor s f.offset high low context w → w ≡ Updated t e → Update sensor s f high context t e
      of (refused h) w = cc
      of (failed c i u m j) w = cc
      of (stored h) w = cc
      of (update c i u m r j) w = at _ _ w (made c i u m r j)

-- ---- no update is refused without a reason

-- an update in mode, of an accepted candidate and with room in the journal, is carried out
pub update_accepted : (sensor : ℕ) (s : Setup) (f : Field) (low : ℕ) (context : Context) (c : Coefficients) → f.offset ≡ 5 → f.access ≡ Writable
    → s.procedure.calibrating ≡ true → judged_of sensor (method_set s) ≡ Ok c → context.spare ≡ true
    → write_of sensor s f 0xE001 low context ≡ Updated (calibrated_at s c context.clock) (entry_of sensor (method_set s) c context.clock context.technician)
unfolding write_of field_written commanded updated
update_accepted sensor s f low context c o a m j r = rw (a, o, m, j, r)

-- one of a candidate that is refused for its limits alone fails with it, with room in the journal or without
pub update_fails : (sensor : ℕ) (s : Setup) (f : Field) (low : ℕ) (context : Context) (c : Coefficients) → f.offset ≡ 5
    → s.procedure.calibrating ≡ true → judged_of sensor (method_set s) ≡ Err (OutsideLimits c)
    → write_of sensor s f 0xE001 low context ≡ Failed (with_trial s c)
unfolding write_of field_written commanded updated
update_fails sensor s f low context c o m j = rw (o, m, j) (go (is_modal f.access) _)
  where
    go : (modal : Bool) (w : Written) → cond (modal && false) (Refused SensorMode) w ≡ w
    go true w = refl
    go false w = refl

-- ---- which writes journal what

module _ (sensor : ℕ) (s : Setup) (f : Field) (high low : ℕ) (context : Context) where
  abbrev x : Written
  x = write_of sensor s f high low context

  -- the command 0xE001, whatever the field's access: mode off is 0x92 either way
  update_told : f.offset ≡ 5 → high ≡ 0xE001 → entries_of x ≡ accepted_update sensor s context
  unfolding write_of field_written commanded updated accepted_update
  update_told o u =
      rw (o, u) (in-mode (is_modal f.access) s.procedure.calibrating _
      ∙ ap (λ (l : List Entry). cond s.procedure.calibrating l []) (judged (judged_of sensor (method_set s))))
    where
      in-mode : (modal mode : Bool) (w : Written) → entries_of (cond (modal && not mode) (Refused SensorMode) (cond mode w (Refused SensorMode))) ≡ cond mode (entries_of w) []
      in-mode true true w = refl
      in-mode true false w = refl
      in-mode false true w = refl
      in-mode false false w = refl

      chosen : (b : Bool) (w v : Written) → entries_of (cond b w v) ≡ cond b (entries_of w) (entries_of v)
      chosen true w v = refl
      chosen false w v = refl

      judged : (v : Result Coefficients Rejection) → entries_of (judged_update sensor s context v) ≡ accepted_by sensor s context v
      judged (Ok c) = chosen context.spare _ _
      judged (Err (OutsideLimits c)) = refl
      judged (Err NotFinite) = refl
      judged (Err (Undefined cause)) = refl

  -- any other write
  none_told : (eqb f.offset 5 && eqb high 0xE001) ≡ false → entries_of x ≡ []
  none_told n = of (write_outcome sensor s f high low context)
    where
      of : {w : Written} → Outcome sensor s f.offset high low context w → entries_of w ≡ []
      of (refused h) = refl
      of (failed c i u m j) = refl
      of (stored h) = refl
      of (update c i u m r j) = absurd (no (sym n ∙ rw (i, u)))

  -- a write journals the entry of an accepted update, where it writes 0xE001 to the command register, else none
  pub entries_told : entries_of x ≡ cond (eqb f.offset 5 && eqb high 0xE001) (accepted_update sensor s context) []
  entries_told =
      choose (λ (l : List Entry). entries_of x ≡ l) (eqb f.offset 5 && eqb high 0xE001) _ _
      (λ e. let t = both (eqb f.offset 5) (eqb high 0xE001) e in update_told (eqb-true f.offset 5 t.0) (eqb-true high 0xE001 t.1)) none_told

-- ---- what a refused write leaves

module _ (sensor : ℕ) (s : Setup) (f : Field) (high low : ℕ) (context : Context) where
  abbrev y : Written
  y = write_of sensor s f high low context

  -- an answer that is refused leaves the setup t
  abbrev Leaves : Setup → Written → Type 0
  Leaves t w = (code_of w ≡ None → ⊥) → setup_after s w ≡ t

  -- the command 0xE001
  update_leaves : f.offset ≡ 5 → high ≡ 0xE001 → Leaves (refused_update sensor s) y
  unfolding write_of field_written commanded updated refused_update
  update_leaves o u = rw (o, u) (in-mode (is_modal f.access) s.procedure.calibrating _ (judged (judged_of sensor (method_set s))))
    where
      in-mode : (modal mode : Bool) (w : Written) {t : Setup} → Leaves t w
          → Leaves (cond mode t s) (cond (modal && not mode) (Refused SensorMode) (cond mode w (Refused SensorMode)))
      in-mode true true w h = h
      in-mode true false w h = λ n. refl
      in-mode false true w h = h
      in-mode false false w h = λ n. refl

      judged : (v : Result Coefficients Rejection) → Leaves (tried_by s v) (judged_update sensor s context v)
      judged (Ok c) = choose (Leaves s) context.spare _ _ (λ r n. absurd (n refl)) (λ r n. refl)
      judged (Err (OutsideLimits c)) = λ n. refl
      judged (Err NotFinite) = λ n. refl
      judged (Err (Undefined cause)) = λ n. refl

  -- any other write
  other_leaves : (eqb f.offset 5 && eqb high 0xE001) ≡ false → Leaves s y
  other_leaves n = of (write_outcome sensor s f high low context)
    where
      of : {w : Written} → Outcome sensor s f.offset high low context w → Leaves s w
      of (refused h) k = refl
      of (failed c i u m j) k = absurd (no (sym n ∙ rw (i, u)))
      of (stored h) k = absurd (k refl)
      of (update c i u m r j) k = absurd (k refl)

  -- a write that is refused leaves the setup, but for the trial coefficients of an update that is refused for its limits alone
  pub refused_leaves_holds : Leaves (cond (eqb f.offset 5 && eqb high 0xE001) (refused_update sensor s) s) y
  refused_leaves_holds =
      choose (λ (t : Setup). Leaves t y) (eqb f.offset 5 && eqb high 0xE001) _ _
      (λ e. let t = both (eqb f.offset 5) (eqb high 0xE001) e in update_leaves (eqb-true f.offset 5 t.0) (eqb-true high 0xE001 t.1)) other_leaves

-- and journals nothing
pub refused_journals : (w : Written) → (code_of w ≡ None → ⊥) → entries_of w ≡ []
refused_journals (Refused code) n = refl
refused_journals (Failed t) n = refl
refused_journals (Stored t) n = absurd (n refl)
refused_journals (Updated t e) n = absurd (n refl)
refused_journals (Technician m) n = refl

-- and leaves the technician's number
pub refused_technician : (m : ℕ) (w : Written) → (code_of w ≡ None → ⊥) → technician_after m w ≡ m
refused_technician m (Refused code) n = refl
refused_technician m (Failed t) n = refl
refused_technician m (Stored t) n = refl
refused_technician m (Updated t e) n = refl
refused_technician m (Technician k) n = absurd (n refl)

-- ---- the journal's room

-- two writes that differ in the journal's room alone: an update with room and 0xC0 without, or no difference
data BySpare : Written → Written → Type 0 where
  equal : {w : Written} → BySpare w w
  spent : {t : Setup} {e : Entry} → BySpare (Updated t e) (Refused JournalFull)

choose_two : (b : Bool) (x y x' y' : Written) → BySpare x x' → BySpare y y' → BySpare (cond b x y) (cond b x' y')
choose_two true x y x' y' f g = f
choose_two false x y x' y' f g = g

by_spare : (sensor : ℕ) (s : Setup) (f : Field) (high low clock technician : ℕ) → BySpare (write_of sensor s f high low (context clock true technician)) (write_of sensor s f high low (context clock false technician))
unfolding write_of field_written commanded updated
by_spare sensor s f high low clock technician =
    choose_two (is_modal f.access && not s.procedure.calibrating) _ _ _ _ equal
    (choose_two (eqb f.offset 3) _ _ _ _ equal
    (choose_two (eqb f.offset 5) _ _ _ _
    (choose_two (eqb high 0xE000) _ _ _ _ equal
    (choose_two (eqb high 0xE001) _ _ _ _ (choose_two s.procedure.calibrating _ _ _ _ (judged (judged_of sensor (method_set s))) equal) equal))
    equal))
  where
    judged : (v : Result Coefficients Rejection) → BySpare (judged_update sensor s (context clock true technician) v) (judged_update sensor s (context clock false technician) v)
    judged (Ok c) = spent
    judged (Err (OutsideLimits c)) = equal
    judged (Err NotFinite) = equal
    judged (Err (Undefined cause)) = equal

-- what is an update with room in the journal is 0xC0 without
pub spare_needed : (sensor : ℕ) (s : Setup) (f : Field) (high low clock technician : ℕ) (t : Setup) (e : Entry) → write_of sensor s f high low (context clock true technician) ≡ Updated t e
    → write_of sensor s f high low (context clock false technician) ≡ Refused JournalFull
spare_needed sensor s f high low clock technician t e = of (by_spare sensor s f high low clock technician) (update_facts sensor s f high low (context clock false technician) t e)
  where
    of : {x y : Written} → BySpare x y → (y ≡ Updated t e → Update sensor s f high (context clock false technician) t e) → x ≡ Updated t e → y ≡ Refused JournalFull
    of equal u w = let z : false ≡ true = (u w).has_room in absurd (no z)
    of spent u w = refl

-- any other write doesn't ask for room in the journal
pub spare_else : (sensor : ℕ) (s : Setup) (f : Field) (high low clock technician : ℕ) → ((t : Setup) (e : Entry) → write_of sensor s f high low (context clock true technician) ≡ Updated t e → ⊥)
    → write_of sensor s f high low (context clock false technician) ≡ write_of sensor s f high low (context clock true technician)
spare_else sensor s f high low clock technician = of (by_spare sensor s f high low clock technician)
  where
    of : {x y : Written} → BySpare x y → ((t : Setup) (e : Entry) → x ≡ Updated t e → ⊥) → y ≡ x
    of equal n = refl
    of (spent {t = t} {e = e}) n = absurd (n t e refl)
