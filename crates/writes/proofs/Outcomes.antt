-- What a write can come to, by cases: refused by one of four codes, an update that failed for its limits alone, one value stored, or an update.
-- Assumes nothing.
use mathlib.Core.Path.{◌≡◌, refl, subst}
use Rattle.std.specs.Prelude.{Some, None}
use mathlib.Core.Bool.{Bool, true, false, ◌&&◌, not}
use Prim.Native.Nat.{ℕ, ◌≤◌}
use native.Mathlib.Omega.{arith}
use lib.Dec.{eqb, leb}
use lib.Ieee.{Float}
use borrow.Author.Tests.{eqb-true, leb-true}
use Rattle.refusals.specs.declared.codes.Code.{Code}
use Rattle.refusals.specs.declared.codes.Code.TheVariants.{SensorMode, WriteValue, InvalidCalibration, JournalFull}
use Rattle.std.specs.Prelude.{Option, Some, None, Result, Ok, Err}
use Rattle.floats.specs.Floats.{pattern, float_of}
use Rattle.floats.proofs.Bools.{both, choose}
use Rattle.methods.specs.Methods.{judged_of}
use Rattle.coefficients.specs.declared.Coefficients.{Coefficients}
use Rattle.methods.specs.declared.Rejection.{Rejection}
use Rattle.methods.specs.declared.Rejection.TheVariants.{OutsideLimits, NotFinite, Undefined}
use Rattle.entries.specs.Entries.{method_allowed, entry_of}
use Rattle.parameters.specs.Parameters.{parameter_number, parameter_part, quantity_of, units_allowed, level_allowed}
use Rattle.std.specs.Option.{option_map_or}
use Rattle.fields.specs.Fields.{is_modal}
use Rattle.fields.specs.declared.Field.{Field}
use Rattle.sensors.specs.Sensors.{parameter_of}
use Rattle.sensors.specs.Changes.{procedure, active, with_procedure, with_active, with_parameters, with_trial, with_level, restarted, calibrated_at, with_parameter}
use Rattle.sensors.specs.declared.Setup.{Setup}
use Rattle.commands.specs.Commands.{method_set, judged_update, updated, commanded}
use Rattle.writes.specs.Writes.{next_written, method_written, with_float, float_stored, float_written, level_written, units_written, parameter_written, field_written, write_of}
use Rattle.commands.specs.declared.Context.{Context}
use Rattle.commands.specs.declared.Written.{Written}
use Rattle.commands.specs.declared.Written.TheVariants.{Refused, Failed, Stored, Updated}

-- the codes that refuse a write of a whole field
pub data Refuses : Code → Type 0 where
  mode_off : Refuses SensorMode
  not_listed : Refuses WriteValue
  not_accepted : Refuses InvalidCalibration
  journal_full : Refuses JournalFull

pub some_same : {a b : Code} → Some a ≡ Some b → a ≡ b
some_same e = cc

pub none_some : {A : Type 0} {a : A} → None ≡ Some a → ⊥
none_some e = cc

-- the fields that hold a float: coefficients and points, and the sentinels, part 5 of each parameter
pub data FloatAt (o : ℕ) : Type 0 where
  in_procedure : (10 ≤ o) × (o ≤ 23) → FloatAt o
  in_parameter : (30 ≤ o) × (o ≤ 53) → parameter_part o ≡ 5 → FloatAt o

pub float_below : {o : ℕ} → FloatAt o → o ≤ 53
float_below (in_procedure r) = omega (arith, r.1)
float_below (in_parameter r p) = r.1

-- a setup with the value of the field at offset o stored, and what was asked of the value
pub data Change (sensor : ℕ) (s : Setup) (o high low : ℕ) : Setup → Type 0 where
  same : o ≡ 5 → Change sensor s o high low s
  restart : (mode : Bool) → o ≡ 5 → Change sensor s o high low (restarted s mode)
  next : o ≡ 3 → Change sensor s o high low (with_active s (active s.active.calibration (pattern high low)))
  method : o ≡ 6 → method_allowed sensor high ≡ true
      → Change sensor s o high low (with_procedure s (procedure s.procedure.calibrating s.procedure.trial high s.procedure.points))
  float : (x : Float) → FloatAt o → float_of high low ≡ Some x → Change sensor s o high low (with_float s o x)
  level : (30 ≤ o) × (o ≤ 53) → parameter_part o ≡ 2 → level_allowed high ≡ true
      → Change sensor s o high low (with_parameters s (with_level s.parameters high))
  units : (k : ℕ) → (30 ≤ o) × (o ≤ 53) → k ≡ parameter_number o → parameter_part o ≡ 3 → option_map_or (λ q. units_allowed q high) (quantity_of sensor k) false ≡ true
      → Change sensor s o high low (with_parameters s (with_parameter s.parameters k (record { units = high; sentinel = (parameter_of s.parameters k).sentinel })))

-- what a write comes to
pub data Outcome (sensor : ℕ) (s : Setup) (o high low : ℕ) (context : Context) : Written → Type 0 where
  refused : {code : Code} → Refuses code → Outcome sensor s o high low context (Refused code)
  failed : (c : Coefficients) → o ≡ 5 → high ≡ 0xE001 → s.procedure.calibrating ≡ true → judged_of sensor (method_set s) ≡ Err (OutsideLimits c)
      → Outcome sensor s o high low context (Failed (with_trial s c))
  stored : {t : Setup} → Change sensor s o high low t → Outcome sensor s o high low context (Stored t)
  update : (c : Coefficients) → o ≡ 5 → high ≡ 0xE001 → s.procedure.calibrating ≡ true → context.spare ≡ true → judged_of sensor (method_set s) ≡ Ok c
      → Outcome sensor s o high low context (Updated (calibrated_at s c context.clock) (entry_of sensor (method_set s) c context.clock context.technician))

module _ (sensor : ℕ) (s : Setup) (o high low : ℕ) (context : Context) where
  abbrev P : Written → Type 0
  P = Outcome sensor s o high low context

  judged_outcome : o ≡ 5 → high ≡ 0xE001 → s.procedure.calibrating ≡ true → (v : Result Coefficients Rejection) → judged_of sensor (method_set s) ≡ v → P (judged_update sensor s context v)
  judged_outcome i u m (Ok c) e = choose P context.spare _ _ (λ r. update c i u m r e) (λ r. refused journal_full)
  judged_outcome i u m (Err (OutsideLimits c)) e = failed c i u m e
  judged_outcome i u m (Err NotFinite) e = refused not_accepted
  judged_outcome i u m (Err (Undefined cause)) e = refused not_accepted

  command_outcome : o ≡ 5 → P (commanded sensor s high context)
  unfolding commanded updated
  command_outcome i =
      choose P (eqb high 0xE000) _ _ (λ e. choose P s.procedure.calibrating _ _ (λ m. stored (same i)) (λ m. stored (restart true i)))
      (λ e. choose P (eqb high 0xE001) _ _
      (λ u. choose P s.procedure.calibrating _ _ (λ m. judged_outcome i (eqb-true high 0xE001 u) m (judged_of sensor (method_set s)) refl) (λ m. refused mode_off))
      (λ e. choose P (eqb high 0xE002) _ _ (λ e. choose P s.procedure.calibrating _ _ (λ m. stored (restart false i)) (λ m. stored (same i)))
      (λ e. refused not_listed)))

  float_outcome : FloatAt o → P (float_written s o high low)
  unfolding float_written
  float_outcome a = go (float_of high low) refl
    where
      go : (r : Option Float) → float_of high low ≡ r → P (float_stored s o r)
      go (Some x) e = stored (float x a e)
      go None e = refused not_listed

  parameter_outcome : (30 ≤ o) × (o ≤ 53) → P (parameter_written sensor s o high low)
  unfolding parameter_written level_written units_written
  parameter_outcome r =
      choose P (eqb (parameter_part o) 2) _ _
      (λ e. choose P (level_allowed high) _ _ (λ l. stored (level r (eqb-true (parameter_part o) 2 e) l)) (λ l. refused not_listed))
      (λ e. choose P (eqb (parameter_part o) 3) _ _
      (λ e. choose P (option_map_or (λ q. units_allowed q high) (quantity_of sensor (parameter_number o)) false) _ _ (λ l. stored (units _ r refl (eqb-true (parameter_part o) 3 e) l)) (λ l. refused not_listed))
      (λ e. choose P (eqb (parameter_part o) 5) _ _ (λ e. float_outcome (in_parameter r (eqb-true (parameter_part o) 5 e)))
      (λ e. refused not_listed)))

  field_outcome : P (field_written sensor s o high low context)
  unfolding field_written next_written method_written
  field_outcome =
      choose P (eqb o 3) _ _ (λ e. stored (next (eqb-true o 3 e)))
      (λ e. choose P (eqb o 5) _ _ (λ e. command_outcome (eqb-true o 5 e))
      (λ e. choose P (eqb o 6) _ _
      (λ e. choose P (method_allowed sensor high) _ _ (λ m. stored (method (eqb-true o 6 e) m)) (λ m. refused not_listed))
      (λ e. choose P (leb 10 o && leb o 23) _ _ (λ e. float_outcome (in_procedure (between 10 23 e)))
      (λ e. choose P (leb 30 o && leb o 53) _ _ (λ e. parameter_outcome (between 30 53 e))
      (λ e. refused not_listed)))))
    where
      between : (a b : ℕ) → (leb a o && leb o b) ≡ true → (a ≤ o) × (o ≤ b)
      between a b e = let t = both (leb a o) (leb o b) e in (leb-true a o t.0, leb-true o b t.1)

-- the outcome of a write
pub write_outcome : (sensor : ℕ) (s : Setup) (f : Field) (high low : ℕ) (context : Context)
    → Outcome sensor s f.offset high low context (write_of sensor s f high low context)
unfolding write_of
write_outcome sensor s f high low context =
    choose P (is_modal f.access && not s.procedure.calibrating) _ _ (λ e. refused mode_off) (λ e. field_outcome sensor s f.offset high low context)
  where
    P : Written → Type 0
    P = Outcome sensor s f.offset high low context

-- what was stored
pub stored_change : {sensor : ℕ} {s : Setup} {o high low : ℕ} {context : Context} {w : Written} → Outcome sensor s o high low context w → (t : Setup) → w ≡ Stored t
    → Change sensor s o high low t
stored_change (refused h) t e = cc
stored_change (failed c i u m j) t e = cc
stored_change {sensor} {s} {o} {high} {low} (stored {t = u} h) t e = subst (Change sensor s o high low) (same-setup u t e) h
  where
    same-setup : (u t : Setup) → Stored u ≡ Stored t → u ≡ t
    same-setup u t e = cc
stored_change (update c i u m r j) t e = cc
