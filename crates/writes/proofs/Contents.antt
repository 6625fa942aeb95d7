-- A write that is stored puts its value into its own field, whose registers then show it, and leaves every other field as it was.
-- Assumes nothing.
use mathlib.Core.Path.{◌≡◌, refl, sym}
use mathlib.Core.Bool.{Bool, true, false, cond}
use Prim.Native.Nat.{ℕ, zero, suc, ◌+◌, ◌*◌, ◌-◌, ◌/◌, ◌%◌, ◌≤◌, ◌<◌}
use native.Mathlib.Omega.{arith}
use lib.Ieee.{Float, binary32, to_bits}
use borrow.Author.Tests.{ne_eqb}
use Rattle.floats.specs.Floats.{pattern, float_of, high_word, low_word}
use Rattle.std.specs.Prelude.{Some}
use Rattle.floats.proofs.Bools.{no}
use Rattle.floats.proofs.Words.{float_and_back}
use Rattle.parameters.specs.Parameters.{parameter_number, parameter_part}
use Rattle.refusals.specs.declared.codes.Code.TheVariants.{SensorMode}
use Rattle.fields.specs.declared.Access.TheVariants.{ReadOnly, Modal}
use Rattle.fields.specs.declared.Field.{Field}
use Rattle.std.specs.Prelude.{Some}
use Rattle.fields.specs.Fields.{field_at}
use Rattle.sensors.specs.Sensors.{parameter_of}
use Rattle.sensors.specs.Changes.{procedure, active, with_procedure, with_active, with_parameters, with_level, with_parameter}
use Rattle.sensors.specs.declared.Setup.{Setup}
use Rattle.sensors.specs.declared.Sample.{Sample}
use Rattle.registers.specs.Registers.{shown_coefficients, coefficient_register, point_register, shown_id, parameter_register, head_register, sensor_register}
use Rattle.writes.proofs.Content.{content_of, written_value}
use Rattle.writes.specs.Writes.{trial_at, point_at, with_sentinel, with_float, write_of}
use Rattle.commands.specs.declared.Context.{Context}
use Rattle.commands.specs.declared.Written.TheVariants.{Refused, Stored}
use Rattle.writes.proofs.Outcomes.{in_procedure, in_parameter, Change, same, restart, next, method, float, level, units, write_outcome, stored_change}
use Rattle.writes.proofs.Rows.{one_word, one_word_holds, even, modal, level_offset}

-- from s to t the field at o takes the value of its words, the others stay, and so does the mode; a read of the field shows what it holds,
-- an id (part 2 of a parameter) where the sensor is 3
pub record Takes (sensor : ℕ) (s t : Setup) (o high low : ℕ) : Type 0 where
  pub content : high < 65536 → low < 65536 → content_of t o ≡ cond (one_word o) high (pattern high low)
  pub others : (g : ℕ) → (g ≡ o → ⊥) → content_of t g ≡ content_of s g
  pub mode : t.procedure.calibrating ≡ s.procedure.calibrating
  pub high_shown : (parameter_part o ≡ 2 → sensor ≡ 3) → (x : Sample)
      → sensor_register sensor (record { setup = t; sample = x }) o ≡ cond (one_word o) (content_of t o) (content_of t o / 65536)
  pub low_shown : (x : Sample) → one_word o ≡ false → sensor_register sensor (record { setup = t; sample = x }) (suc o) ≡ content_of t o % 65536

-- the bits of a float are those of its words
bits : (high low : ℕ) (x : Float) → float_of high low ≡ Some x → high < 65536 → low < 65536 → to_bits binary32 x ≡ pattern high low
unfolding high_word low_word
bits high low x e hh hl = let b = float_and_back high low x hh hl e in omega arith

module _ (n : ℕ) (s : Setup) (high low : ℕ) where
  abbrev To : Setup → ℕ → Type 0
  To t o = Takes n s t o high low

  next_takes : (o : ℕ) → o ≡ 3 → To (with_active s (active s.active.calibration (pattern high low))) o
  unfolding content_of sensor_register head_register
  next_takes o e = rw e (record { content = λ hh hl. refl; others = λ g n. rw (ne_eqb g 3 n); mode = refl; high_shown = λ l x. refl; low_shown = λ x e. refl })

  method_takes : (o : ℕ) → o ≡ 6 → To (with_procedure s (procedure s.procedure.calibrating s.procedure.trial high s.procedure.points)) o
  unfolding content_of sensor_register head_register
  method_takes o e =
      rw e (record { content = λ hh hl. refl; others = λ g n. rw (ne_eqb g 6 n); mode = refl; high_shown = λ l x. refl; low_shown = λ x e. absurd (no (sym e)) })

  level_takes : (o : ℕ) → o ≡ 40
      → To (with_parameters s (with_level s.parameters high)) o
  unfolding content_of sensor_register parameter_register shown_id
  level_takes o e =
      rw e (record { content = λ hh hl. refl; others = λ g n. rw (ne_eqb g 40 n); mode = refl; high_shown = λ l x. rw (l refl); low_shown = λ x e. absurd (no (sym e)) })

  -- part 3 of parameter k
  units_take : (k o : ℕ) → 1 ≤ k → k ≤ 3 → o ≡ 8 * k + 25
      → To (with_parameters s (with_parameter s.parameters k (record { units = high; sentinel = (parameter_of s.parameters k).sentinel }))) o
  unfolding content_of with_parameter parameter_of sensor_register parameter_register
  units_take zero o l h e = absurd (omega arith)
  units_take (suc zero) o l h e =
      rw e (record { content = λ hh hl. refl; others = λ g n. rw (ne_eqb g 33 n); mode = refl; high_shown = λ l x. refl; low_shown = λ x e. absurd (no (sym e)) })
  units_take (suc (suc zero)) o l h e =
      rw e (record { content = λ hh hl. refl; others = λ g n. rw (ne_eqb g 41 n); mode = refl; high_shown = λ l x. refl; low_shown = λ x e. absurd (no (sym e)) })
  units_take (suc (suc (suc zero))) o l h e =
      rw e (record { content = λ hh hl. refl; others = λ g n. rw (ne_eqb g 49 n); mode = refl; high_shown = λ l x. refl; low_shown = λ x e. absurd (no (sym e)) })
  units_take (suc (suc (suc (suc k)))) o l h e = absurd (omega arith)

  module _ (x : Float) (b : high < 65536 → low < 65536 → to_bits binary32 x ≡ pattern high low) where
    -- the floats from offset 10 on: three coefficients, which are shown with mode on, and four values of the points
    floats-take : (i o : ℕ) → i ≤ 6 → o ≡ 2 * i + 10 → (o ≤ 15 → s.procedure.calibrating ≡ true) → To (with_float s o x) o
    unfolding content_of with_float trial_at point_at sensor_register coefficient_register point_register shown_coefficients high_word low_word
    floats-take zero o h e m =
        let c = m (omega arith) in
        rw e (record { content = b; others = λ g n. rw (ne_eqb g 10 n); mode = refl; high_shown = λ l x. rw c; low_shown = λ x e. rw c })
    floats-take (suc zero) o h e m =
        let c = m (omega arith) in
        rw e (record { content = b; others = λ g n. rw (ne_eqb g 12 n); mode = refl; high_shown = λ l x. rw c; low_shown = λ x e. rw c })
    floats-take (suc (suc zero)) o h e m =
        let c = m (omega arith) in
        rw e (record { content = b; others = λ g n. rw (ne_eqb g 14 n); mode = refl; high_shown = λ l x. rw c; low_shown = λ x e. rw c })
    floats-take (suc (suc (suc zero))) o h e m =
        rw e (record { content = b; others = λ g n. rw (ne_eqb g 16 n); mode = refl; high_shown = λ l x. refl; low_shown = λ x e. refl })
    floats-take (suc (suc (suc (suc zero)))) o h e m =
        rw e (record { content = b; others = λ g n. rw (ne_eqb g 18 n); mode = refl; high_shown = λ l x. refl; low_shown = λ x e. refl })
    floats-take (suc (suc (suc (suc (suc zero))))) o h e m =
        rw e (record { content = b; others = λ g n. rw (ne_eqb g 20 n); mode = refl; high_shown = λ l x. refl; low_shown = λ x e. refl })
    floats-take (suc (suc (suc (suc (suc (suc zero)))))) o h e m =
        rw e (record { content = b; others = λ g n. rw (ne_eqb g 22 n); mode = refl; high_shown = λ l x. refl; low_shown = λ x e. refl })
    floats-take (suc (suc (suc (suc (suc (suc (suc i))))))) o h e m = absurd (omega arith)

    -- part 5 of parameter k
    sentinel-takes : (k o : ℕ) → 1 ≤ k → k ≤ 3 → o ≡ 8 * k + 27 → To (with_float s o x) o
    unfolding content_of with_float with_sentinel with_parameter parameter_of sensor_register parameter_register high_word low_word
    sentinel-takes zero o l h e = absurd (omega arith)
    sentinel-takes (suc zero) o l h e =
        rw e (record { content = b; others = λ g n. rw (ne_eqb g 35 n); mode = refl; high_shown = λ l x. refl; low_shown = λ x e. refl })
    sentinel-takes (suc (suc zero)) o l h e =
        rw e (record { content = b; others = λ g n. rw (ne_eqb g 43 n); mode = refl; high_shown = λ l x. refl; low_shown = λ x e. refl })
    sentinel-takes (suc (suc (suc zero))) o l h e =
        rw e (record { content = b; others = λ g n. rw (ne_eqb g 51 n); mode = refl; high_shown = λ l x. refl; low_shown = λ x e. refl })
    sentinel-takes (suc (suc (suc (suc k)))) o l h e = absurd (omega arith)

-- a write that is stored, of a field of the map that isn't read-only and isn't the command
module _ (sensor : ℕ) (s : Setup) (r : ℕ) (f : Field) (found : field_at r ≡ Some f) (writable : f.access ≡ ReadOnly → ⊥) (value : f.offset ≡ 5 → ⊥)
    (high low : ℕ) (context : Context) (t : Setup) (e : write_of sensor s f high low context ≡ Stored t) where
  -- a field that is writable in mode only was written in mode
  mode_on_holds : f.access ≡ Modal → s.procedure.calibrating ≡ true
  unfolding write_of
  mode_on_holds a = go s.procedure.calibrating refl
    where
      go : (b : Bool) → s.procedure.calibrating ≡ b → s.procedure.calibrating ≡ true
      go true q = q
      go false q = let p : Refused SensorMode ≡ Stored t = rw (a, q) at e in cc

  -- by the cases of what was stored; the rules of the table give the field's own offset
  pub effect : Takes sensor s t f.offset high low
  effect = of (stored_change (write_outcome sensor s f high low context) t e)
    where
      o : ℕ
      o = f.offset

      of : {t : Setup} → Change sensor s f.offset high low t → Takes sensor s t f.offset high low
      of (same i) = absurd (value i)
      of (restart mode i) = absurd (value i)
      of (next i) = next_takes sensor s high low o i
      of (method i m) = method_takes sensor s high low o i
      of (float x (in_procedure c) q) =
          let v : o % 2 ≡ 0 = even r f found writable c.0 c.1 in
          floats-take sensor s high low x (bits high low x q) ((o - 10) / 2) o (omega arith) (omega arith) (λ h. mode_on_holds (modal r f found writable c.0 h))
      of (float x (in_parameter c p) q) = sentinel-takes sensor s high low x (bits high low x q) (parameter_number o) o (omega arith) (omega arith) (omega arith)
      of (level c p l) = level_takes sensor s high low o (level_offset r f found writable p)
      of (units k c i p u) = units_take sensor s high low k o (omega arith) (omega arith) (omega arith)

  -- it stores the value of the field's word or of its two words
  pub write_stores : high < 65536 → low < 65536 → content_of t f.offset ≡ written_value f high low
  unfolding written_value
  write_stores hh hl = rw (one_word_holds r f found writable) (effect.content hh hl)

  -- it leaves what any other field holds
  pub write_keeps : (o : ℕ) → (o ≡ f.offset → ⊥) → content_of t o ≡ content_of s o
  write_keeps o n = effect.others o n

  -- it leaves the mode
  pub write_keeps_mode : t.procedure.calibrating ≡ s.procedure.calibrating
  write_keeps_mode = effect.mode
