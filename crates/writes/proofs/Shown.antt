-- What a write that isn't refused gave a field is what a read of the field then shows: a sensor's field, or the technician's number.
-- Assumes nothing.
use mathlib.Core.Path.{◌≡◌, refl, sym, ◌∙◌}
use mathlib.Core.Bool.{Bool, true, false, cond}
use Prim.Native.Nat.{ℕ, suc, ◌/◌, ◌<◌}
use native.Mathlib.Omega.{arith}
use lib.Dec.{eqb}
use borrow.Author.Tests.{eqb-true}
use Rattle.floats.specs.Floats.{pattern}
use Rattle.floats.proofs.Bools.{no}
use Rattle.fields.specs.declared.Field.{Field}
use Rattle.std.specs.Prelude.{Some, None}
use Rattle.fields.specs.declared.Access.TheVariants.{ReadOnly}
use Rattle.fields.specs.Fields.{field_at}
use Rattle.fields.proofs.Writable.{device_written_lem}
use Rattle.sensors.specs.declared.Setup.{Setup}
use Rattle.sensors.specs.declared.Sample.{Sample}
use Rattle.registers.specs.Registers.{sensor_register, device_register, register_of}
use Rattle.registers.specs.declared.Device.{Device}
use Rattle.writes.proofs.Content.{content_of, written_value}
use Rattle.writes.specs.Writes.{write_of, device_written, write_to}
use Rattle.commands.specs.Commands.{code_of, setup_after, technician_after}
use Rattle.commands.specs.declared.Context.{Context}
use Rattle.commands.specs.declared.Written.{Written}
use Rattle.commands.specs.declared.Written.TheVariants.{Stored}
use Rattle.writes.proofs.Outcomes.{none_some, Outcome, refused, failed, stored, update, write_outcome}
use Rattle.writes.proofs.Rows.{one_word_holds, level_sensor}
use Rattle.writes.proofs.Contents.{Takes, effect, write_stores}

-- a sensor's write that is stored, of a field of the map that isn't read-only and isn't the command
module _ (s : Setup) (r : ℕ) (f : Field) (found : field_at r ≡ Some f) (writable : f.access ≡ ReadOnly → ⊥) (value : f.offset ≡ 5 → ⊥)
    (high low : ℕ) (context : Context) (t : Setup) (e : write_of (r / 100) s f high low context ≡ Stored t) (x : Sample) where
  takes : Takes (r / 100) s t f.offset high low
  takes = effect (r / 100) s r f found writable value high low context t e

  stores : high < 65536 → low < 65536 → content_of t f.offset ≡ written_value f high low
  stores = write_stores (r / 100) s r f found writable value high low context t e

  -- the field's first register then reads as the first word written, whatever is measured
  stored_shown : high < 65536 → low < 65536 → sensor_register (r / 100) (record { setup = t; sample = x }) f.offset ≡ high
  unfolding written_value
  stored_shown hh hl = takes.high_shown (level_sensor r f found writable) x ∙ rw (← (one_word_holds r f found writable), stores hh hl) (go (eqb f.words 1))
    where
      go : (b : Bool) → cond b (cond b high (pattern high low)) (cond b high (pattern high low) / 65536) ≡ high
      go true = refl
      go false = omega arith

  -- and the second register of a field of two words as the second
  stored_shown_low : high < 65536 → low < 65536 → eqb f.words 1 ≡ false
      → sensor_register (r / 100) (record { setup = t; sample = x }) (suc f.offset) ≡ low
  unfolding written_value
  stored_shown_low hh hl w = takes.low_shown x (sym (one_word_holds r f found writable) ∙ w) ∙ rw (stores hh hl, w) (omega arith)

-- ---- by the owner

-- the device's values with the technician's number that a write leaves
abbrev pub device_after : Device → Written → Device
device_after d w =
    record {
      clock = d.clock;
      good = d.good;
      bad = d.bad;
      exceptions = d.exceptions;
      capacity = d.capacity;
      used = d.used;
      technician = technician_after d.technician w;
    }

-- a write that isn't refused, of any field of the map that isn't read-only and isn't a sensor's command
module _ (d : Device) (s : Setup) (r : ℕ) (f : Field) (found : field_at r ≡ Some f) (writable : f.access ≡ ReadOnly → ⊥) (value : f.offset ≡ 5 → ⊥)
    (high low : ℕ) (context : Context) (x : Sample) where
  -- what the register of the field's owner at an offset then shows
  abbrev pub reads : Written → ℕ → ℕ
  reads w o = register_of (r / 100) (device_after d w) (record { setup = setup_after s w; sample = x }) o

  abbrev pub w : Written
  w = write_to (r / 100) s f high low context

  -- a sensor's is stored: an update writes the command
  is_stored : {y : Written} → Outcome (r / 100) s f.offset high low context y → code_of y ≡ None → y ≡ Stored (setup_after s y)
  is_stored (refused c) e = absurd (none_some (sym e))
  is_stored (failed c i u m j) e = absurd (none_some (sym e))
  is_stored (stored c) e = refl
  is_stored (update c i u m k j) e = absurd (value i)

  -- the field's first register then reads as the first word written, whatever is measured
  pub write_shown : code_of w ≡ None → high < 65536 → low < 65536 → reads w f.offset ≡ high
  unfolding register_of write_to device_written device_register
  write_shown e hh hl = go (eqb (r / 100) 0) refl e
    where
      go : (b : Bool) → eqb (r / 100) 0 ≡ b → code_of w ≡ None → reads w f.offset ≡ high
      go true q e = rw (q, device_written_lem r f found writable (eqb-true (r / 100) 0 q))
      go false q e = rw q (stored_shown s r f found writable value high low context _ (is_stored (write_outcome (r / 100) s f high low context) (rw q at e)) x hh hl)

  -- and the second register of a field of two words as the second
  pub write_shown_low : code_of w ≡ None → high < 65536 → low < 65536 → eqb f.words 1 ≡ false → reads w (suc f.offset) ≡ low
  unfolding register_of write_to device_written
  write_shown_low e hh hl two = go (eqb (r / 100) 0) refl e
    where
      go : (b : Bool) → eqb (r / 100) 0 ≡ b → code_of w ≡ None → reads w (suc f.offset) ≡ low
      go true q e = absurd (no (sym two ∙ one_word_holds r f found writable ∙ rw (device_written_lem r f found writable (eqb-true (r / 100) 0 q))))
      go false q e = rw q (stored_shown_low s r f found writable value high low context _ (is_stored (write_outcome (r / 100) s f high low context) (rw q at e)) x hh hl two)
