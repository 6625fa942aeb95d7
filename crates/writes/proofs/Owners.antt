-- A write by its field's owner: what a sensor's comes to, or the device's, which stores the technician's number and nothing else. Assumes nothing.
use mathlib.Core.Path.{◌≡◌, refl}
use Prim.Native.Nat.{ℕ, ◌≤◌}
use native.Mathlib.Omega.{arith}
use borrow.Author.Tests.{ne_eqb}
use Rattle.fields.specs.declared.Field.{Field}
use Rattle.sensors.specs.declared.Setup.{Setup}
use Rattle.commands.specs.Commands.{technician_after}
use Rattle.commands.specs.declared.Context.{Context}
use Rattle.commands.specs.declared.Written.{Written}
use Rattle.commands.specs.declared.Written.TheVariants.{Technician}
use Rattle.writes.specs.Writes.{write_of, device_written, write_to}
use Rattle.writes.proofs.Outcomes.{Outcome, refused, failed, stored, update, write_outcome}

module _ (s : Setup) (f : Field) (high low : ℕ) (context : Context) where
  -- the device's
  pub to_device : write_to 0 s f high low context ≡ Technician high
  unfolding write_to device_written
  to_device = refl

  -- a sensor's
  pub to_sensor : (n : ℕ) → 1 ≤ n → write_to n s f high low context ≡ write_of n s f high low context
  unfolding write_to
  to_sensor n k = rw (ne_eqb n 0 (omega arith))

  -- a sensor's leaves the technician's number
  pub sensor_technician : (n m : ℕ) → technician_after m (write_of n s f high low context) ≡ m
  sensor_technician n m = of (write_outcome n s f high low context)
    where
      of : {w : Written} → Outcome n s f.offset high low context w → technician_after m w ≡ m
      of (refused c) = refl
      of (failed c i u k j) = refl
      of (stored c) = refl
      of (update c i u k r j) = refl
