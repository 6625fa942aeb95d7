-- The write of a field by its owner: the device's, or a sensor's. Assumes nothing.
use mathlib.Core.Path.{◌≡◌}
use mathlib.Core.Bool.{◌&&◌}
use Prim.Native.Nat.{ℕ, ◌≤◌}
use native.Mathlib.Omega.{arith}
use lib.Dec.{eqb}
use borrow.Author.Tests.{ne_eqb}
use Rattle.modbus.specs.declared.Value.{Value}
use Rattle.fields.specs.declared.Field.{Field}
use Rattle.sensors.specs.declared.Sensor.{Sensor}
use Rattle.registers.specs.Registers.{sensor_register, device_register, register_of}
use Rattle.registers.specs.declared.Device.{Device}
use Rattle.commands.specs.Commands.{context_of}
use Rattle.commands.specs.declared.Written.TheVariants.{Technician}
use Rattle.writes.specs.Writes.{write_of}
use Rattle.writes.proofs.Owners.{to_device, to_sensor}
use Rattle.service.specs.Frame.{first_word, second_word, written_by, is_update}

module _ (e : Device) (x : Sensor) (f : Field) (v : Value) where
  -- the device's stores a technician's number
  pub device_write : written_by 0 e x f v ≡ Technician (first_word (device_register e f.offset) v)
  unfolding written_by register_of
  device_write = to_device x.setup f _ _ (context_of e)

  -- a sensor's is judged on its setup
  pub sensor_write : (s : ℕ) → 1 ≤ s → written_by s e x f v ≡ write_of s x.setup f (first_word (sensor_register s x f.offset) v) (second_word v) (context_of e)
  unfolding written_by register_of
  sensor_write s k = rw (ne_eqb s 0 (omega arith)) (to_sensor x.setup f _ _ (context_of e) s k)

-- and an update is a sensor's
pub sensor_update : (x : Sensor) (f : Field) (v : Value) (s : ℕ) → 1 ≤ s
    → is_update s x f v ≡ (eqb f.offset 5 && eqb (first_word (sensor_register s x f.offset) v) 0xE001)
unfolding is_update
sensor_update x f v s k = rw (ne_eqb s 0 (omega arith))
