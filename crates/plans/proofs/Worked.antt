-- Writes judged on the map alone, worked out by computation. Assumes nothing.
use mathlib.Core.Path.{◌≡◌, refl}
use Rattle.fields.specs.Fields.{field, owner_bit, owns, holds, exactly, field_at, whole_field, span_of}
use Rattle.plans.specs.Plans.{target_of, write_plan}
use Rattle.plans.specs.declared.Plan.TheVariants.{Writing}
use Rattle.modbus.specs.declared.Value.{Value}
use Rattle.std.specs.Prelude.{Ok, Err}
use Rattle.refusals.specs.declared.codes.Code.TheVariants.{IllegalDataAddress, FieldMismatch, ReadOnly}
use Rattle.fields.specs.declared.Access.TheVariants.{Writable}

pub record Worked : Type 0 where
  -- read-only: the device's clock
  pub clock_read_only : target_of 2 2 ≡ Err ReadOnly
  -- absent before no whole field: half of a field and a register that sensor 3 lacks
  pub half_and_absent : target_of 315 2 ≡ Err IllegalDataAddress
  -- the device's register 9 is a whole field that can be written; with register 8 it is none, and register 10 is absent
  pub technician : target_of 9 1 ≡ Ok (field 9 1 Writable 1)
  -- and its owner is the device
  pub technician_owner : (v : Value) → write_plan 9 1 v ≡ Ok (Writing 0 (field 9 1 Writable 1) v)
  pub used_and_technician : target_of 8 2 ≡ Err FieldMismatch
  pub technician_and_absent : target_of 9 2 ≡ Err IllegalDataAddress

-- by computation
pub worked : Worked
unfolding write_plan target_of span_of whole_field exactly field_at holds owns owner_bit
worked = record { clock_read_only = refl; half_and_absent = refl; technician = refl; technician_owner = λ v. refl; used_and_technician = refl; technician_and_absent = refl }
