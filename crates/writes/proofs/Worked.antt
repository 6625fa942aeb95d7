-- Updates worked out by computation, and which refusal comes before which. Assumes nothing.
use mathlib.Core.Path.{◌≡◌, refl}
use mathlib.Core.Bool.{Bool, true, false}
use mathlib.Core.List.{List, [], ◌∷◌}
use Prim.Native.Nat.{ℕ, ◌/◌}
use lib.Ieee.{binary32, sub, mul, div, round, of_bits, to_bits, le, eq}
use Rattle.refusals.specs.Codes.{byte_of}
use Rattle.refusals.specs.declared.codes.Code.TheVariants.{IllegalDataAddress}
use Rattle.floats.specs.Floats.{near, near_minus, finite, float_of, is_plus_zero}
use Rattle.coefficients.specs.Coefficients.{all_finite, defaults_of, in_limits}
use Rattle.methods.specs.Methods.{method_of, candidate_of, verdict_of, judged_of}
use Rattle.entries.specs.Entries.{method_allowed}
use Rattle.parameters.specs.Parameters.{quantity_of}
use Rattle.fields.specs.declared.Field.{Field}
use Rattle.fields.specs.Fields.{owner_bit, owns, holds, field_at}
use Rattle.std.specs.Prelude.{Option, Some, None}
use Rattle.sensors.specs.Sensors.{fresh_parameter, fresh_parameters, fresh_setup}
use Rattle.sensors.specs.Changes.{new_procedure, restarted, calibrated_at}
use Rattle.sensors.specs.declared.Setup.{Setup}
use Rattle.commands.specs.Commands.{context, setup_after, updated, commanded}
use Rattle.writes.specs.Writes.{method_written, trial_at, point_at, with_float, float_written, field_written, write_of, device_written, write_to}
use Rattle.commands.specs.declared.Written.{Written}
use Rattle.commands.specs.declared.Written.TheVariants.{Refused, Failed, Stored, Updated, Technician}

abbrev write_row : Option Field → ℕ → Setup → ℕ → ℕ → Bool → Written
write_row (Some f) owner s high low spare = write_to owner s f high low (context 70000 spare 7)
write_row None owner s high low spare = Refused IllegalDataAddress

-- the field that a register begins, written at clock 70000 by technician 7
abbrev write : Setup → ℕ → ℕ → ℕ → Bool → Written
write s register high low spare = write_row (field_at register) (register / 100) s high low spare

-- the setup after a write
abbrev next : Setup → ℕ → ℕ → Setup
next s register high = setup_after s (write s register high 0 true)

-- what an update gives: its code; of one that failed the candidate, and of the entry sensor, method, technician,
-- time, coefficients and points; of the device the technician's number
abbrev told : Written → List ℕ
told (Refused code) = byte_of code ∷ []
told (Failed t) =
    0x97 ∷ to_bits binary32 t.procedure.trial.coefficient1 ∷ to_bits binary32 t.procedure.trial.coefficient2 ∷ to_bits binary32 t.procedure.trial.coefficient3 ∷ []
told (Stored t) = 0 ∷ []
told (Updated t e) =
    0 ∷ e.sensor ∷ e.method ∷ e.technician ∷ e.calibration.time
    ∷ to_bits binary32 e.calibration.coefficient1 ∷ to_bits binary32 e.calibration.coefficient2 ∷ to_bits binary32 e.calibration.coefficient3
    ∷ to_bits binary32 e.points.x1 ∷ to_bits binary32 e.points.y1 ∷ to_bits binary32 e.points.x2 ∷ to_bits binary32 e.points.y2 ∷ []
told (Technician n) = 0 ∷ n ∷ []

-- sensor 2 in mode, two points: (8, 9) and (0, 0)
abbrev two_points : Setup
two_points = next (next (next (next (fresh_setup 2) 205 0xE000) 206 2) 216 0x4100) 218 0x4110

-- sensor 1 in mode, one point: (8, 10), with a value left at x2
abbrev one_point : Setup
one_point = next (next (next (next (next (fresh_setup 1) 105 0xE000) 106 1) 120 0x4000) 116 0x4100) 118 0x4120

pub record Worked : Type 0 where
  -- points that the method doesn't use are +0.0 in the entry
  pub one_point_holds : told (write one_point 105 0xE001 0 true) ≡ 0 ∷ 1 ∷ 1 ∷ 7 ∷ 70000 ∷ 0 ∷ 0x3FA00000 ∷ 0 ∷ 0x41000000 ∷ 0x41200000 ∷ 0 ∷ 0 ∷ []
  -- a bad candidate goes before a full journal: y1 10 gives 1.25, 0x97, and is kept
  pub full_and_bad : told (write (next two_points 218 0x4120) 205 0xE001 0 false) ≡ 0x97 ∷ 0 ∷ 0x3FA00000 ∷ 0 ∷ []
  -- mode off goes before a value that isn't listed
  pub method_mode_off : told (write (fresh_setup 2) 206 9 0 true) ≡ 0x92 ∷ []
  -- the technician's number is any word, in either mode; 0xE001 is a number there too
  pub technician : told (write (fresh_setup 1) 9 0xE001 0 false) ≡ 0 ∷ 0xE001 ∷ []

-- by computation
pub worked : Worked
unfolding write_to device_written write_of field_written float_written with_float point_at trial_at method_written commanded updated field_at holds owns owner_bit restarted calibrated_at new_procedure fresh_parameter fresh_parameters fresh_setup method_allowed quantity_of method_of candidate_of verdict_of judged_of all_finite in_limits defaults_of near near_minus finite float_of is_plus_zero sub mul div round of_bits to_bits le eq
worked = record { one_point_holds = refl; full_and_bad = refl; method_mode_off = refl; technician = refl }
