-- Number 4 doesn't look at whom entries and sonde name. Assumes nothing.
use mathlib.Core.Path.{◌≡◌}
use mathlib.Core.List.{List}
use Prim.Native.Nat.{ℕ}
use native.Mathlib.Omega.{arith}
use Rattle.journal.specs.Valid.{EqualButTechnicians}
use Rattle.journal.specs.Replay.{replays}
use Rattle.journal.proofs.Technicians.{used_same, valid_same, replay_same}
use Rattle.audit.specs.Audit.{replayed}
use Rattle.state.specs.Sonde.{sensor_at, setup_at, with_technician, valid_sonde}
use Rattle.state.specs.declared.Sonde.{Sonde}
use Rattle.service.specs.Agrees.{openings, journal_agrees, agrees}
use Rattle.service.specs.Calls.{power_up_of, audit_of}
use Rattle.service.specs.Technicians.{TechniciansUnjudged}

module _ (w v : List ℕ) (h : EqualButTechnicians w v) where
  replays_same : replays v ≡ replays w
  unfolding replays
  replays_same =
      rw (replay_same w v h 1 (omega arith), replay_same w v h 2 (omega arith), replay_same w v h 3 (omega arith), replay_same w v h 4 (omega arith))

  power_up_same : (address : ℕ) → power_up_of address v ≡ power_up_of address w
  unfolding power_up_of replayed
  power_up_same address = rw (valid_same w v h, replays_same)

  agrees_same : (d : Sonde) (n : ℕ) → agrees (with_technician d n) v ≡ agrees d w
  unfolding agrees journal_agrees openings valid_sonde setup_at sensor_at with_technician
  agrees_same d n = rw (valid_same w v h, replays_same)

  audit_same : (d : Sonde) (n : ℕ) → audit_of (with_technician d n) v ≡ audit_of d w
  unfolding audit_of
  audit_same d n = rw (agrees_same d n, used_same w v h)

pub technicians_unjudged : TechniciansUnjudged
technicians_unjudged w v h =
    record {
      validity = valid_same w v h;
      replay = replay_same w v h;
      power_up = power_up_same w v h;
      agreement = agrees_same w v h;
      audit = audit_same w v h;
    }
