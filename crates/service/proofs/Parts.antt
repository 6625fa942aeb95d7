-- What is known of a valid sonde, of one that agrees with its volume, and of what a frame asks for. Assumes nothing.
use mathlib.Core.Path.{◌≡◌}
use mathlib.Core.Bool.{true, ◌&&◌}
use mathlib.Core.List.{List}
use Prim.Native.Nat.{ℕ}
use native.Mathlib.Omega.{arith}
use Rattle.floats.proofs.Bools.{both}
use Rattle.ports.specs.declared.Port.{Port}
use Rattle.framing.specs.Framing.{Carried, body_of}
use Rattle.framing.specs.Framing.Carried.{Bad, Body}
use Rattle.modbus.specs.Request.{header_of}
use Rattle.journal.specs.Journal.{IsSensor}
use Rattle.journal.specs.Valid.{valid}
use Rattle.journal.specs.Replay.{replays}
use Rattle.journal.proofs.Tests.{sensor_cases}
use Rattle.sensors.specs.Sensors.{valid_sensor}
use Rattle.plans.proofs.Plans.{Facts, plan_facts}
use Rattle.state.specs.Sonde.{sensor_at, address_valid, valid_sonde}
use Rattle.state.specs.declared.Sonde.{Sonde}
use Rattle.service.specs.Agrees.{openings, same_calibrations, journal_agrees, agrees}
use Rattle.service.specs.Frame.{plan_for}

-- a valid sonde: its address, and each of its sensors
pub valid_sensors : (d : Sonde) → valid_sonde d ≡ true → (address_valid d.address ≡ true) × ((s : ℕ) → IsSensor s → valid_sensor s (sensor_at d s) ≡ true)
unfolding valid_sonde
valid_sensors d h =
    let e = both (address_valid d.address && valid_sensor 1 (sensor_at d 1) && valid_sensor 2 (sensor_at d 2) && valid_sensor 3 (sensor_at d 3)) _ h in
    let c = both (address_valid d.address && valid_sensor 1 (sensor_at d 1) && valid_sensor 2 (sensor_at d 2)) _ e.0 in
    let b = both (address_valid d.address && valid_sensor 1 (sensor_at d 1)) _ c.0 in
    let a = both (address_valid d.address) _ b.0 in
    (a.0, sensor_cases (λ s. valid_sensor s (sensor_at d s) ≡ true) a.1 b.1 c.1 e.1)

pub valid_sonde_lem : (d : Sonde) → address_valid d.address ≡ true → ((s : ℕ) → IsSensor s → valid_sensor s (sensor_at d s) ≡ true) → valid_sonde d ≡ true
unfolding valid_sonde
valid_sonde_lem d a h = rw (a, h 1 (omega arith), h 2 (omega arith), h 3 (omega arith), h 4 (omega arith))

pub record Agrees (d : Sonde) (w : List ℕ) : Type 0 where
  pub sonde_valid : valid_sonde d ≡ true
  pub volume_valid : valid w ≡ true
  pub same : same_calibrations (openings d) (replays w) ≡ true

pub agrees_parts : (d : Sonde) (w : List ℕ) → agrees d w ≡ true → Agrees d w
unfolding agrees journal_agrees
agrees_parts d w h =
    let a = both (valid_sonde d) (journal_agrees (openings d) w) h in
    let b = both (valid w) (same_calibrations (openings d) (replays w)) a.1 in
    record { sonde_valid = a.0; volume_valid = b.0; same = b.1 }

-- whatever a frame asks for has the facts of its plan
pub frame_facts : (own : ℕ) (port : Port) (c : Carried) → Facts (body_of c) (plan_for own port c)
frame_facts own port Bad = tt
frame_facts own port (Body body) = plan_facts own port (header_of body) body
