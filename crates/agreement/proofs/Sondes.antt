-- A sonde beside the book's address, technician and setups: valid, of the format and the same in every value that frames write. It stays so where a
-- sensor is measured, a setup or the technician's number is stored, a counter counts, and after a power-up; a fresh one is so. Assumes nothing.
use mathlib.Core.Path.{◌≡◌, refl}
use mathlib.Core.Bool.{Bool, true, false, ◌&&◌, cond}
use mathlib.Core.List.{List, [], ◌∷◌}
use Rattle.std.specs.Prelude.{Option, Some}
use Prim.Native.Nat.{ℕ, ◌-◌}
use native.Mathlib.Omega.{arith}
use lib.Dec.{eqb}
use lib.ListN.{length, get_or, set, length-set}
use lib.Seq.{set-get_or}
use borrow.Author.Tests.{eqb-true}
use Rattle.floats.specs.Floats.{finite}
use Rattle.floats.proofs.Bools.{both}
use Rattle.journal.specs.Journal.{IsSensor}
use Rattle.journal.specs.Replay.{replay_of, replays}
use Rattle.journal.proofs.Tests.{sensor_cases, replaced_at}
use Rattle.sensors.specs.Sensors.{fresh_setup, powered_setup, fresh_sensor, valid_setup, valid_sensor}
use Rattle.sensors.specs.Changes.{measured_sensor, sensor_with_setup}
use Rattle.sensors.specs.declared.Raws.{Raws}
use Rattle.sensors.specs.declared.Setup.{Setup}
use Rattle.sensors.specs.declared.Sensor.{Sensor}
use Rattle.sensors.proofs.Setups.{SetupFits, valid_setup_parts, valid_sensor_parts, powered_valid, powered_fits, fresh_fits, fresh_sensor-valid}
use Rattle.sensors.proofs.Changed.{measured_valid}
use Rattle.state.specs.Sonde.{sonde, fresh_sonde, powered_sensor, powered_sonde, no_sensor, sensor_at, setup_at, with_sensor, with_setup, with_technician, measured_at, counted_by, address_valid, valid_sonde}
use Rattle.state.specs.declared.Counters.{Counters}
use Rattle.state.specs.declared.Event.{Event}
use Rattle.state.specs.declared.Sonde.{Sonde}
use Rattle.service.specs.Calls.{raws_finite}
use Rattle.service.proofs.Parts.{valid_sonde_lem}
use Rattle.agreement.specs.Model.{setup_of, fresh_setups, powered_setups}

-- sensor s beside its setup in the book
pub record SensorMatches (s : ℕ) (x : Sensor) (y : Setup) : Type 0 where
  pub setup_is : x.setup ≡ y
  pub valid_sensor_holds : valid_sensor s x ≡ true
  pub fits : SetupFits x.setup

-- a sonde beside the book's address, technician and setups
pub record Matches (d : Sonde) (address technician : ℕ) (ys : List Setup) : Type 0 where
  pub address_is : d.address ≡ address
  pub technician_is : d.technician ≡ technician
  pub address_valid_holds : address_valid d.address ≡ true
  pub four_sensors : length d.sensors ≡ 4
  pub four_setups : length ys ≡ 4
  pub each : (s : ℕ) → IsSensor s → SensorMatches s (sensor_at d s) (setup_of ys s)

-- four sensors that match
of_four : {x1 x2 x3 x4 : Sensor} {y1 y2 y3 y4 : Setup} (address technician : ℕ) (c : Counters) → address_valid address ≡ true
    → SensorMatches 1 x1 y1 → SensorMatches 2 x2 y2 → SensorMatches 3 x3 y3 → SensorMatches 4 x4 y4
    → Matches (sonde address technician (x1 ∷ x2 ∷ x3 ∷ x4 ∷ []) c) address technician (y1 ∷ y2 ∷ y3 ∷ y4 ∷ [])
unfolding sensor_at setup_of
of_four {x1} {x2} {x3} {x4} {y1} {y2} {y3} {y4} address technician c v m1 m2 m3 m4 =
    record {
      address_is = refl;
      technician_is = refl;
      address_valid_holds = v;
      four_sensors = refl;
      four_setups = refl;
      each =
          sensor_cases (λ s. SensorMatches s (sensor_at (sonde address technician (x1 ∷ x2 ∷ x3 ∷ x4 ∷ []) c) s) (setup_of (y1 ∷ y2 ∷ y3 ∷ y4 ∷ []) s)) m1 m2 m3 m4;
    }

-- ---- one of four replaced

-- the setup with number t, where the one with number s was replaced
pub setup_replaced : (ys : List Setup) (s t : ℕ) (y : Setup) → length ys ≡ 4 → IsSensor s → IsSensor t
    → setup_of (set ys (s - 1) y) t ≡ cond (eqb t s) y (setup_of ys t)
unfolding setup_of
setup_replaced ys s t y n k j = replaced_at ys s t y no_sensor.setup (omega arith) k j

-- ---- measurements and calibrations

-- a measurement reads the second raw for sensor 1 only, and none where the sensor isn't present
raws_read : (s : ℕ) (raws : Option Raws) → raws_finite s raws ≡ true
    → ((r : Raws) → raws ≡ Some r → finite r.raw1 ≡ true) × ((r : Raws) → raws ≡ Some r → s ≡ 1 → finite r.raw2 ≡ true)
unfolding raws_finite
raws_read s raws f = (λ r p. go r (eqb s 1) (rw p at f), λ r p o. (both (finite r.raw1) (finite r.raw2) (rw (p, o) at f)).1)
  where
    go : (r : Raws) (b : Bool) → cond b (finite r.raw1 && finite r.raw2) (finite r.raw1) ≡ true → finite r.raw1 ≡ true
    go r true e = (both (finite r.raw1) (finite r.raw2) e).0
    go r false e = e

-- a sensor powered up with the calibration of a valid setup
powered_matches : (s : ℕ) → IsSensor s → (x : Setup) → valid_setup s x ≡ true → SetupFits x
    → SensorMatches s (powered_sensor s x.active.calibration) (powered_setup s x.active.calibration)
unfolding powered_sensor valid_sensor fresh_sensor
powered_matches s k x v f =
    let t = valid_sensor_parts s (fresh_sensor s) (fresh_sensor-valid s k.0 k.1) in
    record {
      setup_is = refl;
      valid_sensor_holds = rw (powered_valid s x.active.calibration k.0 k.1 (valid_setup_parts s x v).calibration_valid, t.1);
      fits = powered_fits s x.active.calibration f.fits_calibration;
    }

-- ---- a sonde that matches

module _ {d : Sonde} {address technician : ℕ} {ys : List Setup} (m : Matches d address technician ys) where
  -- it is valid
  pub sonde_valid : valid_sonde d ≡ true
  sonde_valid = valid_sonde_lem d m.address_valid_holds (λ s k. (m.each s k).valid_sensor_holds)

  -- its setups are the book's
  pub setup_same : (s : ℕ) → IsSensor s → setup_at d s ≡ setup_of ys s
  unfolding setup_at
  setup_same s k = (m.each s k).setup_is

  -- they are valid
  pub setup_valid : (s : ℕ) → IsSensor s → valid_setup s (setup_at d s) ≡ true
  unfolding setup_at
  setup_valid s k = (valid_sensor_parts s (sensor_at d s) (m.each s k).valid_sensor_holds).0

  -- and of the format
  pub setup_fits : (s : ℕ) → IsSensor s → SetupFits (setup_at d s)
  unfolding setup_at
  setup_fits s k = (m.each s k).fits

  -- the counters don't matter
  pub counted : (e : Event) → Matches (counted_by e d) address technician ys
  unfolding counted_by sensor_at
  counted e =
      record {
        address_is = m.address_is;
        technician_is = m.technician_is;
        address_valid_holds = m.address_valid_holds;
        four_sensors = m.four_sensors;
        four_setups = m.four_setups;
        each = m.each;
      }

  -- the technician's number stored
  pub with_technician_holds : (n : ℕ) → Matches (with_technician d n) address n ys
  unfolding with_technician sensor_at
  with_technician_holds n =
      record {
        address_is = m.address_is;
        technician_is = refl;
        address_valid_holds = m.address_valid_holds;
        four_sensors = m.four_sensors;
        four_setups = m.four_setups;
        each = m.each;
      }

  -- a sensor and its setup in the book replaced
  replaced : (s : ℕ) → IsSensor s → (v : Sensor) (y : Setup) → SensorMatches s v y → Matches (with_sensor d s v) address technician (set ys (s - 1) y)
  unfolding with_sensor sensor_at setup_of
  replaced s k v y n =
      record {
        address_is = m.address_is;
        technician_is = m.technician_is;
        address_valid_holds = m.address_valid_holds;
        four_sensors = simp length-set m.four_sensors;
        four_setups = simp length-set m.four_setups;
        each = λ t j.
            rw (
              replaced_at d.sensors s t v no_sensor (omega (arith, m.four_sensors)) k j,
              replaced_at ys s t y no_sensor.setup (omega (arith, m.four_setups)) k j,
            )
            (go t (eqb t s) refl (m.each t j));
      }
    where
      go : (t : ℕ) (b : Bool) → eqb t s ≡ b → SensorMatches t (get_or d.sensors (t - 1) no_sensor) (get_or ys (t - 1) no_sensor.setup)
          → SensorMatches t (cond b v (get_or d.sensors (t - 1) no_sensor)) (cond b y (get_or ys (t - 1) no_sensor.setup))
      go t true e o = rw (eqb-true t s e) n
      go t false e o = o

  -- a valid setup stored
  pub with_setup_holds : (s : ℕ) → IsSensor s → (y : Setup) → valid_setup s y ≡ true → SetupFits y → Matches (with_setup d s y) address technician (set ys (s - 1) y)
  unfolding with_setup sensor_with_setup valid_sensor
  with_setup_holds s k y v f =
      let t = valid_sensor_parts s (sensor_at d s) (m.each s k).valid_sensor_holds in
      replaced s k _ y (record { setup_is = refl; valid_sensor_holds = rw (v, t.1, t.2); fits = f })

  -- a measurement of finite raws
  pub measured : (s : ℕ) → IsSensor s → (raws : Option Raws) → raws_finite s raws ≡ true → Matches (measured_at d s raws) address technician ys
  unfolding measured_at measured_sensor setup_at setup_of
  measured s k raws f =
      rw (set-get_or ys (s - 1) no_sensor.setup) at
      (replaced s k _ (get_or ys (s - 1) no_sensor.setup)
      (record {
        setup_is = (m.each s k).setup_is;
        valid_sensor_holds = measured_valid s (sensor_at d s) raws (m.each s k).valid_sensor_holds read.0 read.1;
        fits = (m.each s k).fits;
      }))
    where
      read : ((r : Raws) → raws ≡ Some r → finite r.raw1 ≡ true) × ((r : Raws) → raws ≡ Some r → s ≡ 1 → finite r.raw2 ≡ true)
      read = raws_read s raws f

  -- a power-up from a volume whose replay is the calibrations in force
  pub powered_up : (a : ℕ) (w : List ℕ) → address_valid a ≡ true → ((s : ℕ) → IsSensor s → replay_of w s ≡ (setup_at d s).active.calibration)
      → Matches (powered_sonde a (replays w)) a 0 (powered_setups ys)
  unfolding replays powered_sonde powered_setups setup_of
  powered_up a w v r = of_four a 0 _ v (one 1 (omega arith)) (one 2 (omega arith)) (one 3 (omega arith)) (one 4 (omega arith))
    where
      one : (s : ℕ) → IsSensor s → SensorMatches s (powered_sensor s (replay_of w s)) (powered_setup s (get_or ys (s - 1) no_sensor.setup).active.calibration)
      one s k = rw (r s k, ← (setup_same s k)) (powered_matches s k (setup_at d s) (setup_valid s k) (setup_fits s k))

-- a fresh sonde matches fresh setups
pub fresh_matches : (address : ℕ) → address_valid address ≡ true → Matches (fresh_sonde address) address 0 fresh_setups
unfolding fresh_sonde fresh_setups fresh_sensor
fresh_matches address v = of_four address 0 _ v (one 1 (omega arith)) (one 2 (omega arith)) (one 3 (omega arith)) (one 4 (omega arith))
  where
    one : (s : ℕ) → IsSensor s → SensorMatches s (fresh_sensor s) (fresh_setup s)
    one s k = record { setup_is = refl; valid_sensor_holds = fresh_sensor-valid s k.0 k.1; fits = fresh_fits s }
