-- The state of a sonde: fresh, valid, and what changes in it. Document 01, "Sonde and calls", "The volume" ("A sonde is sound when ..") and
-- "Frames" (the counters). Assumes nothing.
use Rattle.std.specs.Prelude.{Bool, false, ◌&&◌, cond, List, [], ◌∷◌, ℕ, suc, ◌-◌, leb, ltb, Option, get_or, set}
use Rattle.std.specs.Float.{nan}
use Rattle.sensors.specs.Sensors.{fresh_sensor, fresh_sample, powered_setup, valid_sensor}
use Rattle.sensors.specs.Changes.{measured_sensor, sensor_with_setup}
use Rattle.sensors.specs.declared.Setup.{Setup}
use Rattle.sensors.specs.declared.Raws.{Raws}
use Rattle.sensors.specs.declared.Sensor.{Sensor}
use Rattle.coefficients.specs.declared.Calibration.{Calibration}
use Rattle.journal.specs.declared.Calibrations.{Calibrations}
use Rattle.state.specs.declared.Counters.{Counters}
use Rattle.state.specs.declared.Event.{Event}
use Rattle.state.specs.declared.Event.TheVariants.{Uncounted, Bad, Good, Exception}
use Rattle.state.specs.declared.Sonde.{Sonde}

-- ---- counters

abbrev pub counters : ℕ → ℕ → ℕ → Counters
counters good bad exceptions = record { good = good; bad = bad; exceptions = exceptions }

-- "counters stop at 65535"
unfoldable pub incremented : ℕ → ℕ
incremented n = cond (ltb n 65535) (suc n) 65535

unfoldable pub fresh_counters : Counters
fresh_counters = counters 0 0 0

-- "counts bad"; "another's address counts nothing"; "Others count good, and a refused one also as exception"
abbrev pub counted : Event → Counters → Counters
counted Uncounted c = c
counted Bad c = counters c.good (incremented c.bad) c.exceptions
counted Good c = counters (incremented c.good) c.bad c.exceptions
counted Exception c = counters (incremented c.good) c.bad (incremented c.exceptions)

-- ---- the sonde

abbrev pub sonde : ℕ → ℕ → List Sensor → Counters → Sonde
sonde address technician sensors c = record { address = address; technician = technician; sensors = sensors; counters = c }

-- "Fresh: modes off, figures, units and sentinels at their defaults, .. times and counters 0, never measured"; document 02, wish 3: the technician's
-- number, "where 0 means not given"
unfoldable pub fresh_sonde : ℕ → Sonde
fresh_sonde address = sonde address 0 (fresh_sensor 1 ∷ fresh_sensor 2 ∷ fresh_sensor 3 ∷ fresh_sensor 4 ∷ []) fresh_counters

-- "Power-up gives replayed figures and times, all else as fresh"
unfoldable pub powered_sensor : ℕ → Calibration → Sensor
powered_sensor s c = record { setup = powered_setup s c; sample = fresh_sample }

-- document 02, wish 3: "A power-up sets the register to 0"
unfoldable pub powered_sonde : ℕ → Calibrations → Sonde
powered_sonde address c =
    sonde address 0
    (powered_sensor 1 c.sensor1 ∷ powered_sensor 2 c.sensor2 ∷ powered_sensor 3 c.sensor3 ∷ powered_sensor 4 c.sensor4 ∷ [])
    fresh_counters

-- what the list holds past its end: never read, since a sonde has four sensors
abbrev pub no_sensor : Sensor
no_sensor =
    record {
      setup = record {
        procedure = record {
          calibrating = false;
          trial = record { coefficient1 = nan; coefficient2 = nan; coefficient3 = nan };
          method = 0;
          points = record { x1 = nan; y1 = nan; x2 = nan; y2 = nan };
        };
        active = record { calibration = record { coefficient1 = nan; coefficient2 = nan; coefficient3 = nan; time = 0 }; next = 0 };
        parameters = record {
          level = 0;
          parameter1 = record { units = 0; sentinel = nan };
          parameter2 = record { units = 0; sentinel = nan };
          parameter3 = record { units = 0; sentinel = nan };
        };
      };
      sample = record { present = false; raw1 = nan; raw2 = nan };
    }

-- sensor 1, 2, 3 or 4
unfoldable pub sensor_at : Sonde → ℕ → Sensor
sensor_at d s = get_or d.sensors (s - 1) no_sensor

unfoldable pub setup_at : Sonde → ℕ → Setup
setup_at d s = (sensor_at d s).setup

unfoldable pub with_sensor : Sonde → ℕ → Sensor → Sonde
with_sensor d s x = sonde d.address d.technician (set d.sensors (s - 1) x) d.counters

unfoldable pub with_setup : Sonde → ℕ → Setup → Sonde
with_setup d s x = with_sensor d s (sensor_with_setup (sensor_at d s) x)

unfoldable pub with_technician : Sonde → ℕ → Sonde
with_technician d n = sonde d.address n d.sensors d.counters

-- "Measure stores the raws that it reads"
unfoldable pub measured_at : Sonde → ℕ → Option Raws → Sonde
measured_at d s raws = with_sensor d s (measured_sensor (sensor_at d s) s raws)

unfoldable pub counted_by : Event → Sonde → Sonde
counted_by e d = sonde d.address d.technician d.sensors (counted e d.counters)

-- ---- valid; document 01's term is sound

-- "its address is 1..247"
unfoldable pub address_valid : ℕ → Bool
address_valid address = leb 1 address && leb address 247

-- "its floats are finite, every unit, method .. and level id is in the map, and figures in force are in limits": of each sensor
unfoldable pub valid_sonde : Sonde → Bool
valid_sonde d =
    address_valid d.address
    && valid_sensor 1 (sensor_at d 1)
    && valid_sensor 2 (sensor_at d 2)
    && valid_sensor 3 (sensor_at d 3)
    && valid_sensor 4 (sensor_at d 4)
