-- What a read shows, as a sonde and its volume are before the frame. Document 01, "Register map" and "Frames". Assumes nothing.
use Rattle.std.specs.Prelude.{List, [], ◌∷◌, ℕ, zero, suc, ◌/◌, ◌%◌, length, get_or}
use Rattle.replies.specs.Reply.{read_body}
use Rattle.journal.specs.Words.{capacity_of}
use Rattle.registers.specs.Registers.{register_of}
use Rattle.registers.specs.declared.Device.{Device}
use Rattle.state.specs.Sonde.{sensor_at}
use Rattle.state.specs.declared.Counters.{Counters}
use Rattle.state.specs.declared.Sonde.{Sonde}
use Rattle.service.specs.declared.Arrival.{Arrival}

-- the device's values: "a reply shows counters from before its frame"; the clock is the frame's, capacity and entries in use the volume's, the
-- technician's number n the sonde's
unfoldable pub device_of : Counters → ℕ → List ℕ → Arrival → Device
device_of c n w a =
    record {
      clock = a.clock;
      good = c.good;
      bad = c.bad;
      exceptions = c.exceptions;
      capacity = capacity_of (length w);
      used = get_or w 2 0;
      technician = n;
    }

abbrev pub device_in : Sonde → List ℕ → Arrival → Device
device_in d w a = device_of d.counters d.technician w a

-- "Sensor s begins at 100 × s": what register r shows
unfoldable pub register_at : Sonde → Device → ℕ → ℕ
register_at d v r = register_of (r / 100) v (sensor_at d (r / 100)) (r % 100)

-- what count registers from r on show, each by f
abbrev pub shown_from : (ℕ → ℕ) → ℕ → ℕ → List ℕ
shown_from f r zero = []
shown_from f r (suc n) = f r ∷ shown_from f (suc r) n

-- the body of the reply to a read
unfoldable pub reading_body : Sonde → List ℕ → Arrival → ℕ → ℕ → List ℕ
reading_body d w a start count = read_body d.address (shown_from (register_at d (device_in d w a)) start count)
