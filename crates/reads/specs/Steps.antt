-- The body of the reply to a read as the code works it out: all registers have one owner, whose values are at hand. No reader has to believe
-- it: `one_owner` (service/proofs/Registers) says that this is what the definition shows. Assumes nothing.
use Rattle.std.specs.Prelude.{List, ℕ, ◌/◌, ◌%◌}
use Rattle.replies.specs.Reply.{read_body}
use Rattle.registers.specs.Registers.{register_of}
use Rattle.registers.specs.declared.Device.{Device}
use Rattle.sensors.specs.declared.Sensor.{Sensor}
use Rattle.service.specs.Reads.{shown_from}

abbrev pub owned_body : ℕ → Device → Sensor → ℕ → ℕ → List ℕ
owned_body address e s start count = read_body address (shown_from (register_of (start / 100) e s) (start % 100) count)
