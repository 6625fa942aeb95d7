-- What comes of a frame as the code hands it on: how it counts, the reply's body, and what it changes of the sonde and of the volume. No reader
-- has to believe these definitions: `steps_left` (frames/proofs/Steps) says that they leave what the definition of the frame call does.
-- Assumes nothing.
use Rattle.std.specs.Prelude.{List, Option, Some, ℕ, length}
use Rattle.journal.specs.Stores.{appends_of}
use Rattle.sensors.specs.declared.Setup.{Setup}
use Rattle.sensors.specs.declared.Sensor.{Sensor}
use Rattle.registers.specs.declared.Device.{Device}
use Rattle.modbus.specs.declared.Header.{Header}
use Rattle.commands.specs.Commands.{code_of, setup_after, technician_after, entries_of}
use Rattle.commands.specs.declared.Written.{Written}
use Rattle.state.specs.declared.Event.{Event}
use Rattle.service.specs.Frame.{event_of, write_body}
use Rattle.execution.specs.declared.Effect.{Effect}

pub record Step : Type 0 where
  pub event : Event
  pub body : List ℕ
  pub change : Option Setup
  pub technician : ℕ
  pub volume : List ℕ

abbrev pub step : Event → List ℕ → Option Setup → ℕ → List ℕ → Step
step event body change technician w = record { event = event; body = body; change = change; technician = technician; volume = w }

-- what the code hands on of it; the rest is in the lent slices
abbrev pub effect_of : Step → Effect
effect_of x = record { event = x.event; size = length x.body; change = x.change; technician = x.technician }

-- a write's, by the values of the device and of the sensor that it names
abbrev pub write_step : Header → List ℕ → List ℕ → Device → Sensor → Written → Step
write_step h body w e s y =
    step (event_of (code_of y)) (write_body h body (code_of y)) (Some (setup_after s.setup y)) (technician_after e.technician y)
    (appends_of 27 w (entries_of y))
