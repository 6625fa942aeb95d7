-- What comes of a frame, from the parts of the sonde that the code hands on: its address, the values of the device, and the sensor that the plan
-- names. No reader has to believe these definitions: `steps_left` (frames/proofs/Steps) says that they leave what the definition of the frame call does.
-- Assumes nothing.
use Rattle.std.specs.Prelude.{Bool, List, [], Option, Some, None, ℕ, length}
use Rattle.ports.specs.declared.Port.{Port}
use Rattle.refusals.specs.Codes.{byte_of}
use Rattle.framing.specs.Framing.{Carried, body_of}
use Rattle.modbus.specs.Request.{header_of}
use Rattle.modbus.specs.declared.Header.{Header}
use Rattle.sensors.specs.declared.Setup.{Setup}
use Rattle.sensors.specs.declared.Sensor.{Sensor}
use Rattle.registers.specs.declared.Device.{Device}
use Rattle.plans.specs.declared.Plan.{Plan}
use Rattle.plans.specs.declared.Plan.TheVariants.{Bad, Foreign, BroadcastRead, Refused, Reading, Writing}
use Rattle.state.specs.Sonde.{with_setup}
use Rattle.state.specs.declared.Event.TheVariants.{Uncounted, Bad as CountedBad, Good, Exception}
use Rattle.state.specs.declared.Sonde.{Sonde}
use Rattle.replies.specs.Reply.{reply_of}
use Rattle.service.specs.Frame.{plan_for, refusal_body, written_by}
use Rattle.reads.specs.Steps.{owned_body}
use Rattle.execution.specs.Steps.{Step, step, write_step}
use Rattle.frames.specs.declared.Served.{Served}

-- what comes of a plan; own is the sonde's address, e has the device's values, s is the sensor that the plan names
abbrev pub step_of : ℕ → Device → Sensor → Header → List ℕ → List ℕ → Plan → Step
step_of own e s h body w Bad = step CountedBad [] None e.technician w
step_of own e s h body w Foreign = step Uncounted [] None e.technician w
step_of own e s h body w BroadcastRead = step Good [] None e.technician w
step_of own e s h body w (Refused code) = step Exception (refusal_body h (byte_of code)) None e.technician w
step_of own e s h body w (Reading start count) = step Good (owned_body own e s start count) None e.technician w
step_of own e s h body w (Writing owner f v) = write_step h body w e s (written_by owner e s f v)

-- of what a frame carries by a port
unfoldable pub step_for : ℕ → Port → Device → Sensor → Carried → List ℕ → Step
step_for own port e s x w = step_of own e s (header_of (body_of x)) (body_of x) w (plan_for own port x)

-- what the code hands on of it; the rest is in the lent slices
abbrev pub served_of : Bool → Step → Served
served_of ascii x = record { event = x.event; length = length (reply_of ascii x.body); change = x.change; technician = x.technician }

-- the sonde with a change of the sensor that was named
abbrev pub changed : Sonde → ℕ → Option Setup → Sonde
changed d s None = d
changed d s (Some x) = with_setup d s x
