-- The code's steps leave what the definition of the frame call says, and a reply's body is short enough for a frame. Assumes nothing.
use mathlib.Core.Path.{◌≡◌, refl}
use mathlib.Core.List.{List}
use Prim.Native.Nat.{ℕ, ◌/◌, ◌%◌, ◌≤◌}
use lib.Dec.{lit≤}
use lib.ListN.{length}
use Rattle.refusals.specs.Codes.{byte_of}
use Rattle.modbus.specs.declared.Header.{Header}
use Rattle.sensors.specs.declared.Sensor.{Sensor}
use Rattle.registers.specs.declared.Device.{Device}
use Rattle.registers.specs.Registers.{register_of}
use Rattle.plans.specs.declared.Plan.{Plan}
use Rattle.plans.specs.declared.Plan.TheVariants.{Bad, Foreign, BroadcastRead, Refused, Reading, Writing}
use Rattle.plans.proofs.Plans.{Facts}
use Rattle.state.specs.Sonde.{sensor_at, setup_at, with_technician}
use Rattle.state.specs.declared.Sonde.{Sonde}
use Rattle.service.specs.Reads.{device_of, device_in, shown_from, reading_body}
use Rattle.commands.specs.Commands.{code_of}
use Rattle.service.specs.Frame.{Answer, answer, written_by, sonde_after, carried_out, planned}
use Rattle.service.specs.declared.Arrival.{Arrival}
use Rattle.service.proofs.Bodies.{refusal_sized, write_sized, read_sized}
use Rattle.service.proofs.Registers.{shown_length, one_owner}
use Rattle.execution.specs.Steps.{Step}
use Rattle.admission.specs.Steps.{owner_of}
use Rattle.frames.specs.Steps.{step_of, changed}

-- what a step leaves of a sonde, s being the sensor that was named
abbrev pub leaves : Sonde → ℕ → Step → Answer
leaves d s x = answer x.event x.body (with_technician (changed d s x.change) x.technician) x.volume

-- is what the definition says
pub steps_left : (d : Sonde) (h : Header) (body w : List ℕ) (a : Arrival) (p : Plan) → Facts body p
    → leaves d (owner_of p) (step_of d.address (device_in d w a) (sensor_at d (owner_of p)) h body w p) ≡ planned d h body w a p
unfolding carried_out sonde_after setup_at reading_body device_of with_technician
steps_left d h body w a Bad f = refl
steps_left d h body w a Foreign f = refl
steps_left d h body w a BroadcastRead f = refl
steps_left d h body w a (Refused code) f = refl
steps_left d h body w a (Reading start count) f = rw (one_owner d (device_in d w a) start count f.block)
steps_left d h body w a (Writing o x v) f = refl

-- ---- the length of a body

-- the bodies of replies fit a frame
pub step_short : (h : Header) (body : List ℕ) (own : ℕ) (e : Device) (s : Sensor) (w : List ℕ) (p : Plan) → Facts body p → length body ≤ 254
    → length (step_of own e s h body w p).body ≤ 254
step_short h body own e s w Bad f l = lit≤ tt
step_short h body own e s w Foreign f l = lit≤ tt
step_short h body own e s w BroadcastRead f l = lit≤ tt
step_short h body own e s w (Refused code) f l = (refusal_sized 254 (lit≤ tt) h body (byte_of code)).most
step_short h body own e s w (Reading start count) f l =
    let r = register_of (start / 100) e s in
    (read_sized 254 own 125 (shown_from r (start % 100) count) (rw (shown_length r (start % 100) count) f.most) (lit≤ tt)).most
step_short h body own e s w (Writing o x v) f l = (write_sized 254 (lit≤ tt) h body (code_of (written_by o e s x v)) l f.long).most
