-- A frame judged, as the code hands it on. No reader has to believe these definitions: the plan is that of `plan_for`, and the numbers are those of
-- `frame_of` (service/specs/Frame), as `refused_left` and `passed` (sonde/proofs/Left) say. Assumes nothing.
use Rattle.std.specs.Prelude.{Bool, cond, List, Option, Some, None, Result, Ok, Err, ℕ, ◌/◌, ltb}
use Rattle.ports.specs.Ports.{port_of}
use Rattle.ports.specs.declared.Port.{Port}
use Rattle.refusals.specs.declared.numbers.Refusal.{Refusal}
use Rattle.refusals.specs.declared.numbers.Refusal.TheVariants.{ShortReply, Disagreement, NoPort}
use Rattle.framing.specs.Framing.{room_in}
use Rattle.framing.specs.Steps.{carried_by}
use Rattle.modbus.specs.Request.{header_of}
use Rattle.plans.specs.declared.Plan.{Plan}
use Rattle.plans.specs.declared.Plan.TheVariants.{Bad, Foreign, BroadcastRead, Refused, Reading, Writing}
use Rattle.service.specs.Frame.{plan_for}
use Rattle.admission.specs.declared.Judged.{Judged}

-- number 9, then number 3, by the room that the framing's replies need, then number 4; or the port
abbrev pub admitted_by : Bool → ℕ → Bool → Option Port → Result Port Refusal
admitted_by ascii room agreed None = Err NoPort
admitted_by ascii room agreed (Some port) = cond (ltb room (room_in ascii)) (Err ShortReply) (cond agreed (Ok port) (Err Disagreement))

unfoldable pub admitted : ℕ → Bool → ℕ → Bool → Result Port Refusal
admitted number ascii room agreed = admitted_by ascii room agreed (port_of number)

-- the owner that a plan names, 0 for the device or for none
abbrev pub owner_of : Plan → ℕ
owner_of Bad = 0
owner_of Foreign = 0
owner_of BroadcastRead = 0
owner_of (Refused code) = 0
owner_of (Reading start count) = start / 100
owner_of (Writing owner f v) = owner

-- the body of a frame judged by its port: what it asks for, with its header
abbrev pub judged_of : ℕ → Port → List ℕ → Judged
judged_of own port body = record { header = header_of body; plan = plan_for own port (carried_by body) }
