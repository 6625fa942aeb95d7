-- What a body asks of a sonde, judged on its address, its port and the map of registers alone. One definition for the frame call and for the
-- control book. Document 01, "Frames" and the codes of "What is sent back" that need no value: 1, 3, 2, 0x80, 0xC2, in that order.
-- Assumes nothing.
use Rattle.std.specs.Prelude.{cond, List, Option, Some, None, Result, Ok, Err, ℕ, ◌/◌, eqb}
use Rattle.ports.specs.Ports.{limits}
use Rattle.ports.specs.declared.Port.{Port}
use Rattle.refusals.specs.declared.codes.Code.{Code}
use Rattle.refusals.specs.declared.codes.Code.TheVariants.{FieldMismatch, ReadOnly}
use Rattle.modbus.specs.Request.{request_of}
use Rattle.modbus.specs.declared.Header.{Header}
use Rattle.modbus.specs.declared.Value.{Value}
use Rattle.modbus.specs.declared.Request.{Request}
use Rattle.modbus.specs.declared.Request.TheVariants.{Read, Write}
use Rattle.fields.specs.Fields.{is_read_only, span_of}
use Rattle.fields.specs.declared.Field.{Field}
use Rattle.plans.specs.declared.Plan.{Plan}
use Rattle.plans.specs.declared.Plan.TheVariants.{Foreign, BroadcastRead, Refused, Reading, Writing}

-- "2: a register named is absent, or past 0xFFFF", then "0x80: a write isn't exactly one whole field", then "0xC2: read-only"
abbrev pub target_in : Result (Option Field) Code → Result Field Code
target_in (Err code) = Err code
target_in (Ok None) = Err FieldMismatch
target_in (Ok (Some f)) = cond (is_read_only f.access) (Err ReadOnly) (Ok f)

unfoldable pub target_of : ℕ → ℕ → Result Field Code
target_of start count = target_in (span_of start count)

-- a read may begin or end inside a field; none of its registers may be absent
abbrev pub read_plan_in : ℕ → ℕ → Result (Option Field) Code → Result Plan Code
read_plan_in start count (Err code) = Err code
read_plan_in start count (Ok x) = Ok (Reading start count)

unfoldable pub read_plan : ℕ → ℕ → Result Plan Code
read_plan start count = read_plan_in start count (span_of start count)

-- "Sensor s begins at 100 × s": the owner is the register's hundred, 0 for the device
abbrev pub write_plan_in : ℕ → Value → Result Field Code → Result Plan Code
write_plan_in start value (Err code) = Err code
write_plan_in start value (Ok f) = Ok (Writing (start / 100) f value)

unfoldable pub write_plan : ℕ → ℕ → Value → Result Plan Code
write_plan start count value = write_plan_in start value (target_of start count)

-- codes 1 and 3 are the request's own
abbrev pub request_plan : Result Request Code → Result Plan Code
request_plan (Err code) = Err code
request_plan (Ok (Read start count)) = read_plan start count
request_plan (Ok (Write start count value)) = write_plan start count value

abbrev pub plan_in : Result Plan Code → Plan
plan_in (Ok p) = p
plan_in (Err code) = Refused code

-- what the body of such a function asks; document 02, wish 7: "a radio read of more than 29 registers is code 3", which stands before code 2
abbrev pub judged_on : Port → Header → List ℕ → Plan
judged_on port h body = plan_in (request_plan (request_of (limits port).registers h.function body))

-- "Address 0 .. writes are carried out, function 3 counts good and nothing else happens", "another's address counts nothing"
unfoldable pub plan_of : ℕ → Port → Header → List ℕ → Plan
plan_of own port h body =
    cond (eqb h.address 0) (cond (eqb h.function 3) BroadcastRead (judged_on port h body))
    (cond (eqb h.address own) (judged_on port h body) Foreign)
