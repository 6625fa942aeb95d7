-- Accepted calibrations, told from the calls' arguments, the sonde before each call, how many were accepted since the last begin and the length
-- of the volume: no word of a volume is read, and nothing that a frame leaves goes into its entry. Document 01, "Calibration": "An accepted
-- calibration is a frame that counts good, own address or 0, that writes 0xE001 to a command register and meets no refusal below, whether or
-- not a reply is sent." Assumes nothing.
use Rattle.std.specs.Prelude.{cond, List, [], ◌∷◌, ◌++◌, ℕ, eqb, ltb, length}
use Rattle.entries.specs.declared.Entry.{Entry}
use Rattle.journal.specs.Words.{capacity_of}
use Rattle.commands.specs.Commands.{context, accepted_update}
use Rattle.commands.specs.declared.Context.{Context}
use Rattle.plans.specs.declared.Plan.{Plan}
use Rattle.plans.specs.declared.Plan.TheVariants.{Bad, Foreign, BroadcastRead, Refused, Reading, Writing}
use Rattle.state.specs.Sonde.{sensor_at, setup_at}
use Rattle.state.specs.declared.Sonde.{Sonde}
use Rattle.service.specs.Calls.{begin_of}
use Rattle.service.specs.Frame.{arrival_number, plan_to, is_update}
use Rattle.service.specs.declared.Arrival.{Arrival}
use Rattle.agreement.specs.Runs.{Call, State, after}
use Rattle.agreement.specs.Runs.Call.{Frame, Measure, PowerUp, Begin, Cut}

-- the entry of what a frame asks for, if it is accepted: 0xE001 to a command register, in mode, of an accepted candidate, with an entry spare. A
-- plan to write is of a frame that counts good, for the sonde's own address or 0.
abbrev pub accepted_in : Sonde → Context → Plan → List Entry
accepted_in d c Bad = []
accepted_in d c Foreign = []
accepted_in d c BroadcastRead = []
accepted_in d c (Refused code) = []
accepted_in d c (Reading start count) = []
accepted_in d c (Writing o f v) = cond (is_update o (sensor_at d o) f v) (accepted_update o (setup_at d o) c) []

-- what an update takes from outside the setup: an entry is spare where fewer were accepted than the volume's length has room for. Document 02, wish
-- 3: "every entry carries the number that stood when it was accepted", the technician's in the sonde before the call
abbrev pub context_after : List Entry → State → Arrival → Context
context_after es x a = context a.clock (ltb (length es) (capacity_of (length x.volume))) x.sonde.technician

-- with those of a frame. Numbers 9 and 3 refuse it by its port and its reply buffer's length; number 4 isn't asked for, since no call gives it. Document
-- 02, wish 1: "An ASCII update is an accepted calibration like any other", and so is one by radio
unfoldable pub noted_in : List Entry → State → List ℕ → List ℕ → Arrival → List Entry
noted_in es x frame reply a =
    cond (eqb (arrival_number a (length reply)) 0)
    (es ++ accepted_in x.sonde (context_after es x a) (plan_to x.sonde.address frame a))
    es

-- the accepted calibrations since the last begin, one call later. A begin that isn't refused starts anew. Document 02, wish 6: "the cut update is an
-- accepted calibration exactly when the count is new", by the last of 27 stores
unfoldable pub noted : List Entry → State → Call → List Entry
noted es x (Frame frame reply a) = noted_in es x frame reply a
noted es x (Measure s present raw1 raw2) = es
noted es x (PowerUp address) = es
noted es x (Begin w) = cond (eqb (begin_of x.sonde w).number 0) [] es
noted es x (Cut frame reply a n address v) = cond (ltb n 27) es (noted_in es x frame reply a)

-- and after a list of calls
abbrev pub accepted_from : List Entry → State → List Call → List Entry
accepted_from es x [] = es
accepted_from es x (c ∷ cs) = accepted_from (noted es x c) (after x c) cs
