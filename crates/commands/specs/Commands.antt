-- The commands of a calibration. One definition for the frame call and for the control book. Document 01, "Calibration", and the codes of
-- "What is sent back": 0x92, 0x84, 0x97, 0xC0 in that order. Assumes nothing.
use Rattle.std.specs.Prelude.{Bool, true, false, cond, List, [], ◌∷◌, Option, Some, None, Result, Ok, Err, ℕ, eqb, ltb}
use Rattle.refusals.specs.declared.codes.Code.{Code}
use Rattle.refusals.specs.declared.codes.Code.TheVariants.{SensorMode, WriteValue, InvalidCalibration, JournalFull}
use Rattle.methods.specs.Methods.{method_of, judged_of, code_by}
use Rattle.methods.specs.declared.Method.{Method}
use Rattle.coefficients.specs.declared.Coefficients.{Coefficients}
use Rattle.methods.specs.declared.Rejection.{Rejection}
use Rattle.methods.specs.declared.Rejection.TheVariants.{OutsideLimits, NotFinite, Undefined}
use Rattle.entries.specs.Entries.{entry_of}
use Rattle.entries.specs.declared.Entry.{Entry}
use Rattle.sensors.specs.Changes.{with_trial, restarted, calibrated_at}
use Rattle.sensors.specs.declared.Setup.{Setup}
use Rattle.registers.specs.declared.Device.{Device}
use Rattle.commands.specs.declared.Context.{Context}
use Rattle.commands.specs.declared.Written.{Written}
use Rattle.commands.specs.declared.Written.TheVariants.{Refused, Failed, Stored, Updated, Technician}

abbrev pub context : ℕ → Bool → ℕ → Context
context clock spare technician = record { clock = clock; spare = spare; technician = technician }

-- what an update takes from outside the setup, by the device's values: the clock, whether an entry is spare, since "in use = capacity" is 0xC0, and
-- the technician's number
abbrev pub context_of : Device → Context
context_of e = context e.clock (ltb e.used e.capacity) e.technician

-- ---- an answer

-- document 01's code for each answer, if it is a refusal
abbrev pub code_of : Written → Option Code
code_of (Refused code) = Some code
code_of (Failed t) = Some InvalidCalibration
code_of (Stored s) = None
code_of (Updated s e) = None
code_of (Technician n) = None

-- the setup that an answer leaves, s being the one before; demand 1: "a code changes only the message counters", with the one exception of
-- document 02, wish 2: "an update that is refused for its limits alone puts the candidate in the trial figures"
abbrev pub setup_after : Setup → Written → Setup
setup_after s (Refused code) = s
setup_after s (Failed t) = t
setup_after s (Stored t) = t
setup_after s (Updated t e) = t
setup_after s (Technician n) = s

-- the technician's number that it leaves, n being the one before
abbrev pub technician_after : ℕ → Written → ℕ
technician_after n (Refused code) = n
technician_after n (Failed t) = n
technician_after n (Stored t) = n
technician_after n (Updated t e) = n
technician_after n (Technician m) = m

-- the entries that it appends
abbrev pub entries_of : Written → List Entry
entries_of (Refused code) = []
entries_of (Failed t) = []
entries_of (Stored t) = []
entries_of (Updated t e) = e ∷ []
entries_of (Technician n) = []

-- ---- a command

-- the method of an update: its number, the trial coefficients and the points are the setup's
abbrev pub method_set : Setup → Method
method_set s = method_of s.procedure.method s.procedure.trial s.procedure.points

-- "A full journal is 0xC0. Else .. one entry is appended"; a candidate that isn't accepted is 0x97, before the journal's room is asked for. Document
-- 02, wish 2: one refused for its limits alone is kept, "Equal points and results that aren't finite still change nothing"
abbrev pub judged_update : ℕ → Setup → Context → Result Coefficients Rejection → Written
judged_update sensor s context (Ok c) =
    cond context.spare (Updated (calibrated_at s c context.clock) (entry_of sensor (method_set s) c context.clock context.technician)) (Refused JournalFull)
judged_update sensor s context (Err (OutsideLimits c)) = Failed (with_trial s c)
judged_update sensor s context (Err NotFinite) = Refused (code_by NotFinite)
judged_update sensor s context (Err (Undefined cause)) = Refused (code_by (Undefined cause))

-- "0xE001 (update): mode off is 0x92"
unfoldable pub updated : ℕ → Setup → Context → Written
updated sensor s context = cond s.procedure.calibrating (judged_update sensor s context (judged_of sensor (method_set s))) (Refused SensorMode)

-- "Command 0xE000, mode off: mode on ..; Mode on: accepted, nothing changes", "0xE002: mode off ..; Mode off already: accepted, nothing changes";
-- a value not listed is 0x84
unfoldable pub commanded : ℕ → Setup → ℕ → Context → Written
commanded sensor s value context =
    cond (eqb value 0xE000) (cond s.procedure.calibrating (Stored s) (Stored (restarted s true)))
    (cond (eqb value 0xE001) (updated sensor s context)
    (cond (eqb value 0xE002) (cond s.procedure.calibrating (Stored (restarted s false)) (Stored s))
    (Refused WriteValue)))

-- ---- an update that is refused

-- document 02, wish 2: "an update that is refused for its limits alone puts the candidate in the trial figures. Equal points and results that aren't
-- finite still change nothing"; nor does a full journal (0xC0)
abbrev pub tried_by : Setup → Result Coefficients Rejection → Setup
tried_by s (Ok c) = s
tried_by s (Err (OutsideLimits c)) = with_trial s c
tried_by s (Err NotFinite) = s
tried_by s (Err (Undefined cause)) = s

-- the setup that a refused update leaves; mode off (0x92) changes nothing
unfoldable pub refused_update : ℕ → Setup → Setup
refused_update sensor s = cond s.procedure.calibrating (tried_by s (judged_of sensor (method_set s))) s

-- ---- an accepted calibration

-- document 01: "An accepted calibration is a frame .. that writes 0xE001 to a command register and meets no refusal below": the entry of such an
-- update, none where mode is off (0x92), the candidate isn't accepted (0x97) or the journal is full (0xC0). Document 02, wish 3: it "carries the
-- number that stood when it was accepted"
abbrev pub accepted_by : ℕ → Setup → Context → Result Coefficients Rejection → List Entry
accepted_by sensor s context (Ok c) = cond context.spare (entry_of sensor (method_set s) c context.clock context.technician ∷ []) []
accepted_by sensor s context (Err (OutsideLimits c)) = []
accepted_by sensor s context (Err NotFinite) = []
accepted_by sensor s context (Err (Undefined cause)) = []

unfoldable pub accepted_update : ℕ → Setup → Context → List Entry
accepted_update sensor s context = cond s.procedure.calibrating (accepted_by sensor s context (judged_of sensor (method_set s))) []
