-- The control book: document 01's third book, which is fed the calls' arguments and neither the sonde nor any volume's words. Document 01,
-- "Control book". Assumes nothing.
use Rattle.std.specs.Prelude.{cond, List, [], ◌∷◌, ◌++◌, ℕ, ◌-◌, ltb, length, get_or, set, eqb}
use Rattle.modbus.specs.declared.Value.{Value}
use Rattle.entries.specs.declared.Entry.{Entry}
use Rattle.fields.specs.declared.Field.{Field}
use Rattle.journal.specs.declared.Calibrations.{Calibrations}
use Rattle.journal.specs.Journal.{Journal, by_sensor}
use Rattle.journal.specs.Stores.{new_journal}
use Rattle.sensors.specs.Sensors.{fresh_setup, powered_setup, fresh_sample}
use Rattle.sensors.specs.declared.Setup.{Setup}
use Rattle.registers.specs.declared.Device.{Device}
use Rattle.commands.specs.Commands.{setup_after, technician_after, entries_of}
use Rattle.commands.specs.declared.Written.{Written}
use Rattle.plans.specs.declared.Plan.{Plan}
use Rattle.plans.specs.declared.Plan.TheVariants.{Bad, Foreign, BroadcastRead, Refused, Reading, Writing}
use Rattle.state.specs.Sonde.{no_sensor, address_valid}
use Rattle.service.specs.Frame.{arrival_number, plan_to, written_by}
use Rattle.service.specs.declared.Arrival.{Arrival}

-- "It keeps the address; every value that frames write, trial figures, method and points among them; each sensor's mode, figures in force and
-- last calibration; capacity; opening; a list of entries": four setups, and the journal as a record of facts. Document 02, wish 3: the technician's
-- number is such a value
pub record Model : Type 0 where
  pub address : ℕ
  pub technician : ℕ
  pub setups : List Setup
  pub journal : Journal

abbrev pub model : ℕ → ℕ → List Setup → Journal → Model
model address technician setups j = record { address = address; technician = technician; setups = setups; journal = j }

-- the setup of sensor 1, 2, 3 or 4
unfoldable pub setup_of : List Setup → ℕ → Setup
setup_of xs s = get_or xs (s - 1) no_sensor.setup

-- "figures in force and last calibrations"
unfoldable pub actives : List Setup → Calibrations
actives xs = by_sensor (λ s. (setup_of xs s).active.calibration)

-- ---- begin

-- "Begin: opening := figures in force and last calibrations; capacity by the length; no entries". Number 2 refuses; "A refused call ..:
-- nothing"
unfoldable pub model_begin : Model → ℕ → Model
model_begin b words = cond (ltb words 88) b (model b.address b.technician b.setups (new_journal (actives b.setups) words))

unfoldable pub fresh_setups : List Setup
fresh_setups = fresh_setup 1 ∷ fresh_setup 2 ∷ fresh_setup 3 ∷ fresh_setup 4 ∷ []

-- "It starts as fresh, then takes the first begin"
unfoldable pub model_start : ℕ → ℕ → Model
model_start address words = model address 0 fresh_setups (new_journal (actives fresh_setups) words)

-- ---- power-up

-- "Power-up: the new address; figures in force, last calibrations, opening, capacity and entries stay; modes off, trial := in force, all else
-- as fresh". Number 1 refuses. Document 02, wish 3: "A power-up sets the register to 0"
unfoldable pub powered_setups : List Setup → List Setup
powered_setups xs =
    powered_setup 1 (setup_of xs 1).active.calibration
    ∷ powered_setup 2 (setup_of xs 2).active.calibration
    ∷ powered_setup 3 (setup_of xs 3).active.calibration
    ∷ powered_setup 4 (setup_of xs 4).active.calibration
    ∷ []

unfoldable pub model_power_up : Model → ℕ → Model
model_power_up b address = cond (address_valid address) (model address 0 (powered_setups b.setups) b.journal) b

-- ---- frame

-- the device's values in the book, its entries counted by its own list. The book counts no message: a field that a mask can write shows no counter
abbrev pub device_for : Model → Arrival → Device
device_for b a =
    record {
      clock = a.clock;
      good = 0;
      bad = 0;
      exceptions = 0;
      capacity = b.journal.capacity;
      used = length b.journal.entries;
      technician = b.technician;
    }

-- the field's write, "judged by this paper's rules on the book's own values". Old, for a mask, is what the book's device shows, or a sensor that was
-- never measured: a field that a mask can write shows the technician's number or a setup's word, and no measurement
unfoldable pub write_in : Model → Arrival → ℕ → Field → Value → Written
write_in b a o f v = written_by o (device_for b a) (record { setup = setup_of b.setups o; sample = fresh_sample }) f v

-- a journal with entries more, "at the end of the list"
abbrev pub extended : Journal → List Entry → Journal
extended j es = record { capacity = j.capacity; opening = j.opening; entries = j.entries ++ es }

-- "A write that meets no refusal is carried out on these, and an update adds its entry at the end of the list". One that is refused adds none and
-- leaves its sensor's setup; document 02, wish 2: the book follows "this one exception", so that an update refused for its limits alone puts the
-- candidate in the book's trial figures (`setup_after`). Document 02, wish 3: a write to register 9 gives the book its number (`technician_after`)
-- and leaves all setups, owner 0 being taken for the first, which is put back
abbrev pub kept : Model → ℕ → Written → Model
kept b o x =
    model b.address (technician_after b.technician x)
    (set b.setups (o - 1) (setup_after (setup_of b.setups o) x))
    (extended b.journal (entries_of x))

-- "a frame that is bad, another's or a read: nothing"; what a plan refuses is no update
abbrev pub model_planned : Model → Arrival → Plan → Model
model_planned b a Bad = b
model_planned b a Foreign = b
model_planned b a BroadcastRead = b
model_planned b a (Refused code) = b
model_planned b a (Reading start count) = b
model_planned b a (Writing o f v) = kept b o (write_in b a o f v)

-- of the reply buffer the length alone: number 9 refuses by the port, number 3 by the framing. "Number 4 isn't tried". Frames of either framing and by
-- either port are judged alike, but for what the port carries
unfoldable pub model_frame : Model → List ℕ → ℕ → Arrival → Model
model_frame b frame room a = cond (eqb (arrival_number a room) 0) (model_planned b a (plan_to b.address frame a)) b

-- ---- a cut

-- document 02, wish 6: "the cut update is an accepted calibration exactly when the count is new". The count is the last of an append's 27 stores. Of
-- all else that the frame writes, the power-up that follows leaves nothing
unfoldable pub model_cut : Model → List ℕ → ℕ → Arrival → ℕ → Model
model_cut b frame room a n = cond (ltb n 27) b (model_frame b frame room a)
