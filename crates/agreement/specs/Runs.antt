-- Lists of calls, what they leave of the sonde and of the volume, and what the control book makes of the same arguments. Document 01, "Sonde
-- and calls" and "Control book"; document 02, wish 6: "Demand 3's lists may now hold a cut, then at once a salvage and a power-up that isn't refused".
-- Assumes nothing.
use Rattle.std.specs.Prelude.{◌≡◌, Bool, true, cond, List, [], ◌∷◌, ℕ, eqb, Float, length}
use Rattle.recovery.specs.Salvage.{Salvaged, salvage_of}
use Rattle.state.specs.Sonde.{address_valid}
use Rattle.state.specs.declared.Sonde.{Sonde}
use Rattle.service.specs.Calls.{fresh_of, begin_of, power_up_of, measure_of}
use Rattle.service.specs.Frame.{Outcome, frame_of, cut_of}
use Rattle.service.specs.declared.Arrival.{Arrival}
use Rattle.agreement.specs.Model.{Model, model_begin, model_power_up, model_frame, model_cut}

-- a call with its arguments: any values of their types, NaN, infinities and hostile words included
pub data Call : Type 0 where
  -- bytes, reply buffer, when and how it came
  Frame : List ℕ → List ℕ → Arrival → Call
  -- sensor, present, two raws
  Measure : ℕ → Bool → Float → Float → Call
  -- address
  PowerUp : ℕ → Call
  -- the words of a new volume
  Begin : List ℕ → Call
  -- a frame's bytes, reply buffer, when and how it came, how many stores of its append were made, then the address of the power-up, "that isn't
  -- refused": of 1..247. That the power-up isn't refused for the volume, and the salvage not at all, is the theorem's
  Cut : List ℕ → List ℕ → Arrival → ℕ → (address : ℕ) → address_valid address ≡ true → Call

-- ---- the sonde and its volume

pub record State : Type 0 where
  pub sonde : Sonde
  pub volume : List ℕ

abbrev pub state : Sonde → List ℕ → State
state d w = record { sonde = d; volume = w }

abbrev pub frame_in : State → List ℕ → List ℕ → Arrival → Outcome
frame_in x frame reply a = frame_of x.sonde frame reply x.volume a

-- the salvage after a cut: of what the first n stores of the frame's append leave; the sonde and the reply are lost
abbrev pub salvage_in : State → List ℕ → List ℕ → Arrival → ℕ → Salvaged
salvage_in x frame reply a n = salvage_of (cut_of x.sonde frame reply x.volume a n)

-- the number that a call gives; of a cut the salvage's and, where that is done, the power-up's
unfoldable pub number_of : State → Call → ℕ
number_of x (Frame frame reply a) = (frame_in x frame reply a).number
number_of x (Measure s present raw1 raw2) = (measure_of x.sonde s present raw1 raw2).number
number_of x (PowerUp address) = (power_up_of address x.volume).number
number_of x (Begin w) = (begin_of x.sonde w).number
number_of x (Cut frame reply a n address v) =
    cond (eqb (salvage_in x frame reply a n).number 0) (power_up_of address (salvage_in x frame reply a n).words).number (salvage_in x frame reply a n).number

-- what a call leaves: "The sonde goes in and comes back by value". A refused power-up "doesn't count as made: the sonde before it goes on", and
-- a new volume that is refused isn't taken.
unfoldable pub after : State → Call → State
after x (Frame frame reply a) = state (frame_in x frame reply a).sonde (frame_in x frame reply a).volume
after x (Measure s present raw1 raw2) = state (measure_of x.sonde s present raw1 raw2).sonde x.volume
after x (PowerUp address) = cond (eqb (power_up_of address x.volume).number 0) (state (power_up_of address x.volume).sonde x.volume) x
after x (Begin w) = cond (eqb (begin_of x.sonde w).number 0) (state (begin_of x.sonde w).sonde (begin_of x.sonde w).volume) x
after x (Cut frame reply a n address v) =
    state (power_up_of address (salvage_in x frame reply a n).words).sonde (salvage_in x frame reply a n).words

abbrev pub run : State → List Call → State
run x [] = x
run x (c ∷ cs) = run (after x c) cs

-- the numbers that the calls give, in order
abbrev pub numbers : State → List Call → List ℕ
numbers x [] = []
numbers x (c ∷ cs) = number_of x c ∷ numbers (after x c) cs

-- the first fresh and the first begin
unfoldable pub start : ℕ → List ℕ → State
start address w = state (begin_of (fresh_of address).sonde w).sonde (begin_of (fresh_of address).sonde w).volume

-- ---- the control book

-- "Measure: nothing"; "a begin gives its volume's length", a frame of its reply buffer the length; a cut the number of stores that were made
unfoldable pub model_after : Model → Call → Model
model_after b (Frame frame reply a) = model_frame b frame (length reply) a
model_after b (Measure s present raw1 raw2) = b
model_after b (PowerUp address) = model_power_up b address
model_after b (Begin w) = model_begin b (length w)
model_after b (Cut frame reply a n address v) = model_power_up (model_cut b frame (length reply) a n) address

abbrev pub model_run : Model → List Call → Model
model_run b [] = b
model_run b (c ∷ cs) = model_run (model_after b c) cs
