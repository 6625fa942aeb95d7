-- Demand 3: no list of calls parts the journal from the figures in force. One claim about the whole list, against the control book.
-- Document 01, "Control book". Assumes nothing.
use Rattle.std.specs.Prelude.{◌≡◌, true, not, ◌&&◌, List, [], ◌++◌, ℕ, suc, ◌+◌, ◌≤◌, ◌<◌, eqb, length, get_or}
use Rattle.coefficients.specs.Coefficients.{all_finite, coefficients_of, in_limits, same_calibration}
use Rattle.entries.specs.declared.Entry.{Entry}
use Rattle.journal.specs.Journal.{IsSensor, of_sensor, indices_from, ascends, latest, every, on}
use Rattle.journal.specs.Layout.{layout}
use Rattle.journal.specs.Valid.{chain, chain_of, member}
use Rattle.journal.specs.Replay.{replay_of}
use Rattle.page.specs.Page.{page_of}
use Rattle.page.specs.Print.{printed_on, print_of}
use Rattle.state.specs.Sonde.{setup_at}
use Rattle.service.specs.Calls.{fresh_of, begin_of, audit_of}
use Rattle.agreement.specs.Model.{Model, setup_of, model_start}
use Rattle.agreement.specs.Runs.{Call, State, run, numbers, start, model_run}
use Rattle.agreement.specs.Accepted.{accepted_from}

-- what holds of a sonde and its volume beside the control book
pub record Agree (x : State) (b : Model) : Type 0 where
  -- "header and entries in use are the book's, laid out as above: indices count its entries from 1, and next, first and last follow from
  -- their order"; words beyond them are free
  pub free : List ℕ
  pub words : x.volume ≡ layout b.journal ++ free
  -- the chain of each sensor, followed by next words, is the indices of its entries in order
  pub chains : (s : ℕ) → IsSensor s → chain_of x.volume s ≡ indices_from 0 s b.journal.entries
  -- each entry stands once: no index comes twice on a chain,
  pub once : (s : ℕ) → IsSensor s → ascends 0 (chain_of x.volume s) ≡ true
  -- and the entry with index k + 1 is on the chain of its own sensor, which is 1, 2, 3 or 4, and on no other
  pub own : (k : ℕ) (e : Entry) → k < length b.journal.entries
      → IsSensor (get_or b.journal.entries k e).sensor
      × ((s : ℕ) → IsSensor s → member (suc k) (chain_of x.volume s) ≡ on s (get_or b.journal.entries k e))
  -- every chain ends: however many steps are allowed beyond the entries, no more are met
  pub ends : (s f : ℕ) → IsSensor s → length b.journal.entries ≤ f → chain f x.volume (get_or x.volume (3 + s) 0) ≡ chain_of x.volume s
  -- the opening followed by the chain gives the figures in force and the last calibration, the book's
  pub followed : (s : ℕ) → IsSensor s → latest s (of_sensor b.journal.opening s) b.journal.entries ≡ (setup_of b.setups s).active.calibration
  -- and the sonde's; so does replay of the volume's words
  pub replayed : (s : ℕ) → IsSensor s → replay_of x.volume s ≡ (setup_at x.sonde s).active.calibration
  -- bit for bit
  pub bits : (s : ℕ) → IsSensor s → same_calibration (setup_at x.sonde s).active.calibration (replay_of x.volume s) ≡ true
  -- these are finite and inside the sensor's limits
  pub finite : (s : ℕ) → IsSensor s → all_finite (coefficients_of (setup_at x.sonde s).active.calibration) ≡ true
  pub limits : (s : ℕ) → IsSensor s → in_limits s (coefficients_of (setup_at x.sonde s).active.calibration) ≡ true
  -- the sonde's address and every value that frames write are the book's
  pub address : x.sonde.address ≡ b.address
  pub technician : x.sonde.technician ≡ b.technician
  pub setups : (s : ℕ) → IsSensor s → setup_at x.sonde s ≡ setup_of b.setups s
  -- audit gives 0 and the number of entries
  pub audited : audit_of x.sonde x.volume ≡ record { number = 0; entries = length b.journal.entries }
  -- document 02, wish 4: what is printed is the book's page, its openings and entries in order, on any page that is lent
  pub printed : (page : List ℕ) → print_of x.volume page ≡ printed_on (page_of b.journal) page

-- what holds of any list of calls after a fresh and a begin
pub record Agreement (address : ℕ) (words : List ℕ) (calls : List Call) : Type 0 where
  -- "Number 4 isn't tried; no call in the list gives it", and no salvage gives 8: after any cut it succeeds
  pub never_refused : every (λ n. not (eqb n 4) && not (eqb n 8)) (numbers (start address words) calls) ≡ true
  -- after the list the sonde and its volume agree with the book
  pub agree : Agree (run (start address words) calls) (model_run (model_start address (length words)) calls)
  -- "The entries added are demand 3's accepted calibrations": all of them since the last begin, in order, and no others
  pub accepted : (model_run (model_start address (length words)) calls).journal.entries ≡ accepted_from [] (start address words) calls

-- Demand 3: "No list of calls parts the journal from the figures in force". The only assumptions are that the first fresh and the first begin
-- weren't refused; the arguments of all calls are any values.
abbrev pub JournalConsistency : Type 0
JournalConsistency =
    (address : ℕ) (words : List ℕ) → (fresh_of address).number ≡ 0 → (begin_of (fresh_of address).sonde words).number ≡ 0 → (calls : List Call)
    → Agreement address words calls
