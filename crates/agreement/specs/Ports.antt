-- Lists of calls that differ only in the ports of RTU frames. Document 02, wish 7: "For RTU frames books and figures don't depend on the port". ASCII
-- frames and refused ports have no part in it, but may stand in both lists alike. Assumes nothing.
use Rattle.std.specs.Prelude.{◌≡◌, true, List, [], ◌∷◌, ℕ}
use Rattle.entries.specs.declared.Entry.{Entry}
use Rattle.state.specs.Sonde.{address_valid}
use Rattle.service.specs.Ports.{uncounted, PortsApart}
use Rattle.service.specs.declared.Arrival.{Arrival}
use Rattle.agreement.specs.Model.{Model}
use Rattle.agreement.specs.Runs.{Call, State, run, numbers, model_run}
use Rattle.agreement.specs.Runs.Call.{Frame, Cut}
use Rattle.agreement.specs.Accepted.{accepted_from}

-- two calls: the same, or an RTU frame by a port that there is and the same by another, cut or not
pub data Apart : Call → Call → Type 0 where
  Same : (c : Call) → Apart c c
  Frames : (frame reply : List ℕ) (a b : Arrival) → PortsApart a b → Apart (Frame frame reply a) (Frame frame reply b)
  Cuts : (frame reply : List ℕ) (a b : Arrival) (n address : ℕ) (v : address_valid address ≡ true) → PortsApart a b
      → Apart (Cut frame reply a n address v) (Cut frame reply b n address v)

-- and two lists of such calls, one beside the other
pub data ListsApart : List Call → List Call → Type 0 where
  End : ListsApart [] []
  Next : (c d : Call) (cs ds : List Call) → Apart c d → ListsApart cs ds → ListsApart (c ∷ cs) (d ∷ ds)

-- what is the same after both
pub record SameEnd (x : State) (b : Model) (es : List Entry) (cs ds : List Call) : Type 0 where
  -- the numbers of the calls,
  pub given : numbers x cs ≡ numbers x ds
  -- the sonde but for its counters: figures, modes, trials, raws and all else,
  pub sonde : uncounted (run x cs).sonde ≡ uncounted (run x ds).sonde
  -- the journal, every word of its volume,
  pub volume : (run x cs).volume ≡ (run x ds).volume
  -- the control book,
  pub book : model_run b cs ≡ model_run b ds
  -- and the accepted calibrations
  pub accepted : accepted_from es x cs ≡ accepted_from es x ds

-- whatever they begin with: any sonde and volume, any control book, and any calibrations accepted before
abbrev pub PortsAside : Type 0
PortsAside = (x : State) (b : Model) (es : List Entry) (cs ds : List Call) → ListsApart cs ds → SameEnd x b es cs ds
