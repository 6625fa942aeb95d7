-- What the port of a frame has no part in, how long a reply by radio is, and what comes of a port that isn't there. Document 02, wish 7: "For RTU frames
-- books and figures don't depend on the port", "The bridge carries 64 bytes", and number 9. Assumes nothing.
use Rattle.std.specs.Prelude.{◌≡◌, false, List, Some, ℕ, ◌≤◌}
use Rattle.ports.specs.Ports.{port_of}
use Rattle.ports.specs.declared.Port.{Port}
use Rattle.state.specs.Sonde.{sonde, fresh_counters}
use Rattle.state.specs.declared.Sonde.{Sonde}
use Rattle.service.specs.Frame.{Outcome, outcome, refused_by, frame_of}
use Rattle.service.specs.declared.Arrival.{Arrival}

-- a sonde but for its counters
unfoldable pub uncounted : Sonde → Sonde
uncounted d = sonde d.address d.technician d.sensors fresh_counters

-- two RTU frames that came at the same time, each by a port that there is
pub record PortsApart (a b : Arrival) : Type 0 where
  pub clock : a.clock ≡ b.clock
  pub first_rtu : a.ascii ≡ false
  pub second_rtu : b.ascii ≡ false
  pub first : Port
  pub first_is : port_of a.port ≡ Some first
  pub second : Port
  pub second_is : port_of b.port ≡ Some second

-- two calls that did the same, counters and replies aside
pub record SameBooks (o r : Outcome) : Type 0 where
  pub number : o.number ≡ r.number
  pub sonde : uncounted o.sonde ≡ uncounted r.sonde
  pub volume : o.volume ≡ r.volume

-- for every RTU frame, of any length, whatever the sonde and its volume are, with any reply buffer; the counters of the two sondes may differ already
abbrev pub PortsAlike : Type 0
PortsAlike =
    (d e : Sonde) (frame reply w : List ℕ) (a b : Arrival) → uncounted d ≡ uncounted e → PortsApart a b
    → SameBooks (frame_of d frame reply w a) (frame_of e frame reply w b)

-- "The bridge carries 64 bytes": no reply by radio is longer
abbrev pub RadioReplies : Type 0
RadioReplies = (d : Sonde) (frame reply w : List ℕ) (a : Arrival) → a.port ≡ 2 → (frame_of d frame reply w a).size ≤ 64

-- "9, a port other than 1 or 2, tried before number 3": whatever the frame, the reply buffer, the sonde and the volume are; nothing changes
abbrev pub NoPortFirst : Type 0
NoPortFirst =
    (d : Sonde) (frame reply w : List ℕ) (a : Arrival) → (a.port ≡ 1 → ⊥) → (a.port ≡ 2 → ⊥) → frame_of d frame reply w a ≡ outcome (refused_by 9 d) reply w
