-- Whom entries and sonde name has no part in what is refused. Document 02, wish 3: a technician's number is any of 0..65535, word 3 of an entry "no
-- longer has to be zero. Old volumes read as 0 there". Assumes nothing.
use Rattle.std.specs.Prelude.{◌≡◌, List, ℕ}
use Rattle.journal.specs.Journal.{IsSensor}
use Rattle.journal.specs.Valid.{EqualButTechnicians, valid}
use Rattle.journal.specs.Replay.{replay_of}
use Rattle.state.specs.Sonde.{with_technician}
use Rattle.state.specs.declared.Sonde.{Sonde}
use Rattle.service.specs.Agrees.{agrees}
use Rattle.service.specs.Calls.{power_up_of, audit_of}

-- of two volumes that differ at most in whom their entries name: both are valid or neither is, they replay alike, a power-up of either gives the same,
-- and number 4 is due beside both or neither, whatever number the sonde has
pub record Unjudged (w v : List ℕ) : Type 0 where
  pub validity : valid v ≡ valid w
  pub replay : (s : ℕ) → IsSensor s → replay_of v s ≡ replay_of w s
  pub power_up : (address : ℕ) → power_up_of address v ≡ power_up_of address w
  pub agreement : (d : Sonde) (n : ℕ) → agrees (with_technician d n) v ≡ agrees d w
  pub audit : (d : Sonde) (n : ℕ) → audit_of (with_technician d n) v ≡ audit_of d w

abbrev pub TechniciansUnjudged : Type 0
TechniciansUnjudged = (w v : List ℕ) → EqualButTechnicians w v → Unjudged w v
