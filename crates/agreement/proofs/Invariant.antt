-- What holds between calls of a sonde, its volume and the control book, and what follows from it: number 4 isn't due, and the books agree.
-- Assumes nothing.
use mathlib.Core.Path.{◌≡◌, refl, sym, ap, ◌∙◌}
use mathlib.Core.Bool.{true}
use mathlib.Core.List.{List, [], ◌∷◌}
use Prim.Native.Nat.{ℕ, zero, suc, ◌<◌}
use native.Mathlib.Nat.{zero-add}
use native.Mathlib.Omega.{arith}
use lib.ListN.{length, get_or}
use Rattle.floats.proofs.Bools.{both}
use Rattle.coefficients.specs.Coefficients.{same_calibration}
use Rattle.coefficients.proofs.Bits.{same_calibration_refl}
use Rattle.entries.specs.Entries.{valid_entry}
use Rattle.entries.specs.declared.Entry.{Entry}
use Rattle.entries.proofs.Entries.{entry_sensor}
use Rattle.journal.specs.Journal.{IsSensor, of_sensor, indices_from, latest, every}
use Rattle.journal.specs.Valid.{chain_of, valid}
use Rattle.journal.specs.Replay.{replay_of, replays}
use Rattle.journal.proofs.Tests.{sensor_cases, four_intro}
use Rattle.journal.proofs.Chains.{indices_ascend, indices_member, chain_ends}
use Rattle.journal.proofs.Holds.{Holds, holds_valid, holds_is, holds_used, holds_chain, holds_replay}
use Rattle.page.specs.Print.{print_of}
use Rattle.sensors.specs.declared.Setup.{Setup}
use Rattle.sensors.proofs.Setups.{active_parts}
use Rattle.state.specs.Sonde.{setup_at}
use Rattle.state.specs.declared.Sonde.{Sonde}
use Rattle.service.specs.Agrees.{openings, same_calibrations, journal_agrees, agrees}
use Rattle.service.specs.Calls.{audit_of}
use Rattle.agreement.specs.Model.{Model, setup_of}
use Rattle.agreement.specs.Runs.{State}
use Rattle.agreement.specs.Agreement.{Agree}
use Rattle.agreement.proofs.Sondes.{Matches, sonde_valid, setup_same, setup_valid}

-- the sonde matches the book, the volume holds the book's journal, and what the journal comes to is in force
pub record Invariant (x : State) (b : Model) : Type 0 where
  pub matches : Matches x.sonde b.address b.technician b.setups
  pub holds : Holds x.volume b.journal
  pub followed : (s : ℕ) → IsSensor s → latest s (of_sensor b.journal.opening s) b.journal.entries ≡ (setup_of b.setups s).active.calibration

-- the opening that a begin writes is the calibration in force
pub opening_at_lem : (d : Sonde) (s : ℕ) → IsSensor s → of_sensor (openings d) s ≡ (setup_at d s).active.calibration
unfolding openings
opening_at_lem d = sensor_cases (λ s. of_sensor (openings d) s ≡ (setup_at d s).active.calibration) refl refl refl refl

-- each of a list of valid entries is a sensor's
entry_at_lem : (es : List Entry) → every valid_entry es ≡ true → (k : ℕ) (e : Entry) → k < length es → IsSensor (get_or es k e).sensor
entry_at_lem [] v k e l = absurd (omega arith)
entry_at_lem (n ∷ es) v zero e l = entry_sensor n (both (valid_entry n) (every valid_entry es) v).0
entry_at_lem (n ∷ es) v (suc k) e l = entry_at_lem es (both (valid_entry n) (every valid_entry es) v).1 k e (omega arith)

module _ {x : State} {b : Model} (h : Invariant x b) where
  -- ---- number 4 isn't due

  -- the volume is valid
  pub volume_valid : valid x.volume ≡ true
  volume_valid = holds_valid x.volume b.journal h.holds

  -- its replay is what is in force
  pub replay_same : (s : ℕ) → IsSensor s → replay_of x.volume s ≡ (setup_at x.sonde s).active.calibration
  replay_same s k =
      holds_replay x.volume b.journal h.holds s k ∙ h.followed s k ∙ ap (λ (y : Setup). y.active.calibration) (sym (setup_same h.matches s k))

  -- so the sonde agrees with it
  pub agrees_with : agrees x.sonde x.volume ≡ true
  unfolding agrees journal_agrees same_calibrations replays
  agrees_with =
      rw (
        sonde_valid h.matches,
        volume_valid,
        four_intro (λ s. same_calibration (of_sensor (openings x.sonde) s) (replay_of x.volume s))
            (λ s k. rw (opening_at_lem x.sonde s k, replay_same s k) (same_calibration_refl (setup_at x.sonde s).active.calibration)),
      )

  -- ---- the books agree

  chain_is : (s : ℕ) → IsSensor s → chain_of x.volume s ≡ indices_from 0 s b.journal.entries
  chain_is = holds_chain x.volume b.journal h.holds

  -- all that demand 3 asks of the two after the last call
  pub agree : Agree x b
  unfolding audit_of print_of
  agree =
      record {
        free = h.holds.free;
        words = h.holds.words;
        chains = chain_is;
        once = λ s k. rw (chain_is s k) (indices_ascend 0 s b.journal.entries);
        own = λ i e l. (
          entry_at_lem b.journal.entries h.holds.well_formed.entries_valid i e l,
          λ s k. rw (chain_is s k) (rw zero-add at (indices_member 0 i s b.journal.entries e l)),
        );
        ends = λ s f k l. rw (chain_is s k, h.holds.words) (chain_ends b.journal h.holds.free s f k l);
        followed = h.followed;
        replayed = replay_same;
        bits = λ s k. rw (replay_same s k) (same_calibration_refl (setup_at x.sonde s).active.calibration);
        finite = λ s k. (active_parts s (setup_at x.sonde s) (setup_valid h.matches s k)).0;
        limits = λ s k. (active_parts s (setup_at x.sonde s) (setup_valid h.matches s k)).1;
        address = h.matches.address_is;
        technician = h.matches.technician_is;
        setups = setup_same h.matches;
        audited = rw (agrees_with, holds_used x.volume b.journal h.holds);
        printed = λ page. rw (volume_valid, holds_is x.volume b.journal h.holds);
      }
