-- A measure, a power-up and a begin keep the invariant and give neither number 4 nor 8, and the first fresh and begin bring it about.
-- Assumes nothing.
use mathlib.Core.Path.{◌≡◌, refl, sym, ap, ◌∙◌}
use mathlib.Core.Bool.{Bool, true, false, not, ◌&&◌}
use mathlib.Core.List.{List}
use Prim.Native.Nat.{ℕ, ◌≤◌}
use native.Mathlib.Omega.{arith}
use lib.Dec.{eqb, ltb}
use lib.Ieee.{Float, binary32, fits}
use lib.Ieee.Bits.{is_true}
use lib.ListN.{length}
use borrow.Author.Tests.{ltb-false, le-ltb}
use Rattle.floats.proofs.Bools.{no, choose}
use Rattle.coefficients.specs.Coefficients.{coefficients_of}
use Rattle.coefficients.specs.declared.Calibration.{Calibration}
use Rattle.coefficients.proofs.Bits.{CoefficientsFit}
use Rattle.entries.specs.Entries.{valid_calibration}
use Rattle.entries.proofs.Entries.{calibration_fits}
use Rattle.journal.specs.Journal.{Journal, IsSensor, of_sensor}
use Rattle.journal.specs.Stores.{begin_words, new_journal}
use Rattle.journal.proofs.Tests.{sensor_cases, four_intro}
use Rattle.journal.proofs.Holds.{begin_holds}
use Rattle.audit.specs.Audit.{replayed}
use Rattle.sensors.specs.Sensors.{powered_setup}
use Rattle.sensors.specs.Changes.{raws_of}
use Rattle.sensors.specs.declared.Setup.{Setup}
use Rattle.sensors.proofs.Setups.{valid_setup_parts}
use Rattle.state.specs.Sonde.{setup_at, address_valid, valid_sonde}
use Rattle.state.specs.declared.Sonde.{Sonde}
use Rattle.service.specs.Agrees.{openings}
use Rattle.service.specs.Calls.{rejected, fresh_of, Begun, begin_of, raws_finite, measure_of, power_up_of}
use Rattle.service.specs.declared.SondeMade.{SondeMade}
use Rattle.agreement.specs.Model.{Model, model, setup_of, actives, model_start, model_begin, powered_setups, model_power_up}
use Rattle.agreement.specs.Runs.{Call, State, state, number_of, after, start, model_after}
use Rattle.agreement.specs.Runs.Call.{Measure, PowerUp, Begin}
use Rattle.agreement.specs.Accepted.{noted}
use Rattle.agreement.proofs.Sondes.{Matches, sonde_valid, setup_same, setup_valid, setup_fits, measured, powered_up, fresh_matches}
use Rattle.agreement.proofs.Invariant.{Invariant, opening_at_lem, volume_valid, replay_same}

-- a call gives neither number 4 nor 8, keeps the invariant, and the book's entries are those that were noted
pub record Keeps (x : State) (b : Model) (c : Call) : Type 0 where
  pub never_refused : not (eqb (number_of x c) 4) && not (eqb (number_of x c) 8) ≡ true
  pub invariant : Invariant (after x c) (model_after b c)
  pub entries : (model_after b c).journal.entries ≡ noted b.journal.entries x c

-- ---- measure

-- "Measure: nothing", whatever the sensor and the raws
pub measure_keeps : {x : State} {b : Model} → Invariant x b → (s : ℕ) (present : Bool) (raw1 raw2 : Float) → Keeps x b (Measure s present raw1 raw2)
unfolding number_of after model_after noted measure_of
measure_keeps {x} {b} h s present raw1 raw2 = record { never_refused = go.0; invariant = go.1; entries = refl }
  where
    P : SondeMade → Type 0
    P r = (not (eqb r.number 4) && not (eqb r.number 8) ≡ true) × Invariant (state r.sonde x.volume) b

    go : P (measure_of x.sonde s present raw1 raw2)
    go =
        choose P (valid_sonde x.sonde) _ _
        (λ v. choose P (ltb s 1) _ _ (λ l. (refl, h))
        (λ l. choose P (ltb 4 s) _ _ (λ g. (refl, h))
        (λ g. choose P (raws_finite s (raws_of present raw1 raw2)) _ _
        (λ f. (refl, record { matches = measured h.matches s (ltb-false s 1 l, ltb-false 4 s g) (raws_of present raw1 raw2) f; holds = h.holds; followed = h.followed }))
        (λ f. (refl, h)))))
        (λ v. absurd (no (sym v ∙ sonde_valid h.matches)))

-- ---- power-up

-- a power-up leaves what is in force
setup_powered : (ys : List Setup) (s : ℕ) → IsSensor s → (setup_of (powered_setups ys) s).active.calibration ≡ (setup_of ys s).active.calibration
unfolding powered_setups setup_of powered_setup
setup_powered ys = sensor_cases (λ s. (setup_of (powered_setups ys) s).active.calibration ≡ (setup_of ys s).active.calibration) refl refl refl refl

-- the calibrations that the volume gives are the book's, so that one with a fit address isn't refused
pub power_up_done : {x : State} {b : Model} → Invariant x b → (address : ℕ) → address_valid address ≡ true
    → ((power_up_of address x.volume).number ≡ 0) × Invariant (state (power_up_of address x.volume).sonde x.volume) (model_power_up b address)
unfolding power_up_of replayed rejected model_power_up
power_up_done {x} {b} h address v = (
  rw (v, volume_valid h),
  rw (v, volume_valid h)
      (record {
        matches = powered_up h.matches address x.volume v (replay_same h);
        holds = h.holds;
        followed = λ s k. h.followed s k ∙ sym (setup_powered b.setups s k);
      }),
)

-- the book's journal stays
pub power_up_journal : (b : Model) (address : ℕ) → (model_power_up b address).journal ≡ b.journal
unfolding model_power_up
power_up_journal b address = choose (λ (c : Model). c.journal ≡ b.journal) (address_valid address) _ _ (λ v. refl) (λ v. refl)

-- a power-up with an unfit address
power_up_refused : (w : List ℕ) (b : Model) (address : ℕ) → address_valid address ≡ false → ((power_up_of address w).number ≡ 1) × (model_power_up b address ≡ b)
unfolding power_up_of rejected model_power_up
power_up_refused w b address v = (rw v, rw v)

-- whatever the address
pub power_up_keeps : {x : State} {b : Model} → Invariant x b → (address : ℕ) → Keeps x b (PowerUp address)
unfolding number_of after model_after noted
power_up_keeps {x} {b} h address = go (address_valid address) refl
  where
    go : (v : Bool) → address_valid address ≡ v → Keeps x b (PowerUp address)
    go true v =
        let p = power_up_done h address v in
        record { never_refused = rw (number_of, p.0); invariant = rw p.0 p.1; entries = ap (λ (j : Journal). j.entries) (power_up_journal b address) }
    go false v =
        let p = power_up_refused x.volume b address v in
        record { never_refused = rw (number_of, p.0); invariant = rw (p.0, p.1) h; entries = ap (λ (j : Journal). j.entries) (power_up_journal b address) }

-- ---- begin

-- coefficients of the format, as one test
all_fit : (c : Calibration) → CoefficientsFit (coefficients_of c) → calibration_fits c ≡ true
unfolding calibration_fits
all_fit c f =
    rw (is_true (fits binary32 c.coefficient1) f.fits_coefficient1, is_true (fits binary32 c.coefficient2) f.fits_coefficient2, is_true (fits binary32 c.coefficient3) f.fits_coefficient3)

-- a sonde that matches, with a volume just begun
begin_invariant : {d : Sonde} {address technician : ℕ} {ys : List Setup} → Matches d address technician ys → (w : List ℕ) → 88 ≤ length w
    → Invariant (state d (begin_words w (openings d))) (model address technician ys (new_journal (actives ys) (length w)))
unfolding valid_calibration openings actives
begin_invariant {d} {address} {technician} {ys} m w l =
    rw (← same)
    (record {
      matches = m;
      holds =
          begin_holds w (openings d) l (four_intro (λ s. valid_calibration s (of_sensor (openings d) s)) opens)
          (four_intro (λ s. calibration_fits (of_sensor (openings d) s)) fit);
      followed = λ s k. opening_at_lem d s k ∙ ap (λ (y : Setup). y.active.calibration) (setup_same m s k);
    })
  where
    same : openings d ≡ actives ys
    same = rw (setup_same m 1 (omega arith), setup_same m 2 (omega arith), setup_same m 3 (omega arith), setup_same m 4 (omega arith))

    opens : (s : ℕ) → IsSensor s → valid_calibration s (of_sensor (openings d) s) ≡ true
    opens s k = rw (opening_at_lem d s k) (valid_setup_parts s (setup_at d s) (setup_valid m s k)).calibration_valid

    fit : (s : ℕ) → IsSensor s → calibration_fits (of_sensor (openings d) s) ≡ true
    fit s k = rw (opening_at_lem d s k) (all_fit (setup_at d s).active.calibration (setup_fits m s k).fits_calibration)

-- a volume that is too short isn't taken
pub begin_keeps : {x : State} {b : Model} → Invariant x b → (w : List ℕ) → Keeps x b (Begin w)
unfolding number_of after model_after noted begin_of model_begin
begin_keeps {x} {b} h w = go (ltb (length w) 88) refl
  where
    go : (l : Bool) → ltb (length w) 88 ≡ l → Keeps x b (Begin w)
    go true l = record { never_refused = rw (number_of, l); invariant = rw l h; entries = rw l }
    go false l =
        record {
          never_refused = rw (number_of, l, sonde_valid h.matches);
          invariant = rw (l, sonde_valid h.matches) (begin_invariant h.matches w (ltb-false (length w) 88 l));
          entries = rw (l, sonde_valid h.matches);
        }

-- ---- the first fresh and begin

-- what it says that neither is refused
fresh_made : (address : ℕ) → (fresh_of address).number ≡ 0 → address_valid address ≡ true
unfolding fresh_of rejected
fresh_made address = choose (λ (r : SondeMade). r.number ≡ 0 → address_valid address ≡ true) (address_valid address) _ _ (λ v e. v) (λ v e. absurd (omega arith))

begin_made : (d : Sonde) (w : List ℕ) → (begin_of d w).number ≡ 0 → 88 ≤ length w
unfolding begin_of
begin_made d w = choose (λ (r : Begun). r.number ≡ 0 → 88 ≤ length w) (ltb (length w) 88) _ _ (λ l e. absurd (omega arith)) (λ l e. ltb-false (length w) 88 l)

-- they bring the invariant about
pub start_invariant : (address : ℕ) (w : List ℕ) → (fresh_of address).number ≡ 0 → (begin_of (fresh_of address).sonde w).number ≡ 0
    → Invariant (start address w) (model_start address (length w))
unfolding fresh_of begin_of start model_start
start_invariant address w f g =
    let v = fresh_made address f in
    let m = fresh_matches address v in
    let l = begin_made (fresh_of address).sonde w g in
    rw (v, le-ltb (length w) 88 l, sonde_valid m) (begin_invariant m w l)
