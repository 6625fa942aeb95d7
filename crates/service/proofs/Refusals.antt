-- An update that is refused for its limits alone shows its candidate, and every other refusal by a code leaves the sonde, the counters aside. Assumes
-- nothing.
use mathlib.Core.Path.{◌≡◌, refl, sym, ap, ap₂, subst, ◌∙◌}
use mathlib.Core.Bool.{Bool, true, false, ◌&&◌, not, cond}
use mathlib.Core.List.{List, ◌∷◌}
use Prim.Native.Nat.{ℕ, zero, suc, ◌+◌, ◌*◌, ◌-◌, ◌/◌, ◌%◌, ◌<◌, ◌≤◌}
use native.Mathlib.Omega.{arith}
use lib.Dec.{eqb, ltb}
use lib.ListN.{length, get_or, take, drop, get_or-eq_default}
use lib.Seq.{drop-cons}
use borrow.Author.Tests.{eqb-true, eqb-false, not-true, ltb-true, ltb-false, eq-eqb, ne_eqb}
use Rattle.words.proofs.Stores.{overlay-start}
use Rattle.framing.specs.Framing.{Carried, body_of}
use Rattle.modbus.specs.Request.{header_of}
use Rattle.modbus.specs.declared.Value.{Value}
use Rattle.replies.specs.Reply.{read_body, reply_of}
use Rattle.floats.proofs.Bools.{both, no, choose}
use Rattle.coefficients.specs.Coefficients.{all_finite}
use Rattle.coefficients.specs.declared.Coefficients.{Coefficients}
use Rattle.methods.specs.Methods.{judged_of}
use Rattle.std.specs.Prelude.{Result, Ok, Err}
use Rattle.methods.specs.declared.Rejection.{Rejection}
use Rattle.methods.specs.declared.Rejection.TheVariants.{OutsideLimits, NotFinite, Undefined}
use Rattle.methods.proofs.Candidates.{outside_limits_holds, fails}
use Rattle.fields.specs.declared.Field.{Field}
use Rattle.journal.specs.Journal.{IsSensor}
use Rattle.journal.proofs.Tests.{replaced_at}
use Rattle.sensors.specs.Sensors.{valid_sensor}
use Rattle.sensors.specs.Changes.{with_trial, sensor_with_setup}
use Rattle.sensors.specs.declared.Setup.{Setup}
use Rattle.sensors.specs.declared.Sensor.{Sensor}
use Rattle.sensors.proofs.Setups.{valid_sensor_parts}
use Rattle.sensors.proofs.Changed.{with_trial_valid}
use Rattle.registers.specs.Registers.{shown_coefficients, coefficient_register, sensor_register, register_of}
use Rattle.registers.specs.declared.Device.{Device}
use Rattle.commands.specs.Commands.{context_of, method_set, tried_by, refused_update}
use Rattle.commands.specs.declared.Written.TheVariants.{Failed}
use Rattle.writes.proofs.Updates.{update_fails}
use Rattle.plans.specs.declared.Plan.{Plan}
use Rattle.plans.specs.declared.Plan.TheVariants.{Bad, Foreign, BroadcastRead, Refused, Reading, Writing}
use Rattle.state.specs.Sonde.{no_sensor, sensor_at, setup_at, with_sensor, with_setup, with_technician, counted_by, address_valid, valid_sonde}
use Rattle.state.specs.declared.Event.TheVariants.{Exception}
use Rattle.state.specs.declared.Sonde.{Sonde}
use Rattle.service.specs.Agrees.{openings, journal_agrees, agrees}
use Rattle.service.specs.Reads.{device_in, register_at, shown_from, reading_body}
use Rattle.service.specs.Frame.{first_word, second_word, Answer, answer, refusal_body, write_body, write_at, is_update, sonde_after, carried_out, code_by, answer_of, Outcome, left, frame_of, plan_to, arrival_number, carried, port_in}
use Rattle.service.specs.Framings.{sent_by}
use Rattle.service.specs.Refusals.{refused_leaves, refused_with, FailedUpdate, coefficient_words, CandidateShown, FailedUpdatesShown, OtherRefusalsKeep}
use Rattle.service.specs.declared.Arrival.{Arrival}
use Rattle.service.proofs.Owners.{sensor_write}
use Rattle.service.proofs.Kept.{with_setup_same, code_keeps}
use Rattle.service.proofs.Parts.{valid_sensors, valid_sonde_lem, frame_facts}

-- ---- reads

-- what is sent in reply to a read
read_sent : (d : Sonde) (frame reply w : List ℕ) (a : Arrival) (start n : ℕ) → agrees d w ≡ true → plan_to d.address frame a ≡ Reading start n
    → arrival_number a (length reply) ≡ 0 → sent_by (frame_of d frame reply w a) ≡ reply_of a.ascii (reading_body d w a start n)
unfolding frame_of answer_of left
read_sent d frame reply w a start n h p taken =
    rw (taken, h, p) (overlay-start reply (reply_of a.ascii (reading_body d w a start n)) _ refl)

-- registers that show the words of a list, read from the i-th on
shown_words : (f : ℕ → ℕ) (words : List ℕ) (r i n : ℕ) → ((j : ℕ) → j < length words → f (r + j) ≡ get_or words j 0) → i + n ≤ length words
    → shown_from f (r + i) n ≡ take n (drop i words)
shown_words f words r i zero h l = refl
shown_words f words r i (suc n) h l =
    let e : suc (r + i) ≡ r + suc i = omega arith in
    let next = shown_words f words r (suc i) n h (omega arith) in
    rw (drop-cons words i 0 (omega arith), h i (omega arith), e) (ap (λ (x : List ℕ). get_or words i 0 ∷ x) next)

-- ---- the sonde after a failed update of sensor s, whose candidate is c

module _ (d : Sonde) (s : ℕ) (k : IsSensor s) (c : Coefficients) (mode : (setup_at d s).procedure.calibrating ≡ true) where
  abbrev d' : Sonde
  d' = counted_by Exception (with_setup d s (with_trial (setup_at d s) c))

  abbrev tried : Sensor
  tried = sensor_with_setup (sensor_at d s) (with_trial (setup_at d s) c)

  -- a sensor past the end of the list isn't in mode
  in_list : s - 1 < length d.sensors
  unfolding setup_at sensor_at
  in_list = go (ltb (s - 1) (length d.sensors)) refl
    where
      go : (b : Bool) → ltb (s - 1) (length d.sensors) ≡ b → s - 1 < length d.sensors
      go true e = ltb-true (s - 1) (length d.sensors) e
      go false e =
          let past = get_or-eq_default d.sensors no_sensor {n = s - 1} (ltb-false (s - 1) (length d.sensors) e) in
          absurd (no (sym (ap (λ (x : Sensor). x.setup.procedure.calibrating) past) ∙ mode))

  sensor_after : (t : ℕ) → IsSensor t → sensor_at d' t ≡ cond (eqb t s) tried (sensor_at d t)
  unfolding counted_by with_setup with_sensor sensor_at
  sensor_after t j = replaced_at d.sensors s t _ no_sensor in_list k j

  own_after : sensor_at d' s ≡ tried
  own_after = sensor_after s k ∙ rw (eq-eqb s s refl)

  active_after : (t : ℕ) → IsSensor t → (setup_at d' t).active ≡ (setup_at d t).active
  unfolding setup_at sensor_with_setup
  active_after t j = ap (λ (x : Sensor). x.setup.active) (sensor_after t j) ∙ go (eqb t s) refl
    where
      go : (b : Bool) → eqb t s ≡ b
          → (cond b tried (sensor_at d t)).setup.active ≡ (sensor_at d t).setup.active
      go true e = rw (eqb-true t s e)
      go false e = refl

  own_valid : valid_sensor s (sensor_at d s) ≡ true → all_finite c ≡ true → valid_sensor s tried ≡ true
  unfolding valid_sensor sensor_with_setup setup_at
  own_valid h f = let p = valid_sensor_parts s (sensor_at d s) h in rw (with_trial_valid s (sensor_at d s).setup p.0 c f, p.1, p.2)

  valid_after : valid_sonde d ≡ true → all_finite c ≡ true → valid_sonde d' ≡ true
  unfolding counted_by with_setup with_sensor
  valid_after h f = valid_sonde_lem d' v.0 (λ t j. rw (sensor_after t j) (go t (eqb t s) refl (v.1 t j)))
    where
      v : (address_valid d.address ≡ true) × ((t : ℕ) → IsSensor t → valid_sensor t (sensor_at d t) ≡ true)
      v = valid_sensors d h

      go : (t : ℕ) (b : Bool) → eqb t s ≡ b → valid_sensor t (sensor_at d t) ≡ true
          → valid_sensor t (cond b tried (sensor_at d t)) ≡ true
      go t true e o = rw (eqb-true t s e) (own_valid (v.1 s k) f)
      go t false e o = o

  agrees_after : (w : List ℕ) → agrees d w ≡ true → all_finite c ≡ true → agrees d' w ≡ true
  unfolding agrees openings
  agrees_after w h f =
      let p = both (valid_sonde d) (journal_agrees (openings d) w) h in
      rw (
        valid_after p.0 f,
        active_after 1 (omega arith),
        active_after 2 (omega arith),
        active_after 3 (omega arith),
        active_after 4 (omega arith),
      )
      p.1

  -- the registers of the coefficients show the candidate
  coefficient_after : (j : ℕ) → j < 6 → sensor_register s (sensor_at d' s) (10 + j) ≡ get_or (coefficient_words c) j 0
  unfolding sensor_register coefficient_register shown_coefficients sensor_with_setup
  coefficient_after zero l = rw (own_after, mode)
  coefficient_after (suc zero) l = rw (own_after, mode)
  coefficient_after (suc (suc zero)) l = rw (own_after, mode)
  coefficient_after (suc (suc (suc zero))) l = rw (own_after, mode)
  coefficient_after (suc (suc (suc (suc zero)))) l = rw (own_after, mode)
  coefficient_after (suc (suc (suc (suc (suc zero))))) l = rw (own_after, mode)
  coefficient_after (suc (suc (suc (suc (suc (suc j)))))) l = absurd (omega arith)

  register_after : (v : Device) (j : ℕ) → j < 6 → register_at d' v (100 * s + 10 + j) ≡ get_or (coefficient_words c) j 0
  unfolding register_at register_of
  register_after v j l =
      let owner : (100 * s + 10 + j) / 100 ≡ s = omega arith in
      let offset : (100 * s + 10 + j) % 100 ≡ 10 + j = omega arith in
      rw (owner, offset, ne_eqb s 0 (omega arith)) (coefficient_after j l)

  address_after : d'.address ≡ d.address
  unfolding counted_by with_setup with_sensor
  address_after = refl

  -- so does a read of them
  read_after : (w frame reply : List ℕ) (a : Arrival) (i n : ℕ) → agrees d' w ≡ true → plan_to d.address frame a ≡ Reading (100 * s + 10 + i) n → i + n ≤ 6
      → arrival_number a (length reply) ≡ 0 → sent_by (frame_of d' frame reply w a) ≡ reply_of a.ascii (read_body d.address (take n (drop i (coefficient_words c))))
  unfolding reading_body
  read_after w frame reply a i n h p l taken =
      let v = device_in d' w a in
      let words = shown_words (register_at d' v) (coefficient_words c) (100 * s + 10) i n (register_after v) l in
      read_sent d' frame reply w a (100 * s + 10 + i) n h (ap (λ (own : ℕ). plan_to own frame a) address_after ∙ p) taken
      ∙ ap₂ (λ (own : ℕ) (x : List ℕ). reply_of a.ascii (read_body own x)) address_after words

-- ---- the claim

-- what a frame asks for is a failed update
write_fails : (d : Sonde) (frame w : List ℕ) (a : Arrival) (s : ℕ) (c : Coefficients) (u : FailedUpdate d frame a s c)
    → write_at d w a s u.field u.value ≡ Failed (with_trial (setup_at d s) c)
unfolding is_update setup_at
write_fails d frame w a s c u =
    let x = sensor_at d s in
    let high = first_word (sensor_register s x u.field.offset) u.value in
    let o = both (not (eqb s 0)) (eqb u.field.offset 5 && eqb high 0xE001) u.is_update_holds in
    let e = both (eqb u.field.offset 5) (eqb high 0xE001) o.1 in
    let n : s ≡ 0 → ⊥ = eqb-false s 0 (not-true (eqb s 0) o.0) in
    rw (sensor_write (device_in d w a) x u.field u.value s (omega arith), eqb-true high 0xE001 e.1)
    (update_fails s x.setup u.field (second_word u.value) (context_of (device_in d w a)) c (eqb-true u.field.offset 5 e.0) u.mode_on_holds
    (fails s (method_set x.setup) c u.candidate u.all_finite_holds u.outside))

module _ (d : Sonde) (frame reply w : List ℕ) (a : Arrival) (s : ℕ) (c : Coefficients) (h : agrees d w ≡ true) (taken : arrival_number a (length reply) ≡ 0)
    (u : FailedUpdate d frame a s c) where
  abbrev o : Outcome
  o = refused_with frame reply w a 0x97 (with_setup d s (with_trial (setup_at d s) c))

  frame_leaves : frame_of d frame reply w a ≡ o
  unfolding frame_of answer_of carried_out sonde_after write_body with_technician with_setup with_sensor
  frame_leaves = rw (taken, h, u.asks, write_fails d frame w a s c u)

  sensor : IsSensor s
  unfolding is_update
  sensor =
      let l = (rw u.asks at (frame_facts d.address (port_in a) (carried frame a))).located in
      let n : s ≡ 0 → ⊥ = eqb-false s 0 (not-true (eqb s 0) (both (not (eqb s 0)) _ u.is_update_holds).0) in
      (omega arith, l.owner_most)

  candidate_shown : CandidateShown d frame reply w a s c o
  unfolding left setup_at sensor_with_setup
  candidate_shown =
      record {
        leaves = refl;
        active = active_after d s sensor c u.mode_on_holds;
        volume = refl;
        replayed = λ t. refl;
        mode_on_holds = ap (λ (x : Sensor). x.setup.procedure.calibrating) (own_after d s sensor c u.mode_on_holds) ∙ u.mode_on_holds;
        shown = λ frame' reply' b i n. read_after d s sensor c u.mode_on_holds w frame' reply' b i n (agrees_after d s sensor c u.mode_on_holds w h u.all_finite_holds);
      }

pub failed_updates_shown : FailedUpdatesShown
failed_updates_shown d frame reply w a s c h taken u =
    subst (CandidateShown d frame reply w a s c) (sym (frame_leaves d frame reply w a s c h taken u)) (candidate_shown d frame reply w a s c h taken u)

-- ---- every other refusal

module _ (d : Sonde) (frame : List ℕ) (a : Arrival) (none : (s : ℕ) (c : Coefficients) → FailedUpdate d frame a s c → ⊥) where
  -- a refused update that hasn't failed leaves its setup
  update_keeps : (s : ℕ) (f : Field) (v : Value) → plan_to d.address frame a ≡ Writing s f v → is_update s (sensor_at d s) f v ≡ true
      → refused_update s (setup_at d s) ≡ setup_at d s
  unfolding refused_update
  update_keeps s f v p u = choose (λ (x : Setup). x ≡ setup_at d s) (setup_at d s).procedure.calibrating _ _ (λ m. judged m (judged_of s (method_set (setup_at d s))) refl) (λ m. refl)
    where
      judged : (setup_at d s).procedure.calibrating ≡ true → (y : Result Coefficients Rejection) → judged_of s (method_set (setup_at d s)) ≡ y → tried_by (setup_at d s) y ≡ setup_at d s
      judged m (Ok c) j = refl
      judged m (Err (OutsideLimits c)) j =
          let o = outside_limits_holds s (method_set (setup_at d s)) c j in
          absurd
          (none s c (record { field = f; value = v; asks = p; is_update_holds = u; mode_on_holds = m; candidate = o.made; all_finite_holds = o.all_finite_holds; outside = o.limits }))
      judged m (Err NotFinite) j = refl
      judged m (Err (Undefined cause)) j = refl

  plan_leaves : (p : Plan) → plan_to d.address frame a ≡ p → refused_leaves d p ≡ d
  plan_leaves Bad e = refl
  plan_leaves Foreign e = refl
  plan_leaves BroadcastRead e = refl
  plan_leaves (Refused code) e = refl
  plan_leaves (Reading start count) e = refl
  plan_leaves (Writing s f v) e =
      choose (λ (x : Sonde). x ≡ d) (is_update s (sensor_at d s) f v) _ _ (λ u. ap (with_setup d s) (update_keeps s f v e u) ∙ with_setup_same d s) (λ u. refl)

pub other_refusals_keep : OtherRefusalsKeep
unfolding frame_of answer_of
other_refusals_keep d frame reply w a h taken n none =
    rw (taken, h)
    (ap (λ (x : Answer). left x a.ascii reply)
    (code_keeps d (header_of (body_of c)) (body_of c) w a p n
    ∙ ap (λ (x : Sonde). answer Exception (refusal_body (header_of (body_of c)) (code_by d w a p)) x w) (plan_leaves d frame a none p refl)))
  where
    c : Carried
    c = carried frame a

    p : Plan
    p = plan_to d.address frame a
