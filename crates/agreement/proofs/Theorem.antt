-- Demand 3: no list of calls parts the journal from the figures in force. Assumes nothing.
use mathlib.Core.Path.{◌≡◌, refl}
use mathlib.Core.Bool.{true, not, ◌&&◌}
use mathlib.Core.List.{List, [], ◌∷◌}
use lib.Dec.{eqb}
use Rattle.journal.specs.Journal.{every}
use Rattle.agreement.specs.Model.{Model, model_start}
use Rattle.agreement.specs.Runs.{Call, State, run, numbers, model_run, after, model_after}
use Rattle.agreement.specs.Runs.Call.{Frame, Measure, PowerUp, Begin, Cut}
use Rattle.agreement.specs.Accepted.{accepted_from}
use Rattle.agreement.specs.Agreement.{JournalConsistency}
use Rattle.agreement.proofs.Invariant.{Invariant, agree}
use Rattle.agreement.proofs.Calls.{Keeps, measure_keeps, power_up_keeps, begin_keeps, start_invariant}
use Rattle.agreement.proofs.Frames.{frame_keeps}
use Rattle.agreement.proofs.Cuts.{cut_keeps}

-- each call
keeps : {x : State} {b : Model} → Invariant x b → (c : Call) → Keeps x b c
keeps h (Frame frame reply a) = frame_keeps h frame reply a
keeps h (Measure s present raw1 raw2) = measure_keeps h s present raw1 raw2
keeps h (PowerUp address) = power_up_keeps h address
keeps h (Begin w) = begin_keeps h w
keeps h (Cut frame reply a n address v) = cut_keeps h frame reply a n address v

-- and a list of them
run_invariant : {x : State} {b : Model} → Invariant x b → (calls : List Call) → Invariant (run x calls) (model_run b calls)
run_invariant h [] = h
run_invariant {x = x} {b = b} h (c ∷ cs) = run_invariant {x = after x c} {b = model_after b c} (keeps h c).invariant cs

run_never_refused : {x : State} {b : Model} → Invariant x b → (calls : List Call) → every (λ n. not (eqb n 4) && not (eqb n 8)) (numbers x calls) ≡ true
run_never_refused h [] = refl
run_never_refused {x = x} {b = b} h (c ∷ cs) = rw (keeps h c).never_refused (run_never_refused {x = after x c} {b = model_after b c} (keeps h c).invariant cs)

run_accepted : {x : State} {b : Model} → Invariant x b → (calls : List Call) → (model_run b calls).journal.entries ≡ accepted_from b.journal.entries x calls
run_accepted h [] = refl
run_accepted {x = x} {b = b} h (c ∷ cs) = rw (← (keeps h c).entries) (run_accepted {x = after x c} {b = model_after b c} (keeps h c).invariant cs)

-- after a fresh and a begin that aren't refused, whatever the calls and their arguments
pub agreement : JournalConsistency
unfolding model_start
agreement address words f g calls =
    let h = start_invariant address words f g in
    record { never_refused = run_never_refused h calls; agree = agree (run_invariant h calls); accepted = run_accepted h calls }
