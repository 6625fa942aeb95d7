-- From any row on, the pass ends where the whole one does, and the search finds what the whole one finds. Assumes nothing.
use mathlib.Core.Path.{◌≡◌}
use Prim.Native.Nat.{◌/◌, ◌%◌}
use lib.ListN.{drop}
use Rattle.fields.specs.Fields.{exactly, first_of, whole_field}
use Rattle.fields.proofs.Runs.{reached, run_end}
use Rattle.lookup.proofs.span.Given as goal

abbrev pub invariant-loop-f : goal.invariant-loop-f
invariant-loop-f l = (run_end l.start ≡ reached (drop l.f-index l.f-items) (l.start / 100) l.at)
    × (whole_field l.start l.count ≡ first_of (λ f. exactly f (l.start / 100) (l.start % 100) l.count) (drop l.f-index l.f-items))
