-- The rows that the loop goes over are the table's from row offset / 2 on. Assumes nothing.
use Rattle.std.proofs.Common.{◌/◌, ◌%◌, Bool, sym, ◌∙◌, arith}
use native.Mathlib.Nat.{le_trans}
use Rattle.fields.specs.declared.Field.{Field}
use Rattle.fields.specs.Fields.{owns, holds, exactly}
use Rattle.fields.proofs.Runs.{reach, run_begins}
use Rattle.fields.proofs.Search.{hit, miss, more, row_shape, whole_begins}
use Rattle.fields.proofs.Spans.{span_whole}
use Rattle.lookup.specs.Steps.{reach_by}
use Rattle.lookup.proofs.Ends.{searched}
use Rattle.lookup.proofs.span.Goals as goal

pub loop-f-init : goal.loop-f-init
loop-f-init c =
    let a = c.args in
    rw (c.table-table.ensures, c.min-first.ensures, searched (a.start % 100 / 2)) (run_begins a.start, whole_begins a.start a.count)

pub returns-then-f-bit : goal.returns-then-f-bit
unfolding exactly owns
returns-then-f-bit c =
    let a = c.args in
    let t : Field → Bool = λ f. exactly f (a.start / 100) (a.start % 100) a.count in
    let rows = searched (a.start % 100 / 2) in
    let e = rw (c.table-table.ensures, c.min-first.ensures, rows, c.owner_bit-bit.ensures) at c.if-f-bit.true in
    let k = rw (c.table-table.ensures, c.min-first.ensures, rows) at c.loop-f.invariant.1 in
    let h = rw (c.table-table.ensures, c.min-first.ensures, rows) at c.loop-f-test.true in
    rw (c.table-table.ensures, c.min-first.ensures, rows) (sym (span_whole a.start a.count _ (k ∙ hit _ c.loop-f.f-index h t e)))

pub reach-at-requires : goal.reach-at-requires
reach-at-requires c =
    let first = c.args.start % 100 / 2 in
    let h = rw (c.table-table.ensures, c.min-first.ensures, searched first) at c.loop-f-test.true in
    rw (c.table-table.ensures, c.min-first.ensures, searched first) (le_trans (row_shape first c.loop-f.f-index h).ends (omega arith))

pub loop-f-preserved : goal.loop-f-preserved
unfolding exactly reach reach_by holds owns
loop-f-preserved c =
    let a = c.args in
    let t : Field → Bool = λ f. exactly f (a.start / 100) (a.start % 100) a.count in
    let i = c.loop-f.f-index in
    let rows = searched (a.start % 100 / 2) in
    let e = rw (c.table-table.ensures, c.min-first.ensures, rows, c.owner_bit-bit.ensures) at c.if-f-bit.false in
    let k = rw (c.table-table.ensures, c.min-first.ensures, rows) at c.loop-f.invariant in
    let h = rw (c.table-table.ensures, c.min-first.ensures, rows) at c.loop-f-test.true in
    let r = rw (c.table-table.ensures, c.min-first.ensures, rows, c.owner_bit-bit.ensures) at c.reach-at.ensures in
    rw (c.table-table.ensures, c.min-first.ensures, rows) (k.0 ∙ more _ i h (a.start / 100) c.loop-f.at ∙ rw r, k.1 ∙ miss _ i h t e)
