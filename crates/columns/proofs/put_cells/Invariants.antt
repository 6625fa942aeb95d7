-- `columns::put_cells`: the invariant says what is left: the column of the rest, stored over the buffer, gives the whole. Assumes nothing.
use mathlib.Core.Path.{◌≡◌}
use lib.ListN.{length}
use lib.Seq.{sets}
use Rattle.columns.specs.Columns.{last_or, cells}
use Rattle.columns.proofs.put_cells.Given as goal

abbrev pub invariant-loop-k : goal.invariant-loop-k
invariant-loop-k g l =
    (length l.buffer ≡ length l.initial.buffer)
    × (sets l.buffer l.at (cells g.row.BASE (last_or g.row.ZERO g.row.BASE) l.k l.rest)
    ≡ sets l.initial.buffer l.at (cells g.row.BASE (last_or g.row.ZERO g.row.BASE) l.width l.n))
