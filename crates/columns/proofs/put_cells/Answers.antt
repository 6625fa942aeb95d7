use borrow.Author.Rules.{rules}
use Rattle.columns.specs.Columns.{last_or}
use Rattle.columns.proofs.Stores.{cells_again, cells_done}
use Rattle.columns.proofs.put_cells.Goals as goal

pub loop-k-preserved : goal.loop-k-preserved
loop-k-preserved g c =
    let l = c.loop-k in
    (search rules, cells_again g.row.BASE (last_or g.row.ZERO g.row.BASE) l.k l.rest l.buffer _ _ _ (search rules) c.last_or.ensures l.invariant.1)

pub returns : goal.returns
returns g c =
    let l = c.loop-k in
    cells_done g.row.BASE (last_or g.row.ZERO g.row.BASE) l.k l.rest l.buffer _ _ (search rules) l.invariant.1
