-- Assumes nothing.
use Rattle.ascii.proofs.Judging.{enclosed_is}
use Rattle.ascii.proofs.frame.enclosed.Goals as goal

pub returns : goal.returns
returns c = rw (enclosed_is c.args.frame.now)
