-- A body with its LRC, spelt, between a colon and CR LF, is the body's frame. Assumes nothing.
use native.Mathlib.Omega.{arith}
use lib.ListN.{length-set}
use Rattle.ascii.proofs.Stores.{sealed}
use Rattle.ascii.proofs.frame.seal.Goals as goal

pub spell-requires : goal.spell-requires
spell-requires c = simp length-set (omega arith)

pub returns : goal.returns
returns c =
    let a = c.args in
    record {
      value = omega arith;
      buffer_after = rw c.spell.ensures (sealed a.buffer.now a.n c.lrc-sum.result c.lrc-sum.ensures (omega arith));
    }
