use borrow.Author.Rules.{rules}
use mathlib.Core.Path.{◌≡◌}
use native.Mathlib.Omega.{arith}
use lib.ListN.{length}
use lib.Seq.{take-length}
use Rattle.words.proofs.Stores.{byte_more}
use Rattle.replies.proofs.put_bytes.Goals as goal

pub loop-i-preserved : goal.loop-i-preserved
loop-i-preserved c =
    let a = c.args in
    let i = c.loop-i.i in
    (search rules, search rules, search rules, rw c.loop-i.invariant.3 (byte_more a.reply.now a.bytes.now i (search rules)))

pub returns : goal.returns
returns c =
    let e : c.loop-i.i ≡ length c.args.bytes.now = omega arith in
    rw (e, take-length) at c.loop-i.invariant.3
