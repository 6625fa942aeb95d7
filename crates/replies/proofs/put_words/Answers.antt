use borrow.Author.Rules.{rules}
use mathlib.Core.Path.{◌≡◌, refl}
use native.Mathlib.Omega.{arith}
use lib.ListN.{length}
use lib.Seq.{take-length}
use Rattle.words.specs.Bytes.{bytes_of}
use Rattle.replies.proofs.Stores.{word_more}
use Rattle.replies.proofs.put_words.Goals as goal

pub loop-i-init : goal.loop-i-init
unfolding bytes_of
loop-i-init c = (refl, omega arith, refl, refl)

pub loop-i-preserved : goal.loop-i-preserved
loop-i-preserved c =
    let a = c.args in
    let i = c.loop-i.i in
    (search rules, search rules, search rules, rw (c.high.ensures, c.low.ensures, c.loop-i.invariant.3) (word_more a.reply.now a.words.now i (search rules)))

pub returns : goal.returns
returns c =
    let e : c.loop-i.i ≡ length c.args.words.now = omega arith in
    rw (e, take-length) at c.loop-i.invariant.3
