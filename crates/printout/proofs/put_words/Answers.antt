use borrow.Author.Rules.{rules}
use Rattle.printout.proofs.Words.{words_again, words_done}
use Rattle.printout.proofs.put_words.Goals as goal

pub loop-i-preserved : goal.loop-i-preserved
loop-i-preserved c =
    let a = c.args in
    (search rules, words_again c.loop-i.words a.bytes.now c.loop-i.i _ _ (search rules) c.join.ensures c.loop-i.invariant.1)

pub returns : goal.returns
returns c =
    let l = c.loop-i in
    let a = c.args in
    words_done l.words a.bytes.now l.i _ (search rules) l.invariant.1
