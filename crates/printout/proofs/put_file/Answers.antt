-- `printout::put_file`: the words that are printed are those that were stored. Assumes nothing.
use mathlib.Core.Path.{refl, ap, ◌∙◌}
use Prim.Native.Nat.{◌/◌}
use native.Mathlib.Omega.{arith}
use lib.ListN.{length, take}
use Rattle.printout.proofs.Left.{file_refused, file_printed}
use Rattle.printout.proofs.Words.{words_stored}
use borrow.Author.Rules.{rules}
use Rattle.printout.proofs.put_file.Goals as goal

pub returns-clause-refused : goal.returns-clause-refused
returns-clause-refused c =
    let a = c.args in
    let b = a.bytes.now in
    let w = ap (take (length b / 2)) c.put_words.ensures ∙ words_stored a.words.now b (length b / 2) refl (omega arith) in
    file_refused b _ a.out.now _ _ _ w c.if-size-ne0.false c.if-size-gt-MOST_BYTES.false (search rules) c.put_page.ensures c.ok.ensures.value

pub returns-clause-printed : goal.returns-clause-printed
returns-clause-printed c =
    let a = c.args in
    let b = a.bytes.now in
    let w = ap (take (length b / 2)) c.put_words.ensures ∙ words_stored a.words.now b (length b / 2) refl (omega arith) in
    file_printed b _ a.out.now _ _ _ w c.if-size-ne0.false c.if-size-gt-MOST_BYTES.false (search rules) c.put_page.ensures c.ok.ensures.value
