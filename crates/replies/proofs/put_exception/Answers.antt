-- Three stores make the body. Assumes nothing.
use mathlib.Core.List.{[], ◌∷◌}
use Rattle.replies.specs.Reply.{exception_body, marked_of}
use Rattle.words.proofs.Stores.{sets-overlay}
use mathlib.Core.Path.{refl}
use borrow.Author.Rules.{rules}
use Rattle.replies.proofs.put_exception.Goals as goal

pub returns : goal.returns
unfolding exception_body
returns c =
    let a = c.args in
    let b = a.address ∷ marked_of a.function ∷ a.code ∷ [] in
    record {
      value = refl;
      reply_after = rw c.marked.ensures (sets-overlay a.reply.now b (search rules));
    }
