-- The three header bytes and the words are the body's stores. Assumes nothing.
use mathlib.Core.Path.{◌≡◌, ◌∙◌}
use Prim.Native.Nat.{◌+◌, ◌*◌}
use native.Mathlib.Omega.{arith}
use lib.ListN.{length}
use Rattle.replies.specs.Reply.{read_body}
use Rattle.words.proofs.Stores.{sets-overlay}
use Rattle.words.proofs.Bytes.{bytes_length}
use Rattle.replies.proofs.put_read.Goals as goal

pub returns : goal.returns
unfolding read_body
returns c =
    let a = c.args in
    let b = read_body a.address a.words.now in
    let e : 3 + 2 * length a.words.now ≡ length b = omega (arith, bytes_length a.words.now) in
    record {
      value = e;
      reply_after = c.put_words.ensures ∙ sets-overlay a.reply.now b (omega arith);
    }
