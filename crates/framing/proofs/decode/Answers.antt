-- By whether the frame is ASCII and the port carries it. Assumes nothing.
use mathlib.Core.Path.{◌≡◌, ap, ◌∙◌}
use mathlib.Core.Bool.{true, false, ◌&&◌}
use lib.ListN.{length}
use Rattle.ports.specs.Ports.{limits}
use Rattle.framing.specs.Steps.{decoded_into}
use Rattle.framing.proofs.Carried.{decoded_held, decoded_none}
use Rattle.framing.proofs.decode.Goals as goal

pub returns-then-ascii-limits : goal.returns-then-ascii-limits
unfolding decoded_into
returns-then-ascii-limits c =
    let a = c.args in
    let t : a.ascii && (limits a.port).ascii ≡ true = rw c.limits.ensures at c.if-ascii-limits.true in
    let e = decoded_held a.port a.ascii a.frame.now t in
    record {
      value = c.decode.ensures.value ∙ ap length e;
      body = c.decode.ensures.body ∙ e;
      bytes_after = rw t c.decode.ensures.bytes_after;
    }

pub returns : goal.returns
unfolding decoded_into
returns c =
    let a = c.args in
    let f : a.ascii && (limits a.port).ascii ≡ false = rw c.limits.ensures at c.if-ascii-limits.false in
    let e = decoded_none a.port a.ascii a.frame.now f in
    record { value = ap length e; body = e; bytes_after = rw f }
