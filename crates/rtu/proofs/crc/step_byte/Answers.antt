-- A byte by a round. Assumes nothing.
use mathlib.Core.Path.{ap, ◌∙◌}
use Prim.Native.Nat.{ℕ, ◌/◌}
use lib.Bits.{bit_xor}
use Rattle.rtu.proofs.Rounds.{byte_by_round}
use Rattle.rtu.proofs.crc.step_byte.Goals as goal

pub returns : goal.returns
returns c =
    let sum : ℕ = c.args.sum in
    ap (λ (r : ℕ). bit_xor r (sum / 256)) c.round.ensures
    ∙ byte_by_round sum c.args.byte c.ranges.sum.fits c.ranges.byte.fits
