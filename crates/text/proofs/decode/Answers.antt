use native.Mathlib.Omega.{arith}
use mathlib.Core.Path.{◌≡◌, sym, ◌∙◌}
use mathlib.Core.List.{append-nil}
use Prim.Native.Nat.{◌-◌}
use lib.ListN.{length, length-set}
use Rattle.text.specs.Hex.{past_space, decoded_from}
use Rattle.text.proofs.Decoded.{within_line, byte_is, ended, stored, rest_kept}
use Rattle.text.proofs.decode.Goals as goal

pub returns-in_default-clause-out_after : goal.returns-in_default-clause-out_after
returns-in_default-clause-out_after c =
    let at = c.loop-n in
    let args = c.args in
    let b = byte_is _ at.at _ _ _ _ _ c.past_space-from.ensures.value c.character.ensures c.character-in-loop-n.ensures c.pair.ensures c.in_default.is in
    let e = ended args.line.now at.at at.n (length args.out.now) (omega arith) b in
    sym (append-nil _) ∙ (rw e at at.invariant.2)

pub loop-n-preserved : goal.loop-n-preserved
loop-n-preserved c =
    let at = c.loop-n in
    let args = c.args in
    let b = byte_is _ at.at _ _ _ _ _ c.past_space-from.ensures.value c.character.ensures c.character-in-loop-n.ensures c.pair.ensures c.in-Some.is in (
      omega (arith, within_line args.line.now (past_space args.line.now at.at) _ b),
      simp length-set at.invariant.1,
      rw c.past_space-from.ensures.value (stored args.line.now at.at at.n (length args.out.now) (omega arith) at.out _ (omega arith) b ∙ at.invariant.2),
      rest_kept at.out args.out.now at.n _ at.invariant.3,
    )

pub returns-clause-out_after : goal.returns-clause-out_after
unfolding decoded_from
returns-clause-out_after c =
    let at = c.loop-n in
    let e : length c.args.out.now - at.n ≡ 0 = omega arith in
    let n : length at.out ≡ at.n = omega arith in
    rw n (sym (append-nil _) ∙ (rw e at at.invariant.2))
