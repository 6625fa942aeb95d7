use mathlib.Core.Path.{◌≡◌, ap, ◌∙◌}
use mathlib.Core.List.{List, []}
use Prim.Native.Nat.{ℕ, ◌<◌}
use native.Mathlib.Omega.{arith}
use lib.ListN.{length, drop}
use lib.Seq.{drop-length}
use Rattle.ascii.specs.Ascii.{sum_of, lrc_of}
use Rattle.ascii.proofs.Reading.{sum_step}
use Rattle.ascii.proofs.sum.lrc.Goals as goal

pub loop-i-preserved : goal.loop-i-preserved
loop-i-preserved c =
    let at = c.loop-i in
    let s : List ℕ = c.args.bytes.now in
    let h : at.i < length s = omega arith in
    omega (arith, sum_step s at.i h)

pub returns : goal.returns
unfolding lrc_of sum_of
returns c =
    let s : List ℕ = c.args.bytes.now in
    let e : c.loop-i.i ≡ length s = omega arith in
    let z : drop c.loop-i.i s ≡ [] = ap (λ (k : ℕ). drop k s) e ∙ drop-length s in
    omega (arith, ap sum_of z)
