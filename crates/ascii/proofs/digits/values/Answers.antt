use mathlib.Core.Path.{◌≡◌, refl}
use native.Mathlib.Omega.{arith}
use native.Mathlib.Numerals.{add-one}
use Rattle.ascii.specs.Ascii.{value_of}
use Rattle.ascii.proofs.Tables.{values_table}
use Rattle.ascii.proofs.digits.values.Goals as goal

pub loop-i-preserved : goal.loop-i-preserved
loop-i-preserved c = (refl, omega arith, rw (c.loop-i.invariant.2, add-one))

pub returns : goal.returns
unfolding value_of
returns c =
    let e : c.loop-i.i ≡ 16 = omega arith in
    rw (c.loop-i.invariant.2, e) (values_table refl (omega arith))
