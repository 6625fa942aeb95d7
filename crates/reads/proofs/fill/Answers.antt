use mathlib.Core.Path.{◌≡◌, refl, sym, ◌∙◌}
use Prim.Native.Nat.{◌<◌}
use native.Mathlib.Numerals.{add-one}
use native.Mathlib.Omega.{arith}
use lib.ListN.{length}
use lib.Seq.{take_all, take-suc-set}
use borrow.Author.Rules.{rules}
use Rattle.registers.specs.Registers.{register_of}
use Rattle.service.proofs.Registers.{shown_more}
use Rattle.reads.proofs.fill.Goals as goal

pub loop-i-init : goal.loop-i-init
loop-i-init c = (refl, omega arith, refl, refl)

pub loop-i-preserved : goal.loop-i-preserved
loop-i-preserved c =
    let a = c.args in
    let i = c.loop-i.i in
    let h : i < length c.loop-i.words = omega arith in (
      search rules,
      search rules,
      search rules,
      rw (add-one, take-suc-set c.loop-i.words i c.register_of.result h, c.loop-i.invariant.3, c.register_of.ensures, shown_more (register_of a.owner a.device.now a.sensor.now) a.offset i),
    )

pub returns : goal.returns
returns c =
    let i : c.loop-i.i ≡ length c.args.words.now = omega arith in
    rw (← i) (sym (take_all c.loop-i.i c.loop-i.words (omega arith)) ∙ c.loop-i.invariant.3)
