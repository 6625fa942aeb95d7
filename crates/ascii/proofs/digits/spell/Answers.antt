use mathlib.Core.Path.{◌≡◌, refl}
use mathlib.Core.List.{List}
use Prim.Native.Nat.{ℕ, ◌-◌, ◌/◌, ◌%◌}
use native.Mathlib.Omega.{arith}
use lib.ListN.{get_or, length-set}
use mir.Syntax.{w8}
use mir.Val.{Fits}
use borrow.Author.Rules.{rules}
use Rattle.words.specs.Digits.{hex_digit}
use Rattle.ascii.proofs.Tables.{digit_table, digit_at}
use Rattle.ascii.proofs.Stores.{spell_again, spell_none}
use Rattle.ascii.proofs.digits.spell.Goals as goal

pub loop-k-init : goal.loop-k-init
loop-k-init c = (refl, omega arith, refl, spell_none c.args.buffer.now c.args.n (omega arith))

pub loop-k-preserved : goal.loop-k-preserved
loop-k-preserved c =
    let v : List ℕ = c.args.buffer.now in
    let n : ℕ = c.args.n in
    let k : ℕ = c.loop-k.k - 1 in
    let b : ℕ = get_or c.loop-k.buffer k 0 in
    let f : Fits w8 b = search rules in
    let high : get_or digit_table (b / 16) 0 ≡ hex_digit (b / 16) = digit_at (b / 16) (omega arith) in
    let low : get_or digit_table (b % 16) 0 ≡ hex_digit (b % 16) = digit_at (b % 16) (omega arith) in
    let more = spell_again v c.loop-k.buffer n k c.loop-k.k (get_or digit_table (b / 16) 0) (get_or digit_table (b % 16) 0) (omega arith) (omega arith) (omega arith) c.loop-k.invariant.3 high low in
    (refl, omega arith, simp length-set c.loop-k.invariant.2, rw (← more))

pub returns : goal.returns
returns c =
    let e : c.loop-k.k ≡ 0 = omega arith in
    rw e at c.loop-k.invariant.3
