use mathlib.Core.Path.{◌≡◌, refl, sym, ap, ap₂, ◌∙◌}
use mathlib.Core.List.{List, []}
use Prim.Native.Nat.{ℕ, ◌<◌, ◌+◌, ◌*◌, ◌/◌}
use native.Mathlib.Nat.{add-zero}
use native.Mathlib.Omega.{arith}
use lib.Dec.{lit<}
use lib.ListN.{length, drop, get_or}
use Rattle.words.specs.Bytes.{word_of}
use Rattle.rtu.specs.Crc.{crc_from, crc_of}
use Rattle.rtu.specs.Rounds.{crc_word}
use Rattle.rtu.proofs.Pairs.{pair_at}
use Rattle.rtu.proofs.Rounds.{crc_from_word}
use Rattle.rtu.proofs.crc.crc16.Goals as goal

pub loop-low-init : goal.loop-low-init
unfolding crc_of
loop-low-init c = refl

pub loop-low-preserved : goal.loop-low-preserved
loop-low-preserved c =
    let at = c.loop-low in
    let s : List ℕ = c.args.bytes.now in
    let k : ℕ = 2 * at.low-index in
    let i : at.low-index < length s / 2 = omega (arith, c.as_chunks.ensures.front_len) in
    let h : k + 1 < length s = omega arith in
    let n : k + 2 ≡ 2 * (at.low-index + 1) = omega arith in
    let b = c.type_inv.bytes k in
    let p = ap (λ (l : List (List ℕ)). get_or l at.low-index []) c.as_chunks.ensures.front in
    let high = ap (λ (l : List ℕ). get_or l 1 0) p ∙ pair_at (length s / 2) at.low-index 1 s i (lit< tt) in
    let low = ap (λ (l : List ℕ). get_or l 0 0) p ∙ pair_at (length s / 2) at.low-index 0 s i (lit< tt) ∙ ap (λ (m : ℕ). get_or s m 0) (add-zero k) in
    let r = c.round-sum.ensures ∙ ap (crc_word at.sum) (c.join.ensures ∙ ap₂ word_of high low) in
    let w = sym (crc_from_word s at.sum k c.round-sum.result h b.fits r) ∙ at.invariant in
    sym (ap (λ (m : ℕ). crc_from c.round-sum.result (drop m s)) n) ∙ w
