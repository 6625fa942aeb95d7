use mathlib.Core.Path.{◌≡◌, ap, ◌∙◌}
use mathlib.Core.Bool.{true, false}
use mathlib.Core.List.{List}
use Prim.Native.Nat.{ℕ, ◌≤◌, ◌<◌, ◌+◌, ◌*◌, ◌/◌, ◌%◌}
use native.Mathlib.Omega.{arith}
use lib.Bits.{bit_or}
use lib.Dec.{ltb}
use lib.ListN.{length, take, get_or, length-set}
use lib.Seq.{sets, take-length}
use Rattle.words.specs.Overlay.{overlay}
use Rattle.words.proofs.Stores.{byte_more, sets-overlay}
use Rattle.ascii.specs.Ascii.{value_of, digits}
use Rattle.ascii.specs.Steps.{stored_of, read_of}
use Rattle.ascii.proofs.Reading.{digits_again, pair_byte, sum_more, stored_length, stored_at, read_bad_digit, read_digits, read_done}
use Rattle.ascii.proofs.digits.read.Goals as goal

-- all pairs are stored
whole : (s v bytes : List ℕ) (i : ℕ) → i ≡ length s / 2 → length s / 2 ≤ length v → bytes ≡ sets v 0 (take i (stored_of s)) → bytes ≡ overlay (stored_of s) v
whole s v bytes i e h f =
    let n : i ≡ length (stored_of s) = omega (arith, stored_length s) in
    f
    ∙ ap (λ (l : List ℕ). sets v 0 l) (ap (λ (k : ℕ). take k (stored_of s)) n ∙ take-length (stored_of s))
    ∙ sets-overlay v (stored_of s) (omega (arith, stored_length s))

pub loop-i-preserved : goal.loop-i-preserved
loop-i-preserved c =
    let s : List ℕ = c.args.chars.now in
    let i : ℕ = c.loop-i.i in
    let v : List ℕ = c.args.bytes.now in
    let h : 2 * i + 1 < length s = omega arith in
    let high : ℕ = get_or c.values-values.result (get_or s (2 * i) 0) 0 in
    let low : ℕ = get_or c.values-values.result (get_or s (2 * i + 1) 0) 0 in
    let a₀ : high ≡ value_of (get_or s (2 * i) 0) = c.values-values.ensures.at (get_or s (2 * i) 0) (omega (arith, c.type_inv.chars (2 * i))) in
    let a₁ : low ≡ value_of (get_or s (2 * i + 1) 0) = c.values-values.ensures.at (get_or s (2 * i + 1) 0) (omega (arith, c.type_inv.chars (2 * i + 1))) in
    let b : ℕ = bit_or (high % 16 * 16) low in
    let eb : digits s ≡ true → b ≡ value_of (get_or s (2 * i) 0) * 16 + value_of (get_or s (2 * i + 1) 0) = λ t. pair_byte s i h (ltb c.loop-i.all 16) high low a₀ a₁ (c.loop-i.invariant.4 ∙ t) in (
      omega arith,
      omega arith,
      simp length-set c.loop-i.invariant.2,
      omega arith,
      digits_again s i h c.loop-i.all high low a₀ a₁ c.loop-i.invariant.4,
      rw (c.loop-i.invariant.5, a₀, a₁, ← (stored_at s i h)) (byte_more v (stored_of s) i (omega (arith, stored_length s))),
      λ t. omega (arith, sum_more s i h, eb t, c.loop-i.invariant.6 t),
    )

pub returns-then-all-gt15 : goal.returns-then-all-gt15
unfolding read_of
returns-then-all-gt15 c =
    let s : List ℕ = c.args.chars.now in
    let d : digits s ≡ false = read_bad_digit s c.loop-i.i c.loop-i.all (omega arith) c.loop-i.invariant.4 (omega arith) in
    record {
      value = rw d;
      bytes_after = whole s c.args.bytes.now c.loop-i.bytes c.loop-i.i (omega arith) (omega arith) c.loop-i.invariant.5;
    }

pub returns : goal.returns
returns c =
    let s : List ℕ = c.args.chars.now in
    let d : digits s ≡ true = read_digits s c.loop-i.i c.loop-i.all (omega arith) c.loop-i.invariant.4 (omega arith) in
    record {
      value = read_done s c.loop-i.sum c.loop-i.i (omega arith) c.loop-i.invariant.3 d (c.loop-i.invariant.6 d);
      bytes_after = whole s c.args.bytes.now c.loop-i.bytes c.loop-i.i (omega arith) (omega arith) c.loop-i.invariant.5;
    }
