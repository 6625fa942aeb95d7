-- Registers that follow each other: one more, and those of one owner. Assumes nothing.
use mathlib.Core.Path.{◌≡◌, refl, ap, ap₂, ◌∙◌}
use mathlib.Core.List.{List, [], ◌∷◌, ◌++◌}
use Prim.Native.Nat.{ℕ, zero, suc, ◌+◌, ◌/◌, ◌%◌, ◌<◌, ◌≤◌}
use native.Mathlib.Nat.{add-zero}
use native.Mathlib.Omega.{arith}
use lib.ListN.{length}
use Rattle.registers.specs.Registers.{register_of}
use Rattle.registers.specs.declared.Device.{Device}
use Rattle.state.specs.Sonde.{sensor_at}
use Rattle.state.specs.declared.Sonde.{Sonde}
use Rattle.service.specs.Reads.{register_at, shown_from}

-- as many as were asked for
pub shown_length : (f : ℕ → ℕ) (r n : ℕ) → length (shown_from f r n) ≡ n
shown_length f r zero = refl
shown_length f r (suc n) = ap suc (shown_length f (suc r) n)

-- the last of n + 1 registers
pub shown_more : (f : ℕ → ℕ) (r n : ℕ) → shown_from f r (suc n) ≡ shown_from f r n ++ f (r + n) ∷ []
shown_more f r zero = rw add-zero
shown_more f r (suc n) =
    let s : suc r + n ≡ r + suc n = omega arith in
    ap (λ (l : List ℕ). f r ∷ l) (shown_more f (suc r) n ∙ rw s)

-- registers that show the same, one by one
shown_same : (f g : ℕ → ℕ) (r o n : ℕ) → ((i : ℕ) → i < n → f (r + i) ≡ g (o + i)) → shown_from f r n ≡ shown_from g o n
shown_same f g r o zero h = refl
shown_same f g r o (suc n) h =
    let e : f r ≡ g o = rw (add-zero r, add-zero o) at (h 0 (omega arith)) in
    let next : (i : ℕ) → i < n → f (suc r + i) ≡ g (suc o + i) = λ i k. rw (shift r i, shift o i) (h (suc i) (omega arith)) in
    ap₂ (λ (x : ℕ) (l : List ℕ). x ∷ l) e (shown_same f g (suc r) (suc o) n next)
  where
    shift : (x i : ℕ) → suc x + i ≡ x + suc i
    shift x i = omega arith

-- registers that end before the next hundred have one owner
pub one_owner : (d : Sonde) (v : Device) (start n : ℕ) → start % 100 + n ≤ 100
    → shown_from (register_at d v) start n ≡ shown_from (register_of (start / 100) v (sensor_at d (start / 100))) (start % 100) n
unfolding register_at
one_owner d v start n block =
    shown_same (register_at d v) (register_of (start / 100) v (sensor_at d (start / 100))) start (start % 100) n (λ i h. rw (owner i h, offset i h))
  where
    owner : (i : ℕ) → i < n → (start + i) / 100 ≡ start / 100
    owner i h = omega arith

    offset : (i : ℕ) → i < n → (start + i) % 100 ≡ start % 100 + i
    offset i h = omega arith
