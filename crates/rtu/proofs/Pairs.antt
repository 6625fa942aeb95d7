-- The elements of a list's chunks of two are the list's. Assumes nothing.
use mathlib.Core.Path.{◌≡◌, ap, ◌∙◌}
use mathlib.Core.List.{List, []}
use Prim.Native.Nat.{ℕ, zero, suc, ◌+◌, ◌*◌, ◌<◌}
use native.Mathlib.Omega.{arith}
use lib.ListN.{get_or, drop}
use lib.Seq.{get_or-take, get_or-drop}
use Rattle.std.specs.Simd.{first_chunks}

pub pair_at : (k i j : ℕ) (s : List ℕ) → i < k → j < 2 → get_or (get_or (first_chunks 2 k s) i []) j 0 ≡ get_or s (2 * i + j) 0
pair_at zero i j s h l = absurd (omega arith)
pair_at (suc k) zero j s h l =
    let e : j ≡ 2 * 0 + j = omega arith in
    get_or-take 2 s j 0 l ∙ ap (λ (n : ℕ). get_or s n 0) e
pair_at (suc k) (suc i) j s h l =
    let e : 2 + (2 * i + j) ≡ 2 * suc i + j = omega arith in
    pair_at k i j (drop 2 s) (omega arith) l ∙ get_or-drop 2 s (2 * i + j) 0 ∙ ap (λ (n : ℕ). get_or s n 0) e
