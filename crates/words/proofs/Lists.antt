-- Parts of lists. Assumes nothing.
use mathlib.Core.Path.{◌≡◌, sym, ap, ap₂, ◌∙◌}
use mathlib.Core.List.{List, [], ◌∷◌, ◌++◌}
use Prim.Native.Nat.{ℕ, suc, ◌-◌, ◌≤◌, ◌<◌}
use native.Mathlib.Omega.{arith}
use lib.ListN.{length, get_or, take, drop, take-append-drop}
use lib.Seq.{drop-cons, drop-length}

-- a list without its last two elements, then these
pub last_two : (s : List ℕ) → 2 ≤ length s → s ≡ take (length s - 2) s ++ (get_or s (length s - 2) 0 ∷ get_or s (length s - 1) 0 ∷ [])
last_two s h =
    let h₀ : length s - 2 < length s = omega arith in
    let h₁ : suc (length s - 2) < length s = omega arith in
    let e₁ : suc (length s - 2) ≡ length s - 1 = omega arith in
    let e₂ : suc (suc (length s - 2)) ≡ length s = omega arith in
    let d : drop (length s - 2) s ≡ get_or s (length s - 2) 0 ∷ get_or s (length s - 1) 0 ∷ [] =
    drop-cons s (length s - 2) 0 h₀
    ∙ ap (λ (l : List ℕ). get_or s (length s - 2) 0 ∷ l) (drop-cons s (suc (length s - 2)) 0 h₁ ∙ ap₂ (λ (i j : ℕ). get_or s i 0 ∷ drop j s) e₁ e₂ ∙ ap (λ (l : List ℕ). get_or s (length s - 1) 0 ∷ l) (drop-length s)) in
    sym (take-append-drop (length s - 2) s) ∙ ap (λ (l : List ℕ). take (length s - 2) s ++ l) d
