-- A reply over a buffer whose start holds its body. Assumes nothing.
use mathlib.Core.Path.{◌≡◌, refl}
use mathlib.Core.Bool.{Bool, true, false, cond}
use mathlib.Core.List.{List, [], ◌∷◌}
use Prim.Native.Nat.{ℕ}
use native.Mathlib.Omega.{arith}
use lib.Dec.{eqb}
use lib.ListN.{length}
use borrow.Author.Tests.{eqb-true}
use Rattle.words.specs.Overlay.{overlay}
use Rattle.words.proofs.Stores.{overlay-start}
use Rattle.framing.specs.Framing.{framed_in}
use Rattle.framing.proofs.Sealed.{sealed}
use Rattle.replies.specs.Reply.{reply_of}

none_left : (reply b : List ℕ) → length b ≡ 0 → overlay [] (overlay b reply) ≡ overlay [] reply
unfolding overlay
none_left reply [] e = refl
none_left reply (x ∷ xs) e = absurd (omega arith)

-- the reply of a body that stands at the start of a buffer, over that: the reply over the buffer
pub reply_sealed : (ascii : Bool) (reply b : List ℕ) → overlay (reply_of ascii b) (overlay b reply) ≡ overlay (reply_of ascii b) reply
unfolding reply_of
reply_sealed ascii reply b = go (eqb (length b) 0) refl
  where
    go : (z : Bool) → eqb (length b) 0 ≡ z → overlay (cond z [] (framed_in ascii b)) (overlay b reply) ≡ overlay (cond z [] (framed_in ascii b)) reply
    go true e = none_left reply b (eqb-true (length b) 0 e)
    go false e = rw (overlay-start reply b (length b) refl) at (sealed ascii reply b (length b) refl)
