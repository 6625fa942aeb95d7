-- One byte further in a line that spells bytes: it ends the bytes, or is stored and the line goes on behind it. Assumes nothing.
use mathlib.Core.Path.{◌≡◌, refl, sym, ◌∙◌, ap, ap₂}
use mathlib.Core.List.{List, [], ◌∷◌, ◌++◌}
use Prim.Native.Nat.{ℕ, zero, suc, ◌+◌, ◌-◌, ◌<◌}
use native.Mathlib.Numerals.{add-one}
use native.Mathlib.Omega.{arith}
use lib.ListN.{length, take, drop, set}
use lib.Seq.{take-suc-set, append_snoc, drop-set-lt, drop-drop}
use Rattle.std.specs.Prelude.{Option, Some, None}
use Rattle.text.specs.Text.{character_at}
use Rattle.text.specs.Hex.{is_between, digit_of, byte_of, pair_of, past_space, byte_at, decoded_from}

-- a character that isn't 0 is one of the line's
pub there : (line : List ℕ) (at : ℕ) → 0 < character_at line at → at < length line
unfolding character_at
there [] at h = absurd (omega arith)
there (x ∷ xs) zero h = omega arith
there (x ∷ xs) (suc at) h = omega (arith, there xs at h)

-- 0 is no digit
no_digit : (high : ℕ) → pair_of high 0 ≡ None
unfolding pair_of digit_of is_between
no_digit high = go (digit_of high)
  where
    go : (d : Option ℕ) → byte_of d None ≡ None
    go None = refl
    go (Some h) = refl

-- a byte's second digit is one of the line's characters
pub within_line : (line : List ℕ) (at byte : ℕ) → byte_at line at ≡ Some byte → at + 1 < length line
unfolding byte_at
within_line line at byte h = go (character_at line (at + 1)) refl h
  where
    go : (x : ℕ) → character_at line (at + 1) ≡ x → pair_of (character_at line at) x ≡ Some byte → at + 1 < length line
    go zero e k = absurd (grind (arith, no_digit (character_at line at), k))
    go (suc x) e k = there line (at + 1) (omega arith)

-- the byte as it is worked out: past a space, from two characters
pub byte_is : (line : List ℕ) (at from x y : ℕ) (b c : Option ℕ) → from ≡ past_space line at → x ≡ character_at line from → y ≡ character_at line (from + 1) → b ≡ pair_of x y
    → b ≡ c → byte_at line (past_space line at) ≡ c
unfolding byte_at
byte_is line at from x y b c p q r e k = sym (e ∙ ap₂ pair_of q r ∙ ap (byte_at line) p) ∙ k

-- with room for one byte more
module _ (line : List ℕ) (at n most : ℕ) (h : n < most) where
  room : most - n ≡ suc (most - (n + 1))
  room = omega arith

  -- no byte: the bytes end
  pub ended : byte_at line (past_space line at) ≡ None → decoded_from line at (most - n) ≡ []
  unfolding decoded_from
  ended e = rw (room, e)

  -- a byte, and those behind it
  went_on : (byte : ℕ) → byte_at line (past_space line at) ≡ Some byte
      → decoded_from line at (most - n) ≡ byte ∷ decoded_from line (past_space line at + 2) (most - (n + 1))
  unfolding decoded_from
  went_on byte e = rw (room, e)

  -- stored behind those before it
  pub stored : (out : List ℕ) (byte : ℕ) → n < length out → byte_at line (past_space line at) ≡ Some byte
      → take (n + 1) (set out n byte) ++ decoded_from line (past_space line at + 2) (most - (n + 1)) ≡ take n out ++ decoded_from line at (most - n)
  stored out byte k e = rw (went_on byte e, add-one n, take-suc-set out n byte k, append_snoc)

-- what stands behind a store stays
pub rest_kept : (out old : List ℕ) (n v : ℕ) → drop n out ≡ drop n old → drop (n + 1) (set out n v) ≡ drop (n + 1) old
rest_kept out old n v e = drop-set-lt (n + 1) out n v (omega arith) ∙ sym (drop-drop 1 n out) ∙ ap (drop 1) e ∙ drop-drop 1 n old
