-- One character further in a search: the character at a place is what is sought, or the search goes on behind it. Assumes nothing.
use mathlib.Core.Path.{◌≡◌}
use mathlib.Core.Bool.{true, false, ◌&&◌}
use mathlib.Core.List.{List}
use Prim.Native.Nat.{ℕ, suc, ◌+◌, ◌≤◌, ◌<◌}
use native.Mathlib.Nat.{add-zero}
use native.Mathlib.Numerals.{add-one}
use native.Mathlib.Omega.{arith}
use lib.Dec.{eqb}
use lib.ListN.{length, get_or, drop, drop_of_length-le}
use lib.Seq.{drop-cons, get_or-drop}
use Rattle.text.specs.Text.{character_at, before_mark, part_end_of}

module _ (text : List ℕ) (at : ℕ) where
  -- the character behind a place
  behind : get_or (drop (suc at) text) 0 0 ≡ character_at text (at + 1)
  unfolding character_at
  behind = rw (get_or-drop (suc at) text 0 0, add-zero, add-one at)

  pub part_end : (mark : ℕ) → length text ≤ at → part_end_of text at mark ≡ at
  unfolding part_end_of before_mark
  part_end mark h = rw (drop_of_length-le text h, add-zero)

  pub part_here : (mark : ℕ) → at < length text → (eqb (get_or text at 0) 10 && eqb (character_at text (at + 1)) mark) ≡ true
      → part_end_of text at mark ≡ at
  unfolding part_end_of before_mark
  part_here mark h e = rw (drop-cons text at 0 h, behind, e, add-zero)

  pub part_on : (mark : ℕ) → at < length text → (eqb (get_or text at 0) 10 && eqb (character_at text (at + 1)) mark) ≡ false
      → part_end_of text at mark ≡ part_end_of text (at + 1) mark
  unfolding part_end_of before_mark
  part_on mark h e = rw (drop-cons text at 0 h, behind, e, add-one at) (omega arith)
