-- A text as the codes of its characters. Assumes nothing.
use mathlib.Core.List as list
use Rattle.std.specs.Prelude.{List, ℕ}
use Prim.Native.Char.{code}
use Prim.Native.String.{String, [], ◌∷◌}

unfoldable pub characters : String → List ℕ
characters [] = list.[]
characters (c ∷ s) = list.◌∷◌ (code c) (characters s)
