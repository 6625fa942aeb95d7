-- Text as a list of characters, each by its number in ASCII. Document 01: "a program compares the rest and the standard's CRC vectors with a second
-- implementation"; these are the lines that it reads. Assumes nothing.
use Rattle.std.specs.Prelude.{Bool, cond, ◌&&◌, ◌||◌, List, [], ◌∷◌, ℕ, suc, ◌+◌, ◌≤◌, ◌≡◌, eqb, get_or, length, take, drop}
use Rattle.std.specs.List.{position_or_len}

-- so many characters stand at the start of a text, and its first so many are so many
abbrev pub IsPrefixLen : ℕ → List ℕ → Type 0
IsPrefixLen n xs = (n ≤ length xs) × (n ≡ length (take n xs))

-- the character at a place, 0 past the end
unfoldable pub character_at : List ℕ → ℕ → ℕ
character_at line at = get_or line at 0

-- where c first stands from a place on, or the end
unfoldable pub find_of : List ℕ → ℕ → ℕ → ℕ
find_of text at c = at + position_or_len (λ x. eqb x c) (drop at text)

-- how many characters stand before the first line feed (10) with the mark behind it, or before the end
unfoldable pub before_mark : ℕ → List ℕ → ℕ
before_mark mark [] = 0
before_mark mark (x ∷ xs) = cond (eqb x 10 && eqb (get_or xs 0 0) mark) 0 (suc (before_mark mark xs))

-- where the part that a place is in ends
unfoldable pub part_end_of : List ℕ → ℕ → ℕ → ℕ
part_end_of text at mark = at + before_mark mark (drop at text)

-- an empty line, or one that begins with # (35)
unfoldable pub is_passed_over : List ℕ → Bool
is_passed_over line = eqb (character_at line 0) 0 || eqb (character_at line 0) 35
