-- Columns of characters, and lines of columns. Document 02, wish 4. Assumes nothing.
use Rattle.std.specs.Prelude.{cond, List, [], ◌∷◌, ◌++◌, ℕ, zero, suc, ◌/◌, ◌%◌, eqb}
use Rattle.words.specs.Digits.{hex_digit}

-- the last digit of n in base b
unfoldable pub last : ℕ → ℕ → ℕ
last b n = hex_digit (n % b)

-- the same, and another character for 0
unfoldable pub last_or : ℕ → ℕ → ℕ → ℕ
last_or zero_mark b n = cond (eqb n 0) zero_mark (last b n)

-- a blank (32) for 0
abbrev pub last_or_blank : ℕ → ℕ → ℕ
last_or_blank b n = last_or 32 b n

-- w characters, from the right: mark n, then mark (n / b), and so on
unfoldable pub cells : ℕ → (ℕ → ℕ) → ℕ → ℕ → List ℕ
cells b mark zero n = []
cells b mark (suc w) n = cells b mark w (n / b) ++ (mark n ∷ [])

-- "numbers right-aligned": decimal, blanks in front, in w characters; 0 is shown as 0
unfoldable pub number : ℕ → ℕ → List ℕ
number zero n = []
number (suc w) n = cells 10 (last_or_blank 10) w (n / 10) ++ (last 10 n ∷ [])

-- w "capital hexadecimal digits", zeros in front
unfoldable pub hex : ℕ → ℕ → List ℕ
hex w n = cells 16 (last 16) w n

-- columns, each behind one space, then LF
unfoldable pub behind : List (List ℕ) → List ℕ
behind [] = 10 ∷ []
behind (c ∷ cs) = 32 ∷ (c ++ behind cs)

-- a line: columns "with one space between", then LF
unfoldable pub spaced : List (List ℕ) → List ℕ
spaced [] = 10 ∷ []
spaced (c ∷ cs) = c ++ behind cs
