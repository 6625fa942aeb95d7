-- Bytes in hexadecimal, as published frames are printed: each in two digits, with or without a space in front. Assumes nothing.
use Rattle.std.specs.Prelude.{Bool, cond, ◌&&◌, List, [], ◌∷◌, ℕ, zero, suc, ◌+◌, ◌-◌, ◌*◌, leb, eqb, Option, Some, None}
use Rattle.text.specs.Text.{character_at}

unfoldable pub is_between : ℕ → ℕ → ℕ → Bool
is_between least most c = leb least c && leb c most

-- a digit's value: 0 to 9 from 48 on, A to F from 65 on, a to f from 97 on; any other character has none
unfoldable pub digit_of : ℕ → Option ℕ
digit_of c =
    cond (is_between 48 57 c) (Some (c - 48)) (cond (is_between 65 70 c) (Some (c - 65 + 10)) (cond (is_between 97 102 c) (Some (c - 97 + 10)) None))

-- two digits of base 16
abbrev pub byte_of : Option ℕ → Option ℕ → Option ℕ
byte_of None low = None
byte_of (Some h) None = None
byte_of (Some h) (Some l) = Some (h * 16 + l)

-- the byte of two digits; none where they aren't two digits
unfoldable pub pair_of : ℕ → ℕ → Option ℕ
pair_of high low = byte_of (digit_of high) (digit_of low)

-- the place, or the next where a space (32) stands there
unfoldable pub past_space : List ℕ → ℕ → ℕ
past_space line at = cond (eqb (character_at line at) 32) (at + 1) at

-- the byte that begins at a place
unfoldable pub byte_at : List ℕ → ℕ → Option ℕ
byte_at line at = pair_of (character_at line at) (character_at line (at + 1))

-- a byte in front of others; none are behind no byte
abbrev pub then_bytes : Option ℕ → List ℕ → List ℕ
then_bytes None others = []
then_bytes (Some byte) others = byte ∷ others

-- the bytes from a place on, n at most, up to the first two characters that are no byte
unfoldable pub decoded_from : List ℕ → ℕ → ℕ → List ℕ
decoded_from line at zero = []
decoded_from line at (suc n) = then_bytes (byte_at line (past_space line at)) (decoded_from line (past_space line at + 2) n)

-- the bytes that a line spells at its start, n at most
unfoldable pub decoded_of : List ℕ → ℕ → List ℕ
decoded_of line n = decoded_from line 0 n
