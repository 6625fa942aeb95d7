-- Digits as characters. Assumes nothing.
use Rattle.std.specs.Prelude.{cond, ℕ, ◌+◌, ltb}

-- the capital hexadecimal digit of 0 to 15 in ASCII: 0-9 from 48 on, A-F from 65 on
unfoldable pub hex_digit : ℕ → ℕ
hex_digit n = cond (ltb n 10) (48 + n) (55 + n)
