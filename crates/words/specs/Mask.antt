-- The mask of a word, as function 22 has it. Document 01, "Frames". Assumes nothing.
use Rattle.std.specs.Prelude.{ℕ, ◌-◌}
use Rattle.std.specs.Int.Bits.{bit_and, bit_or}

-- "(old and A) or (B and not A)"; of a word, not A is 0xFFFF - A
unfoldable pub masked_of : ℕ → ℕ → ℕ → ℕ
masked_of old a b = bit_or (bit_and old a) (bit_and b (0xFFFF - a))
