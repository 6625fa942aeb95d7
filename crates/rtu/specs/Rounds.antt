-- The checksum a word at a time. Document 02, wish 5: one round "for every running sum and word gives what the word's low byte and then its high byte would; a
-- frame's checksum is proved to be these rounds in order, then the odd byte". Assumes nothing.
use Rattle.std.specs.Prelude.{◌≡◌, List, [], ◌∷◌, ℕ, ◌/◌, ◌%◌}
use Rattle.words.specs.Bytes.{Bytes, word_of}
use Rattle.rtu.specs.Crc.{crc_byte, crc_of}

-- one round: a word's low byte, then its high byte
unfoldable pub crc_word : ℕ → ℕ → ℕ
crc_word sum word = crc_byte (crc_byte sum (word % 256)) (word / 256)

-- rounds in order, the earlier of two bytes as the word's low half, then the odd byte
unfoldable pub crc_rounds : ℕ → List ℕ → ℕ
crc_rounds sum [] = sum
crc_rounds sum (b ∷ []) = crc_byte sum b
crc_rounds sum (low ∷ high ∷ s) = crc_rounds (crc_word sum (word_of high low)) s

-- of any bytes the checksum is their rounds in order, then the odd byte
abbrev pub RoundsInOrder : Type 0
RoundsInOrder = (s : List ℕ) → Bytes s → crc_of s ≡ crc_rounds 0xFFFF s
