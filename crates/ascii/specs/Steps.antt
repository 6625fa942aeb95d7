-- What the code reads of a frame. No reader has to believe these definitions: `good_body_is` (framing/proofs/Carried) ties the good body to what a frame
-- carries; the others are steps to it. Assumes nothing.
use Rattle.std.specs.Prelude.{◌≡◌, Bool, cond, ◌&&◌, List, [], ◌∷◌, ℕ, ◌*◌, ◌%◌, ◌<◌, leb, length, get_or}
use Rattle.std.specs.Int.Bits.{bit_or}
use Rattle.words.specs.Overlay.{overlay}
use Rattle.ascii.specs.Ascii.{sum_of, value_of, digits, spelt, chars_of, decoded_bytes, ascii_body, enclosed, ascii_good}

-- a table of what each character says
pub record Values (table : List ℕ) : Type 0 where
  pub at : (c : ℕ) → c < 256 → get_or table c 0 ≡ value_of c

-- the byte that a pair of characters is stored as, digits or not
abbrev pub pair_of : ℕ → ℕ → ℕ
pair_of a b = bit_or (value_of a % 16 * 16) (value_of b)

unfoldable pub stored_of : List ℕ → List ℕ
stored_of [] = []
stored_of (a ∷ []) = []
stored_of (a ∷ b ∷ s) = pair_of a b ∷ stored_of s

-- the sum of the bytes that a list of digits says; 256 where one is no digit
unfoldable pub read_of : List ℕ → ℕ
read_of s = cond (digits s) (sum_of (spelt s) % 256) 256

-- the body of a good frame; no bytes of a bad one
unfoldable pub good_body : List ℕ → List ℕ
good_body s = cond (ascii_good s) (ascii_body s) []

-- a frame whose characters are read, digits or not
unfoldable pub readable : List ℕ → Bool
readable s = leb 3 (length (decoded_bytes s)) && leb (length (decoded_bytes s)) 255 && enclosed s

-- what lent bytes hold after the reading
unfoldable pub decoded_over : List ℕ → List ℕ → List ℕ
decoded_over s bytes = cond (readable s) (overlay (stored_of (chars_of s)) bytes) bytes
