-- The ASCII framing. Document 02, wish 1: "a colon, the address, function and data as pairs of capital hexadecimal digits, the LRC pair, CR, LF. The
-- LRC is the two's complement of the sum of the bytes. A frame that breaks this form counts bad". Assumes nothing.
use Rattle.std.specs.Prelude.{Bool, true, cond, ◌&&◌, List, [], ◌∷◌, ◌++◌, ℕ, ◌+◌, ◌-◌, ◌*◌, ◌/◌, ◌%◌, leb, ltb, eqb, length, get_or, take, drop}
use Rattle.words.specs.Digits.{hex_digit}

-- ---- the checksum

-- "the sum of the bytes"
unfoldable pub sum_of : List ℕ → ℕ
sum_of [] = 0
sum_of (b ∷ s) = b + sum_of s

-- "the two's complement of the sum of the bytes", in one byte
unfoldable pub lrc_of : List ℕ → ℕ
lrc_of body = (256 - sum_of body % 256) % 256

-- ---- digits

-- what a digit says; 16 for a character that is none
unfoldable pub value_of : ℕ → ℕ
value_of c = cond (ltb c 48) 16 (cond (ltb c 58) (c - 48) (cond (ltb c 65) 16 (cond (ltb c 71) (c - 55) 16)))

-- whether a list holds digits alone
unfoldable pub digits : List ℕ → Bool
digits [] = true
digits (c ∷ s) = ltb (value_of c) 16 && digits s

-- a list of bytes in digits, two for each, the high one first
unfoldable pub hex_of : List ℕ → List ℕ
hex_of [] = []
hex_of (b ∷ s) = hex_digit (b / 16) ∷ hex_digit (b % 16) ∷ hex_of s

-- the bytes that pairs of digits say
unfoldable pub spelt : List ℕ → List ℕ
spelt [] = []
spelt (a ∷ []) = []
spelt (a ∷ b ∷ s) = (value_of a * 16 + value_of b) ∷ spelt s

-- ---- the frame

-- the frame of a body
unfoldable pub ascii_framed : List ℕ → List ℕ
ascii_framed body = 58 ∷ hex_of (body ++ (lrc_of body ∷ [])) ++ (13 ∷ 10 ∷ [])

-- what stands between the colon and CR LF
unfoldable pub chars_of : List ℕ → List ℕ
chars_of s = take (length s - 3) (drop 1 s)

-- the decoded bytes, with the LRC
unfoldable pub decoded_bytes : List ℕ → List ℕ
decoded_bytes s = spelt (chars_of s)

-- the body of a frame: the decoded bytes without the last
unfoldable pub ascii_body : List ℕ → List ℕ
ascii_body s = take (length (decoded_bytes s) - 1) (decoded_bytes s)

-- a colon first, CR LF last, and pairs between them: with these three the number of characters is odd
unfoldable pub enclosed : List ℕ → Bool
enclosed s = eqb (length s % 2) 1 && eqb (get_or s 0 0) 58 && eqb (get_or s (length s - 2) 0) 13 && eqb (get_or s (length s - 1) 0) 10

-- the LRC that was sent is the body's
unfoldable pub checked : List ℕ → Bool
checked s = eqb (lrc_of (ascii_body s)) (get_or (decoded_bytes s) (length (decoded_bytes s) - 1) 0)

-- the form; "Lengths are judged after decoding, and for an ASCII frame every length rule reads one byte less (3 to 255 instead of 4 to 256, ..)"
unfoldable pub ascii_good : List ℕ → Bool
ascii_good s = leb 3 (length (decoded_bytes s)) && leb (length (decoded_bytes s)) 255 && enclosed s && digits (chars_of s) && checked s
