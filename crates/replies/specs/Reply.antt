-- The bodies of replies, byte for byte, which either framing carries, and their framing. Document 01, "Frames", document 02, wish 1, and the public
-- standard. Assumes nothing.
use Rattle.std.specs.Prelude.{Bool, cond, List, [], ◌∷◌, ℕ, ◌*◌, eqb, length, take}
use Rattle.std.specs.Int.Bits.{bit_or}
use Rattle.words.specs.Bytes.{bytes_of}
use Rattle.framing.specs.Framing.{framed_in}

-- function 3: address, function, byte count, the words that were read
unfoldable pub read_body : ℕ → List ℕ → List ℕ
read_body address words = address ∷ 3 ∷ 2 * length words ∷ bytes_of words

-- functions 6 and 22: the request again; 16: its address, function, start and count, which are six bytes
unfoldable pub written_body : ℕ → List ℕ → List ℕ
written_body function body = cond (eqb function 16) (take 6 body) body

-- "function or 0x80": the bitwise or
unfoldable pub marked_of : ℕ → ℕ
marked_of function = bit_or function 0x80

-- "Exception reply: address, function or 0x80, code"; the checksum is the framing's
unfoldable pub exception_body : ℕ → ℕ → ℕ → List ℕ
exception_body address function code = address ∷ marked_of function ∷ code ∷ []

-- "The reply goes out in the same framing": a reply's body in ASCII or RTU; none where there is no body
unfoldable pub reply_of : Bool → List ℕ → List ℕ
reply_of ascii body = cond (eqb (length body) 0) [] (framed_in ascii body)
