-- What a body asks for. Document 01, "Frames" and "What is sent back", codes 1 and 3: lengths as Modbus has them, counts 1..125 (read)
-- and 1..123 (16). The longest read is the port's (`limits`: ports/specs/Ports). Which registers exist is another layer's matter. Assumes nothing.
use Rattle.std.specs.Prelude.{cond, List, ℕ, Result, Ok, Err, ◌+◌, ◌*◌, ltb, eqb, length, get_or}
use Rattle.refusals.specs.declared.codes.Code.{Code}
use Rattle.refusals.specs.declared.codes.Code.TheVariants.{IllegalFunction, IllegalDataValue}
use Rattle.words.specs.Bytes.{word_at}
use Rattle.modbus.specs.declared.Header.{Header}
use Rattle.modbus.specs.declared.Value.TheVariants.{Words, Mask}
use Rattle.modbus.specs.declared.Request.{Request}
use Rattle.modbus.specs.declared.Request.TheVariants.{Read, Write}

-- the first two bytes of a body; one that isn't sent counts as 0
abbrev pub address_of : List ℕ → ℕ
address_of body = get_or body 0 0

abbrev pub function_of : List ℕ → ℕ
function_of body = get_or body 1 0

abbrev pub header_of : List ℕ → Header
header_of body = record { address = address_of body; function = function_of body }

-- "count not 1..most" is code 3
abbrev counted : ℕ → ℕ → Result Request Code → Result Request Code
counted most n r = cond (ltb n 1) (Err IllegalDataValue) (cond (ltb most n) (Err IllegalDataValue) r)

-- function 3: address, 3, start, count, at most so many
unfoldable pub read_of : ℕ → List ℕ → Result Request Code
read_of registers s = cond (eqb (length s) 6) (counted registers (word_at s 4) (Ok (Read (word_at s 2) (word_at s 4)))) (Err IllegalDataValue)

-- function 6: address, 6, register, value
unfoldable pub write_one_of : List ℕ → Result Request Code
write_one_of s = cond (eqb (length s) 6) (Ok (Write (word_at s 2) 1 (Words (word_at s 4) 0))) (Err IllegalDataValue)

-- the second word of function 16; one that isn't sent is 0
abbrev pub word2_of : List ℕ → ℕ
word2_of s = cond (ltb (length s) 11) 0 (word_at s 9)

-- function 16: address, 16, start, count, byte count = 2 × count, then that many bytes, at least two. A field has at most two words, so the
-- first two are all that a layer above can want.
unfoldable pub write_many_of : List ℕ → Result Request Code
write_many_of s =
    cond (ltb (length s) 9) (Err IllegalDataValue)
    (counted 123 (word_at s 4)
    (cond (eqb (get_or s 6 0) (2 * word_at s 4))
    (cond (eqb (length s) (7 + get_or s 6 0)) (Ok (Write (word_at s 2) (word_at s 4) (Words (word_at s 7) (word2_of s)))) (Err IllegalDataValue))
    (Err IllegalDataValue)))

-- function 22: address, 22, register, and-mask, or-mask; a write of one register
unfoldable pub write_mask_of : List ℕ → Result Request Code
write_mask_of s = cond (eqb (length s) 8) (Ok (Write (word_at s 2) 1 (Mask (word_at s 4) (word_at s 6)))) (Err IllegalDataValue)

-- "Functions 3, 6, 16, 22"; code 1 before any look at the length. A read names so many registers at most
unfoldable pub request_of : ℕ → ℕ → List ℕ → Result Request Code
request_of registers function s =
    cond (eqb function 3) (read_of registers s)
    (cond (eqb function 6) (write_one_of s)
    (cond (eqb function 16) (write_many_of s)
    (cond (eqb function 22) (write_mask_of s)
    (Err IllegalFunction))))
