-- The round of the code is a word's low byte and then its high byte: both are linear and agree at the powers of 2. So is the byte that is worked by a round. The
-- checksum of bytes is their rounds in order. Assumes nothing.
use mathlib.Core.Path.{◌≡◌, refl, sym, ap, ap₂, ◌∙◌}
use mathlib.Core.List.{List, [], ◌∷◌}
use Prim.Native.Nat.{ℕ, zero, suc, ◌+◌, ◌*◌, ◌/◌, ◌%◌, ◌^◌, ◌<◌}
use native.Mathlib.Omega.{arith}
use native.Mathlib.Nat.{pow-suc}
use lib.Arith.{lt-one}
use lib.Bits.{bit_and, bit_xor, and_mask, xor_comm, xor_shifted, xor_lt, xor_zero_r, xor_add_and, xor_shr, xor_mod}
use lib.Count.{ones, ones_in, ones_step}
use lib.ListN.{length, drop, get_or}
use Rattle.words.specs.Bytes.{Bytes, word_of}
use Rattle.rtu.specs.Crc.{crc_bit, crc_bits, crc_byte, crc_from, crc_of}
use Rattle.rtu.specs.Rounds.{crc_word, crc_rounds, RoundsInOrder}
use Rattle.rtu.proofs.Checksum.{crc_bits_eight, crc_from-step}
use Rattle.rtu.proofs.Linear.{Linear, by_id, by_xor, by_shr, by_shl, by_mod, by_bit, by_both, agree, xor_assoc}

-- ---- the parity of a word: whether an odd number of its bits is set

abbrev parity : ℕ → ℕ
parity x = ones_in 16 x % 2

ones_zero : ones 0 ≡ 0
unfolding ones ones_in
ones_zero = refl

-- the bits of a number below 2 ^ k are counted among its lowest k
ones_in_lem : (k x : ℕ) → x < 2 ^ k → ones x ≡ ones_in k x
unfolding ones_in
ones_in_lem zero x h = ap ones (lt-one h) ∙ ones_zero
ones_in_lem (suc k) x h =
    let e : 2 ^ suc k ≡ 2 ^ k * 2 = pow-suc 2 k in
    ones_step x ∙ ap (λ (n : ℕ). x % 2 + n) (ones_in_lem k (x / 2) (omega arith))

xor_odd : (a b : ℕ) → bit_xor a b % 2 ≡ (a % 2 + b % 2) % 2
xor_odd a b =
    let s : bit_xor a b + bit_and a b * 2 ≡ a + b = xor_add_and a b in
    omega arith

odd_more : (l a b n m k : ℕ) → l % 2 ≡ (a + b) % 2 → n % 2 ≡ (m + k) % 2 → (l + n) % 2 ≡ (a + m + (b + k)) % 2
odd_more l a b n m k p q = omega arith

-- an exclusive or has an odd number of bits set where the two numbers together have
odd_in : (k a b : ℕ) → ones_in k (bit_xor a b) % 2 ≡ (ones_in k a + ones_in k b) % 2
unfolding ones_in
odd_in zero a b = refl
odd_in (suc k) a b =
    let e : ones_in k (bit_xor a b / 2) % 2 ≡ (ones_in k (a / 2) + ones_in k (b / 2)) % 2 = ap (λ (n : ℕ). ones_in k n % 2) (xor_shr a b 1) ∙ odd_in k (a / 2) (b / 2) in
    let l : bit_xor a b % 2 % 2 ≡ (a % 2 + b % 2) % 2 = ap (λ (n : ℕ). n % 2) (xor_odd a b) ∙ omega arith in
    odd_more (bit_xor a b % 2) (a % 2) (b % 2) (ones_in k (bit_xor a b / 2)) (ones_in k (a / 2)) (ones_in k (b / 2)) l e

sum_odd : (m n : ℕ) → (m + n) % 2 ≡ bit_xor (m % 2) (n % 2)
sum_odd m n =
    let e : (m + n) % 2 ≡ bit_xor m n % 2 = omega (arith, xor_odd m n) in
    e ∙ xor_mod m n 1

parity_linear : Linear parity
parity_linear = record { through = λ a b. odd_in 16 a b ∙ sum_odd (ones_in 16 a) (ones_in 16 b) }

-- the parity as the code asks for it
parity_asked : (x : ℕ) → x < 2 ^ 16 → bit_and (ones x) 1 ≡ parity x % 2
parity_asked x h =
    let m : bit_and (ones x) 1 ≡ ones x % 2 = and_mask (ones x) 1 in
    let e : ones x ≡ ones_in 16 x = ones_in_lem 16 x h in
    omega arith

-- ---- sixteen bits at once

-- a word turned by two bits
abbrev pub turned : ℕ → ℕ
turned x = bit_xor (x / 4) (x * 16384 % 65536)

-- the rest of a round of x: y is x turned, with the parity's part; r the two bits that went out
abbrev pub rounded : ℕ → ℕ → ℕ → ℕ
rounded y x r = bit_xor y (bit_xor (x / 4 * 2 % 65536) (r * 4096 % 65536))

abbrev sixteen : ℕ → ℕ
sixteen x = rounded (bit_xor (turned x) (parity x % 2 * 0xC001)) x (x % 4)

sixteen_linear : Linear sixteen
sixteen_linear =
    by_xor
    (by_xor (by_xor (by_shr 2 by_id) (by_mod 16 (by_shl 14 by_id))) (by_bit 0xC001 parity_linear))
    (by_xor (by_mod 16 (by_shl 1 (by_shr 2 by_id))) (by_mod 16 (by_shl 12 (by_mod 2 by_id))))

bit_linear : Linear crc_bit
unfolding crc_bit
bit_linear = by_xor (by_shr 1 by_id) (by_bit 0xA001 by_id)

bits_linear : (n : ℕ) → Linear (crc_bits n)
unfolding crc_bits
bits_linear zero = by_id
bits_linear (suc n) = by_both bit_linear (bits_linear n)

sixteen_bits : (x : ℕ) → x < 2 ^ 16 → sixteen x ≡ crc_bits 16 x
unfolding crc_bits crc_bit ones_in
sixteen_bits x h = agree sixteen_linear (bits_linear 16) 16 tt x h

eight_twice : (x : ℕ) → crc_bits 8 (crc_bits 8 x) ≡ crc_bits 16 x
unfolding crc_bits
eight_twice x = refl

-- a word, low byte first, is sixteen bits of the sum joined with it
word_bits : (c w : ℕ) → crc_word c w ≡ crc_bits 16 (bit_xor c w)
unfolding crc_word crc_byte
word_bits c w =
    let b : w % 256 < 2 ^ 8 = omega arith in
    let y : ℕ = bit_xor c (w % 256) in
    let e : bit_xor (w % 256) (w / 256 * 256) ≡ w = xor_comm (w % 256) (w / 256 * 256) ∙ xor_shifted (w / 256) 8 (w % 256) b ∙ omega arith in
    ap (crc_bits 8) (ap (bit_xor (crc_bits 8 y)) (sym (crc_bits_eight (w / 256))) ∙ sym ((bits_linear 8).through y (w / 256 * 256)))
    ∙ eight_twice (bit_xor y (w / 256 * 256))
    ∙ ap (crc_bits 16) (xor_assoc c (w % 256) (w / 256 * 256) ∙ ap (bit_xor c) e)

sixteen_word : (c w : ℕ) → c < 2 ^ 16 → w < 2 ^ 16 → sixteen (bit_xor c w) ≡ crc_word c w
sixteen_word c w hc hw = sixteen_bits (bit_xor c w) (xor_lt 16 c w hc hw) ∙ sym (word_bits c w)

-- the round of the code, by the parity
pub round_odd : (c w : ℕ) → c < 2 ^ 16 → w < 2 ^ 16 → bit_and (ones (bit_xor c w)) 1 ≡ 1
    → rounded (bit_xor (turned (bit_xor c w)) 0xC001) (bit_xor c w) (bit_and (bit_xor c w) 3) ≡ crc_word c w
round_odd c w hc hw t =
    let x : ℕ = bit_xor c w in
    let p : parity x % 2 ≡ 1 = sym (parity_asked x (xor_lt 16 c w hc hw)) ∙ t in
    ap (rounded (bit_xor (turned x) 0xC001) x) (and_mask x 2)
    ∙ sym (ap (λ (n : ℕ). rounded (bit_xor (turned x) (n * 0xC001)) x (x % 4)) p)
    ∙ sixteen_word c w hc hw

pub round_even : (c w : ℕ) → c < 2 ^ 16 → w < 2 ^ 16 → (bit_and (ones (bit_xor c w)) 1 ≡ 1 → ⊥)
    → rounded (turned (bit_xor c w)) (bit_xor c w) (bit_and (bit_xor c w) 3) ≡ crc_word c w
round_even c w hc hw t =
    let x : ℕ = bit_xor c w in
    let m : bit_and (ones x) 1 ≡ parity x % 2 = parity_asked x (xor_lt 16 c w hc hw) in
    let p : parity x % 2 ≡ 0 = omega (arith, t) in
    ap (rounded (turned x) x) (and_mask x 2)
    ∙ sym (ap (λ (n : ℕ). rounded (bit_xor (turned x) (n * 0xC001)) x (x % 4)) p ∙ ap (λ (n : ℕ). rounded n x (x % 4)) (xor_zero_r (turned x)))
    ∙ sixteen_word c w hc hw

-- ---- a byte by a round

eight_bits : (x : ℕ) → x < 2 ^ 16 → bit_xor (crc_bits 16 (x * 256 % 65536)) (x / 256) ≡ crc_bits 8 x
unfolding crc_bits crc_bit
eight_bits x h = agree (by_xor (by_both (bits_linear 16) (by_mod 16 (by_shl 8 by_id))) (by_shr 8 by_id)) (bits_linear 8) 16 tt x h

-- a byte is a round of the eight bits that go out, joined with the sum's other eight
pub byte_by_round : (c b : ℕ) → c < 2 ^ 16 → b < 256 → bit_xor (crc_word (bit_xor c b * 256 % 65536) 0) (c / 256) ≡ crc_byte c b
unfolding crc_byte
byte_by_round c b hc hb =
    let x : ℕ = bit_xor c b in
    let z : b / 256 ≡ 0 = omega arith in
    let h : x / 256 ≡ c / 256 = xor_shr c b 8 ∙ ap (bit_xor (c / 256)) z ∙ xor_zero_r (c / 256) in
    ap₂ bit_xor (word_bits (x * 256 % 65536) 0 ∙ ap (crc_bits 16) (xor_zero_r (x * 256 % 65536))) (sym h)
    ∙ eight_bits x (xor_lt 16 c b hc (omega arith))

-- ---- a sequence by rounds

-- two bytes as a word: the low one, then the high one
word_of_bytes : (c high low : ℕ) → low < 256 → crc_word c (word_of high low) ≡ crc_byte (crc_byte c low) high
unfolding crc_word
word_of_bytes c high low h =
    let l : word_of high low % 256 ≡ low = omega arith in
    let k : word_of high low / 256 ≡ high = omega arith in
    ap₂ (λ (x y : ℕ). crc_byte (crc_byte c x) y) l k

from_in_rounds : (s : List ℕ) (c : ℕ) → Bytes s → crc_from c s ≡ crc_rounds c s
unfolding crc_from crc_rounds
from_in_rounds [] c bytes = refl
from_in_rounds (b ∷ []) c bytes = refl
from_in_rounds (low ∷ high ∷ s) c bytes =
    ap (λ (x : ℕ). crc_from x s) (sym (word_of_bytes c high low (bytes.below 0)))
    ∙ from_in_rounds s (crc_word c (word_of high low)) (record { below = λ i. bytes.below (suc (suc i)) })

-- the checksum of bytes is their rounds in order, then the odd byte
pub rounds_in_order : RoundsInOrder
unfolding crc_of
rounds_in_order s bytes = from_in_rounds s 0xFFFF bytes

-- what is left of a sequence, one word on
pub crc_from_word : (s : List ℕ) (c i r : ℕ) → i + 1 < length s → get_or s i 0 < 256 → r ≡ crc_word c (word_of (get_or s (i + 1) 0) (get_or s i 0))
    → crc_from c (drop i s) ≡ crc_from r (drop (i + 2) s)
crc_from_word s c i r h b e =
    let h₀ : i < length s = omega arith in
    let n : i + 1 + 1 ≡ i + 2 = omega arith in
    crc_from-step s c i (crc_byte c (get_or s i 0)) h₀ refl
    ∙ crc_from-step s (crc_byte c (get_or s i 0)) (i + 1) r h (e ∙ word_of_bytes c (get_or s (i + 1) 0) (get_or s i 0) b)
    ∙ ap (λ (k : ℕ). crc_from r (drop k s)) n
