-- What is known of a request: its count is one that is allowed, a write has at least six bytes and at most those that its registers want, and in a body
-- of bytes its words are words. A read's count has no part in any other request. Assumes nothing.
use mathlib.Core.Path.{◌≡◌, refl}
use mathlib.Core.Bool.{Bool, true, false, cond}
use mathlib.Core.List.{List}
use Prim.Native.Nat.{ℕ, ◌+◌, ◌*◌, ◌≤◌, ◌<◌}
use native.Mathlib.Omega.{arith}
use borrow.Author.Tests.{eqb-true, ltb-false}
use lib.Dec.{ltb, eqb, lit<, lit≤}
use lib.ListN.{length, get_or}
use Rattle.words.specs.Bytes.{word_at, Bytes}
use Rattle.modbus.specs.Request.{read_of, write_one_of, word2_of, write_many_of, write_mask_of, request_of}
use Rattle.modbus.specs.declared.Value.{Value}
use Rattle.modbus.specs.declared.Value.TheVariants.{Words, Mask}
use Rattle.modbus.specs.declared.Request.{Request}
use Rattle.modbus.specs.declared.Request.TheVariants.{Read, Write}
use Rattle.refusals.specs.declared.codes.Code.{Code}
use Rattle.refusals.specs.declared.codes.Code.TheVariants.{IllegalDataValue}
use Rattle.std.specs.Prelude.{Result, Ok, Err}

abbrev Word : ℕ → Type 0
Word n = n < 65536

pub record ReadInRange (registers : ℕ) (body : List ℕ) (start count : ℕ) : Type 0 where
  pub start_fits : Bytes body → Word start
  pub least : 1 ≤ count
  pub most : count ≤ registers

-- the words of a value are words
abbrev pub ValueFits : Value → Type 0
ValueFits (Words word1 word2) = Word word1 × Word word2
ValueFits (Mask and_mask or_mask) = Word and_mask × Word or_mask

pub record WriteInRange (body : List ℕ) (start count : ℕ) (value : Value) : Type 0 where
  pub long : 6 ≤ length body
  pub short : length body ≤ 7 + 2 * count
  pub start_fits : Bytes body → Word start
  pub least : 1 ≤ count
  pub most : count ≤ 123
  pub value_fits : Bytes body → ValueFits value

abbrev pub InRange : ℕ → List ℕ → Result Request Code → Type 0
InRange registers body (Err code) = Unit {0}
InRange registers body (Ok (Read start count)) = ReadInRange registers body start count
InRange registers body (Ok (Write start count value)) = WriteInRange body start count value

module _ (registers : ℕ) (s : List ℕ) where
  either : (b : Bool) (x y : Result Request Code) → (b ≡ true → InRange registers s x) → (b ≡ false → InRange registers s y) → InRange registers s (cond b x y)
  either true x y f g = f refl
  either false x y f g = g refl

  word : (i : ℕ) → Bytes s → Word (word_at s i)
  word i bytes = omega (arith, bytes.below i, bytes.below (i + 1))

  pick : (b : Bool) (m n : ℕ) → Word m → Word n → Word (cond b m n)
  pick true m n hm hn = hm
  pick false m n hm hn = hn

  word2 : Bytes s → Word (word2_of s)
  word2 bytes = pick (ltb (length s) 11) 0 (word_at s 9) (lit< tt) (word 9 bytes)

  read : InRange registers s (read_of registers s)
  unfolding read_of
  read =
      either (eqb (length s) 6) _ _
      (λ six.
      either (ltb (word_at s 4) 1) _ _ (λ t. tt)
      (λ least.
      either (ltb registers (word_at s 4)) _ (Ok (Read (word_at s 2) (word_at s 4))) (λ t. tt)
      (λ most. record { start_fits = word 2; least = ltb-false (word_at s 4) 1 least; most = ltb-false registers (word_at s 4) most })))
      (λ t. tt)

  write_one : InRange registers s (write_one_of s)
  unfolding write_one_of
  write_one =
      either (eqb (length s) 6) _ _
      (λ six.
      record {
        long = omega (arith, eqb-true (length s) 6 six);
        short = omega (arith, eqb-true (length s) 6 six);
        start_fits = word 2;
        least = lit≤ tt;
        most = lit≤ tt;
        value_fits = λ bytes. (word 4 bytes, lit< tt);
      })
      (λ t. tt)

  write_many : InRange registers s (write_many_of s)
  unfolding write_many_of
  write_many =
      let w = Ok (Write (word_at s 2) (word_at s 4) (Words (word_at s 7) (word2_of s))) in
      either (ltb (length s) 9) _ _ (λ t. tt)
      (λ nine.
      either (ltb (word_at s 4) 1) _ _ (λ t. tt)
      (λ least.
      either (ltb 123 (word_at s 4)) _ _ (λ t. tt)
      (λ most.
      either (eqb (get_or s 6 0) (2 * word_at s 4)) _ _
      (λ size.
      either (eqb (length s) (7 + get_or s 6 0)) w _
      (λ exact.
      record {
        long = omega (arith, ltb-false (length s) 9 nine);
        short = omega (arith, eqb-true (length s) (7 + get_or s 6 0) exact, eqb-true (get_or s 6 0) (2 * word_at s 4) size);
        start_fits = word 2;
        least = ltb-false (word_at s 4) 1 least;
        most = ltb-false 123 (word_at s 4) most;
        value_fits = λ bytes. (word 7 bytes, word2 bytes);
      })
      (λ t. tt))
      (λ t. tt))))

  write_mask : InRange registers s (write_mask_of s)
  unfolding write_mask_of
  write_mask =
      either (eqb (length s) 8) _ _
      (λ eight.
      record {
        long = omega (arith, eqb-true (length s) 8 eight);
        short = omega (arith, eqb-true (length s) 8 eight);
        start_fits = word 2;
        least = lit≤ tt;
        most = lit≤ tt;
        value_fits = λ bytes. (word 4 bytes, word 6 bytes);
      })
      (λ t. tt)

  -- whatever a body asks for is in range
  pub in_range : (function : ℕ) → InRange registers s (request_of registers function s)
  unfolding request_of
  in_range function =
      either (eqb function 3) (read_of registers s) _ (λ t. read)
      (λ t.
      either (eqb function 6) (write_one_of s) _ (λ u. write_one)
      (λ u.
      either (eqb function 16) (write_many_of s) _ (λ v. write_many)
      (λ v. either (eqb function 22) (write_mask_of s) _ (λ w. write_mask) (λ w. tt))))

-- a request by another function than 3 doesn't depend on how many registers a read may name
pub registers_aside : (m n function : ℕ) (s : List ℕ) → eqb function 3 ≡ false → request_of m function s ≡ request_of n function s
unfolding request_of
registers_aside m n function s e = rw e

-- and one by function 3 is a read, or refused
abbrev pub IsRead : Result Request Code → Type 0
IsRead (Err code) = Unit {0}
IsRead (Ok (Read start count)) = Unit {0}
IsRead (Ok (Write start count value)) = ⊥

pub is_read : (registers function : ℕ) (s : List ℕ) → eqb function 3 ≡ true → IsRead (request_of registers function s)
unfolding request_of read_of
is_read registers function s e =
    rw e (go (eqb (length s) 6) (ltb (word_at s 4) 1) (ltb registers (word_at s 4)))
  where
    go : (six none more : Bool)
        → IsRead (cond six (cond none (Err IllegalDataValue) (cond more (Err IllegalDataValue) (Ok (Read (word_at s 2) (word_at s 4))))) (Err IllegalDataValue))
    go false none more = tt
    go true true more = tt
    go true false true = tt
    go true false false = tt
