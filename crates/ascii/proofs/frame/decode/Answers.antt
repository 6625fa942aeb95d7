-- Each return has the law of the tests that led there. Assumes nothing.
use mathlib.Core.Path.{◌≡◌, refl, sym, ap, ◌∙◌}
use mathlib.Core.Bool.{true, false}
use mathlib.Core.List.{List}
use Prim.Native.Nat.{ℕ, ◌-◌, ◌/◌}
use native.Mathlib.Omega.{arith}
use lib.ListN.{length, take, drop}
use Rattle.words.specs.Overlay.{overlay}
use Rattle.words.proofs.Stores.{overlay-start}
use Rattle.ascii.specs.Ascii.{digits, spelt, chars_of, ascii_body, enclosed, ascii_good}
use Rattle.ascii.specs.Steps.{stored_of, read_of}
use Rattle.ascii.proofs.Reading.{stored_digits}
use Rattle.ascii.proofs.Judging.{Enclosed, enclosed_parts, part_is, chars_length, body_length, short, long, judged, refused, passed, unread, stored, read_zero, read_good, read_bad, body_said}
use Rattle.ascii.proofs.frame.decode.Goals as goal

-- digits are stored as what they say
said : (chars bytes exit : List ℕ) → digits chars ≡ true → exit ≡ overlay (stored_of chars) bytes → take (length (spelt chars)) exit ≡ spelt chars
said chars bytes exit d e = rw (e, stored_digits chars d) (overlay-start bytes (spelt chars) (length (spelt chars)) refl)

pub returns-then-n-lt9 : goal.returns-then-n-lt9
returns-then-n-lt9 c =
    let a = c.args in
    let u = unread a.frame.now a.bytes.now (short a.frame.now (omega arith)) in
    record { value = u.0; body = u.1.0; bytes_after = u.1.1 }

pub returns-then-size-gt255 : goal.returns-then-size-gt255
returns-then-size-gt255 c =
    let a = c.args in
    let u = unread a.frame.now a.bytes.now (long a.frame.now (omega arith) (omega arith)) in
    record { value = u.0; body = u.1.0; bytes_after = u.1.1 }

pub returns-then-not-enclosed : goal.returns-then-not-enclosed
returns-then-not-enclosed c =
    let a = c.args in
    let s : List ℕ = a.frame.now in
    let o : enclosed s ≡ false = sym c.enclosed.ensures ∙ c.if-not-enclosed.true in
    let u = unread s a.bytes.now (judged s (omega arith) (omega arith) ∙ o) in
    record { value = u.0; body = u.1.0; bytes_after = u.1.1 }

pub read-requires : goal.read-requires
read-requires c =
    let s : List ℕ = c.args.frame.now in
    let o : enclosed s ≡ true = sym c.enclosed.ensures ∙ c.if-not-enclosed.false in
    let w : Enclosed s = enclosed_parts s o in
    let l : length (take (length s - 2 - 1) (drop 1 s)) ≡ length s - 3 = ap length (part_is s) ∙ chars_length s in
    (omega arith, omega arith)

pub returns-then-read-eq0 : goal.returns-then-read-eq0
returns-then-read-eq0 c =
    let a = c.args in
    let s : List ℕ = a.frame.now in
    let o : enclosed s ≡ true = sym c.enclosed.ensures ∙ c.if-not-enclosed.false in
    let r : c.read.result ≡ read_of (chars_of s) = c.read.ensures.value ∙ ap read_of (part_is s) in
    let z : read_of (chars_of s) ≡ 0 = omega (arith, c.if-read-eq0.true) in
    let g : ascii_good s ≡ true = read_good s (omega arith) (omega arith) o z in
    let w : c.read.new.bytes ≡ overlay (stored_of (chars_of s)) a.bytes.now = c.read.ensures.bytes_after ∙ ap (λ (l : List ℕ). overlay (stored_of l) a.bytes.now) (part_is s) in
    let t : take (length (spelt (chars_of s))) c.read.new.bytes ≡ spelt (chars_of s) = said (chars_of s) a.bytes.now c.read.new.bytes (read_zero (chars_of s) z).all w in
    let m : (length s - 3) / 2 - 1 ≡ length (ascii_body s) = sym (body_length s) in
    record {
      value = rw (passed s g) (omega arith);
      body = rw (passed s g) (body_said s c.read.new.bytes _ m t);
      bytes_after = w ∙ sym (stored s a.bytes.now (judged s (omega arith) (omega arith) ∙ o));
    }

pub returns : goal.returns
returns c =
    let a = c.args in
    let s : List ℕ = a.frame.now in
    let o : enclosed s ≡ true = sym c.enclosed.ensures ∙ c.if-not-enclosed.false in
    let r : c.read.result ≡ read_of (chars_of s) = c.read.ensures.value ∙ ap read_of (part_is s) in
    let g : ascii_good s ≡ false = read_bad s (omega arith) (omega arith) o (λ z. c.if-read-eq0.false (omega arith)) in
    let w : c.read.new.bytes ≡ overlay (stored_of (chars_of s)) a.bytes.now = c.read.ensures.bytes_after ∙ ap (λ (l : List ℕ). overlay (stored_of l) a.bytes.now) (part_is s) in
    record {
      value = rw (refused s g);
      body = rw (refused s g);
      bytes_after = w ∙ sym (stored s a.bytes.now (judged s (omega arith) (omega arith) ∙ o));
    }
