-- The words that were filled in are those that the registers show. Assumes nothing.
use mathlib.Core.Path.{◌≡◌, sym, ◌∙◌}
use mathlib.Core.List.{List, ◌++◌}
use Prim.Native.Nat.{ℕ, ◌/◌, ◌%◌, ◌≤◌}
use native.Mathlib.Omega.{arith}
use lib.ListN.{length, take, drop, replicate, length-append}
use lib.Seq.{length-take-le, take_at}
use Rattle.registers.specs.Registers.{register_of}
use Rattle.service.specs.Reads.{shown_from}
use borrow.Author.Rules.{rules}
use Rattle.reads.proofs.read.Goals as goal

-- what the local array holds before the registers are read
abbrev zeros : List ℕ
zeros = replicate 125 0

zeros-length : (n : ℕ) → n ≤ 125 → length (take n zeros) ≡ n
zeros-length n h = length-take-le n zeros h

-- the first n words once they are filled
filled : (n : ℕ) (xs : List ℕ) → n ≤ 125 → length xs ≡ length (take n zeros) → take n (xs ++ drop n zeros) ≡ xs
filled n xs h e = take_at xs (drop n zeros) n (e ∙ zeros-length n h)

pub slice_bounds-fill-end : goal.slice_bounds-fill-end
slice_bounds-fill-end c = sym (length-take-le _ _ (omega arith))

pub fill-requires : goal.fill-requires
fill-requires c =
    let a = c.args in
    rw (zeros-length a.count (omega arith)) (omega arith)

pub slice_bounds-words-end-2 : goal.slice_bounds-words-end-2
slice_bounds-words-end-2 c =
    let n = c.args.count in
    let e = c.fill.auto.words ∙ zeros-length n (omega arith) in
    rw length-append (omega arith)

pub slice_bounds-put_read-end : goal.slice_bounds-put_read-end
slice_bounds-put_read-end c =
    let n = c.args.count in
    let h : n ≤ 125 = omega arith in
    sym (rw (filled n c.fill.new.words h c.fill.auto.words) (c.fill.auto.words ∙ zeros-length n h))

pub put_read-requires : goal.put_read-requires
put_read-requires c =
    let n = c.args.count in
    let h : n ≤ 125 = omega arith in
    let e = c.fill.auto.words ∙ zeros-length n h in
    (search rules, rw (filled n c.fill.new.words h c.fill.auto.words) (omega arith))

pub returns : goal.returns
returns c =
    let a = c.args in
    let n = a.count in
    let h : n ≤ 125 = omega arith in
    let w : take n (c.fill.new.words ++ drop n zeros) ≡ shown_from (register_of (a.start / 100) a.device.now a.sensor.now) (a.start % 100) n
    = filled n c.fill.new.words h c.fill.auto.words ∙ c.fill.ensures ∙ rw (zeros-length n h) in
    record { value = c.put_read.ensures.value ∙ rw w; reply_after = c.put_read.ensures.reply_after ∙ rw w }
