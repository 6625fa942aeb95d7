-- What is written on each way through the code, by its tests. Assumes nothing.
use mathlib.Core.Path.{◌≡◌, refl, ap, ◌∙◌}
use mathlib.Core.Bool.{Bool, true, false, cond, ◌&&◌}
use mathlib.Core.List.{List}
use Prim.Native.Nat.{ℕ, ◌%◌, ◌<◌, ◌≤◌}
use native.Mathlib.Omega.{arith}
use lib.Dec.{eqb, leb}
use lib.ListN.{length}
use borrow.Author.Tests.{eq-eqb, ne_eqb, le-leb, lt-leb}
use Rattle.words.specs.Bytes.{words_of}
use Rattle.words.specs.Overlay.{overlay}
use Rattle.journal.specs.Contents.{journal_of}
use Rattle.journal.specs.Valid.{valid}
use Rattle.columns.specs.Text.{characters}
use Rattle.page.specs.Page.{page_of}
use Rattle.page.specs.Print.{Printed, refused, print_of}
use Rattle.printing.specs.Steps.{left_by}
use Rattle.std.specs.Prelude.{Option, Result, Ok, Err, IfNone, IfSome}
use Rattle.std.specs.Result.{result_ok}
use Rattle.refusals.specs.Numbers.{number_of}
use Rattle.refusals.specs.declared.numbers.Refusal.{Refusal}
use Rattle.page.proofs.Print.{print_invalid, print_done}
use Rattle.printing.proofs.Left.{room}
use Rattle.printing.proofs.Lines.{page_length}
use Rattle.printout.specs.Printout.{printable, unsound, printout_of}

-- ---- the file's length

pub odd_file : (b : List ℕ) → (length b % 2 ≡ 0 → ⊥) → printout_of b ≡ unsound
unfolding printout_of printable
odd_file b h = rw (ne_eqb (length b % 2) 0 h)

pub long_file : (b : List ℕ) → 48128 < length b → printout_of b ≡ unsound
unfolding printout_of printable
long_file b h = go (eqb (length b % 2) 0)
  where
    go : (e : Bool) → cond (e && leb (length b) 48128 && valid (words_of b)) (page_of (journal_of (words_of b))) unsound ≡ unsound
    go true = rw (lt-leb (length b) 48128 h)
    go false = refl

-- any other file is printed by its words
pub even_file : (b : List ℕ) → length b % 2 ≡ 0 → length b ≤ 48128 → printout_of b ≡ cond (valid (words_of b)) (page_of (journal_of (words_of b))) unsound
unfolding printout_of printable
even_file b e h = rw (eq-eqb (length b % 2) 0 e, le-leb (length b) 48128 h)

-- ---- the print of its words, on a page that has room for every journal

page_most : (w : List ℕ) → valid w ≡ true → length (page_of (journal_of w)) ≤ 53212
page_most w v = omega (arith, page_length w, (room w v).most)

print_fits : (w out : List ℕ) → 53212 ≤ length out → valid w ≡ true
    → print_of w out ≡ record { number = 0; length = length (page_of (journal_of w)); page = overlay (page_of (journal_of w)) out }
print_fits w out h v = print_done w out v (omega (arith, page_most w v))

-- a refusal means that the words aren't valid, and nothing was written: a page has a line at least
refused_left : (w out page : List ℕ) (n : ℕ) → 53212 ≤ length out → refused n page ≡ print_of w out → (valid w ≡ false) × (page ≡ out)
refused_left w out page n h e = go (valid w) refl
  where
    go : (v : Bool) → valid w ≡ v → (valid w ≡ false) × (page ≡ out)
    go true v = absurd (omega (arith, ap (λ (p : Printed). p.length) (e ∙ print_fits w out h v), page_length w))
    go false v = (v, ap (λ (p : Printed). p.page) (e ∙ print_invalid w out v))

-- a length means that the page was
printed_left : (w out page : List ℕ) (l : ℕ) → 53212 ≤ length out → ◌≡◌ {A = Printed} (record { number = 0; length = l; page = page }) (print_of w out)
    → (valid w ≡ true) × (page ≡ overlay (page_of (journal_of w)) out) × (l ≡ length (page_of (journal_of w))) × (l ≤ 53212)
printed_left w out page l h e = go (valid w) refl
  where
    go : (v : Bool) → valid w ≡ v → (valid w ≡ true) × (page ≡ overlay (page_of (journal_of w)) out) × (l ≡ length (page_of (journal_of w))) × (l ≤ 53212)
    go true v =
        let q = e ∙ print_fits w out h v in
        let k = ap (λ (p : Printed). p.length) q in
        (v, ap (λ (p : Printed). p.page) q, k, omega (arith, k, page_most w v))
    go false v = absurd (omega (arith, ap (λ (p : Printed). p.number) (e ∙ print_invalid w out v)))

-- ---- what is left in the buffer, and its length

pub unsound_length : (b : List ℕ) → printout_of b ≡ unsound → length (printout_of b) ≡ 8
unfolding characters
unsound_length b e = rw e

-- what is left by the print of a file's words: where it is refused, the buffer
pub file_refused : (b w out page : List ℕ) (r : Result ℕ Refusal) (o : Option ℕ) → w ≡ words_of b → length b % 2 ≡ 0 → length b ≤ 48128 → 53212 ≤ length out
    → left_by r page ≡ print_of w out → o ≡ result_ok r → IfNone o ((printout_of b ≡ unsound) × (page ≡ out))
file_refused b w out page (Ok n) o i e m h p q = rw q tt
file_refused b w out page (Err refusal) o i e m h p q =
    let k = refused_left w out page (number_of refusal) h p in
    rw q (even_file b e m ∙ rw (← i, k.0) refl, k.1)

-- and where it isn't, the page
pub file_printed : (b w out page : List ℕ) (r : Result ℕ Refusal) (o : Option ℕ) → w ≡ words_of b → length b % 2 ≡ 0 → length b ≤ 48128 → 53212 ≤ length out
    → left_by r page ≡ print_of w out → o ≡ result_ok r
    → IfSome o (λ n. (page ≡ overlay (printout_of b) out) × (n ≡ length (printout_of b)) × (n ≤ 53212))
file_printed b w out page (Err refusal) o i e m h p q = rw q tt
file_printed b w out page (Ok n) o i e m h p q =
    let k = printed_left w out page n h p in
    let u : printout_of b ≡ page_of (journal_of w) = even_file b e m ∙ rw (← i, k.0) refl in
    rw (q, u) (k.1, k.2, k.3)
