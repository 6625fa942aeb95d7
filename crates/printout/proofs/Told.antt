-- What can be told from a printout: UNSOUND is no page, and the pages of two files are equal exactly when their journals agree. Assumes nothing.
use mathlib.Core.Path.{◌≡◌, refl, ap}
use mathlib.Core.Bool.{Bool, true, false, cond, ◌&&◌}
use mathlib.Core.List.{List, [], ◌∷◌}
use mathlib.Core.Logic.{◌↔◌}
use Prim.Native.Nat.{ℕ, zero, suc, ◌%◌, ◌<◌}
use native.Mathlib.Omega.{arith}
use lib.Dec.{eqb, leb, lit<}
use lib.ListN.{length, get_or}
use Rattle.floats.proofs.Bools.{both}
use Rattle.words.specs.Bytes.{Bytes, words_of}
use Rattle.words.specs.Digits.{hex_digit}
use Rattle.columns.specs.Columns.{last, last_or, cells, number, spaced}
use Rattle.columns.specs.Text.{characters}
use Rattle.lines.specs.Lines.{columns_of, line_of, lines_of}
use Rattle.journal.specs.Contents.{journal_of}
use Rattle.journal.specs.Journal.{Journal}
use Rattle.journal.specs.Valid.{valid}
use Rattle.journal.specs.Words.{Words}
use Rattle.page.specs.Page.{page_of}
use Rattle.page.proofs.Alike.{print_alike}
use Rattle.printout.specs.Printout.{printable, unsound, printout_of, UnsoundAlone, FilesAlike}

-- a page begins with a blank
page_begins : (j : Journal) → get_or (page_of j) 0 0 ≡ 32
unfolding page_of lines_of line_of columns_of spaced number cells last_or last hex_digit
page_begins j = refl

pub unsound_alone : UnsoundAlone
unfolding printout_of characters
unsound_alone b = go (printable b)
  where
    go : (p : Bool) → (cond p (page_of (journal_of (words_of b))) unsound ≡ unsound) ↔ (p ≡ false)
    go true = (λ e. absurd (omega (arith, ap (λ (l : List ℕ). get_or l 0 0) e, page_begins (journal_of (words_of b)))), λ e. cc)
    go false = (λ e. refl, λ e. refl)

-- bytes make words
words_below : (b : List ℕ) → ((i : ℕ) → get_or b i 0 < 256) → (i : ℕ) → get_or (words_of b) i 0 < 65536
unfolding words_of
words_below [] h i = lit< tt
words_below (a ∷ []) h i = lit< tt
words_below (a ∷ c ∷ s) h zero = omega (arith, h zero, h (suc zero))
words_below (a ∷ c ∷ s) h (suc i) = words_below s (λ k. h (suc (suc k))) i

words_of_lem : (b : List ℕ) → Bytes b → Words (words_of b)
words_of_lem b bytes = record { below = words_below b bytes.below }

printable-valid : (b : List ℕ) → printable b ≡ true → valid (words_of b) ≡ true
unfolding printable
printable-valid b h = (both (eqb (length b % 2) 0 && leb (length b) 48128) (valid (words_of b)) h).1

page_of_lem : (b : List ℕ) → printable b ≡ true → printout_of b ≡ page_of (journal_of (words_of b))
unfolding printout_of
page_of_lem b h = rw h

pub files_alike : FilesAlike
files_alike a b x y p q =
    rw (page_of_lem a p, page_of_lem b q) (print_alike (words_of a) (words_of b) (words_of_lem a x) (words_of_lem b y) (printable-valid a p) (printable-valid b q))
