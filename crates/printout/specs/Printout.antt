-- What the program writes, as one function of the bytes that it has read. Document 02, wish 4: "The journal printer reads the volume from standard input, each
-- word high byte first; an unsound one, an odd number of bytes or more than 48128 bytes prints UNSOUND and LF alone". Assumes nothing.
use Rattle.std.specs.Prelude.{◌≡◌, Bool, true, false, cond, ◌&&◌, List, ◌↔◌, ℕ, ◌%◌, eqb, leb, length}
use Rattle.words.specs.Bytes.{Bytes, words_of}
use Rattle.journal.specs.Contents.{journal_of}
use Rattle.journal.specs.Valid.{valid}
use Rattle.columns.specs.Text.{characters}
use Rattle.page.specs.Alike.{AgreeOnPaper}
use Rattle.page.specs.Page.{page_of}

-- a file that is printed
unfoldable pub printable : List ℕ → Bool
printable bytes = eqb (length bytes % 2) 0 && leb (length bytes) 48128 && valid (words_of bytes)

-- "UNSOUND" and LF
abbrev pub unsound : List ℕ
unsound = characters "UNSOUND\n"

unfoldable pub printout_of : List ℕ → List ℕ
printout_of bytes = cond (printable bytes) (page_of (journal_of (words_of bytes))) unsound

-- ---- what can be told from a printout

-- UNSOUND is printed for no file that is printable, and for every other
abbrev pub UnsoundAlone : Type 0
UnsoundAlone = (bytes : List ℕ) → (printout_of bytes ≡ unsound) ↔ (printable bytes ≡ false)

-- "Two sound volumes of at most 48128 bytes print alike exactly when indices, sensors, methods, technicians, times and figures agree"
abbrev pub FilesAlike : Type 0
FilesAlike =
    (a b : List ℕ) → Bytes a → Bytes b → printable a ≡ true → printable b ≡ true
    → (printout_of a ≡ printout_of b) ↔ AgreeOnPaper (journal_of (words_of a)) (journal_of (words_of b))
