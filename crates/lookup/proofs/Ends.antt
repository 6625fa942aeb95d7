-- What the end of the pass over the table tells of registers that adjoin. Assumes nothing.
use mathlib.Core.Path.{◌≡◌, refl, sym, ap, ◌∙◌}
use mathlib.Core.Bool.{Bool, true, false}
use mathlib.Core.List.{List}
use Prim.Native.Nat.{ℕ, ◌+◌, ◌-◌, ◌%◌, ◌≤◌, ◌<◌, min}
use native.Mathlib.Omega.{arith}
use lib.Dec.{leb}
use lib.ListN.{length, take, drop, drop_of_length-le}
use lib.Seq.{take-length}
use borrow.Author.Tests.{leb-true, leb-false, le-leb, lt-leb}
use Rattle.std.specs.Prelude.{Ok, Err, None}
use Rattle.std.proofs.lemmas.List.{length-drop}
use Rattle.refusals.specs.declared.codes.Code.TheVariants.{IllegalDataAddress}
use Rattle.fields.specs.declared.Field.{Field}
use Rattle.fields.specs.Fields.{fields, first_of, whole_field, span_of}
use Rattle.fields.proofs.Runs.{reached, run_end, all_found-run}
use Rattle.fields.proofs.Spans.{span_mismatch, span_gap}

-- the rows from the k-th on, as a part of the table; none where there is no k-th
pub searched : (k : ℕ) → take (41 - min k 41) (drop (min k 41) fields) ≡ drop k fields
searched k = go (leb k 41) refl
  where
    go : (b : Bool) → leb k 41 ≡ b → take (41 - min k 41) (drop (min k 41) fields) ≡ drop k fields
    go true q =
        let m : min k 41 ≡ k = omega (arith, leb-true k 41 q) in
        rw m (ap (λ n. take n (drop k fields)) (sym (length-drop k fields)) ∙ take-length (drop k fields))
    go false q =
        let m : min k 41 ≡ 41 = omega (arith, leb-false k 41 q) in
        rw (m, drop_of_length-le fields {i = k} (omega (arith, leb-false k 41 q))) refl

-- past the last row nothing is reached, and nothing found
pub reached_none : (fs : List Field) (i owner at : ℕ) → length fs ≤ i → reached (drop i fs) owner at ≡ at
reached_none fs i owner at h = rw (drop_of_length-le fs h)

pub first_none : (t : Field → Bool) (fs : List Field) (i : ℕ) → length fs ≤ i → first_of t (drop i fs) ≡ None
first_none t fs i h = rw (drop_of_length-le fs h)

-- registers up to the end of the run exist, one behind it is absent
pub span_inside : (start count : ℕ) → start % 100 + count ≤ run_end start → whole_field start count ≡ None → span_of start count ≡ Ok None
span_inside start count h e = span_mismatch start count (all_found-run start count ∙ le-leb (start % 100 + count) (run_end start) h) e

pub span_past : (start count : ℕ) → run_end start < start % 100 + count → span_of start count ≡ Err IllegalDataAddress
span_past start count h = span_gap start count (all_found-run start count ∙ lt-leb (start % 100 + count) (run_end start) h)
