-- What registers that adjoin are follows from whether all exist and whether they are a whole field, case by case. Assumes nothing.
use mathlib.Core.Path.{◌≡◌, refl}
use mathlib.Core.Bool.{true, false}
use Prim.Native.Nat.{ℕ, zero, suc, ◌/◌, ◌%◌, ◌<◌}
use native.Mathlib.Nat.{not-suc-le-zero}
use lib.Bits.{and_zero_r}
use Rattle.std.specs.Prelude.{Option, Some, None, Result, Ok, Err}
use Rattle.floats.proofs.Bools.{choose}
use Rattle.refusals.specs.declared.codes.Code.{Code}
use Rattle.refusals.specs.declared.codes.Code.TheVariants.{IllegalDataAddress}
use Rattle.fields.specs.declared.Field.{Field}
use Rattle.fields.specs.Fields.{fields, owner_bit, owns, holds, field_at, all_found, whole_field, span_of}
use Rattle.fields.proofs.Computed.{none_found}
use Rattle.fields.proofs.Runs.{whole_found}

module _ (start count : ℕ) where
  -- one whole field, whose registers exist
  pub span_whole : (f : Field) → whole_field start count ≡ Some f → span_of start count ≡ Ok (Some f)
  unfolding span_of
  span_whole f e = rw (whole_found start count f e, e)

  -- registers that exist and are no whole field
  pub span_mismatch : all_found start count ≡ true → whole_field start count ≡ None → span_of start count ≡ Ok None
  unfolding span_of
  span_mismatch a e = rw (a, e)

  -- one that is absent
  pub span_gap : all_found start count ≡ false → span_of start count ≡ Err IllegalDataAddress
  unfolding span_of
  span_gap a = rw a

-- registers that nobody owns
pub span_unowned : (start count : ℕ) → owner_bit (start / 100) ≡ 0 → 0 < count → span_of start count ≡ Err IllegalDataAddress
unfolding owns holds field_at
span_unowned start zero e h = absurd (not-suc-le-zero h)
span_unowned start (suc n) e h =
    let a : field_at start ≡ None = none_found (λ f. holds f (start / 100) (start % 100)) fields (λ f. rw (e, and_zero_r)) in
    span_gap start (suc n) (rw a)

-- ---- what each case says

abbrev pub Says : ℕ → ℕ → Result (Option Field) Code → Type 0
Says start count (Ok (Some f)) = (all_found start count ≡ true) × (whole_field start count ≡ Some f)
Says start count (Ok None) = all_found start count ≡ true
Says start count (Err code) = Unit {0}

pub span_says : (start count : ℕ) → Says start count (span_of start count)
unfolding span_of
span_says start count =
    choose (Says start count) (all_found start count) (Ok (whole_field start count)) (Err IllegalDataAddress) (λ a. go a (whole_field start count) refl) (λ a. tt)
  where
    go : all_found start count ≡ true → (x : Option Field) → whole_field start count ≡ x → Says start count (Ok x)
    go a (Some f) e = (a, e)
    go a None e = a
