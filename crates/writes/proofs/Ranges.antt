-- The ranges of offsets that a write tells apart. Assumes nothing.
use mathlib.Core.Path.{◌≡◌}
use mathlib.Core.Bool.{false}
use Prim.Native.Nat.{ℕ, ◌≤◌, ◌<◌}
use native.Mathlib.Omega.{arith}
use lib.Dec.{eqb}
use borrow.Author.Tests.{ne_eqb, le-leb, lt-leb}
use Rattle.refusals.specs.declared.codes.Code.TheVariants.{WriteValue}
use Rattle.sensors.specs.declared.Setup.{Setup}
use Rattle.writes.specs.Writes.{float_written, parameter_written, field_written}
use Rattle.commands.specs.declared.Context.{Context}
use Rattle.commands.specs.declared.Written.TheVariants.{Refused}

module _ (sensor : ℕ) (s : Setup) (o high low : ℕ) (context : Context) where
  none : (o ≡ 3 → ⊥) → (o ≡ 5 → ⊥) → (o ≡ 6 → ⊥) → (eqb o 3 ≡ false) × (eqb o 5 ≡ false) × (eqb o 6 ≡ false)
  none a b c = (ne_eqb o 3 a, ne_eqb o 5 b, ne_eqb o 6 c)

  high_none : 10 ≤ o → (eqb o 3 ≡ false) × (eqb o 5 ≡ false) × (eqb o 6 ≡ false)
  high_none h = none (λ e. omega arith) (λ e. omega arith) (λ e. omega arith)

  -- 10..23 are floats
  pub at_floats : 10 ≤ o → o < 24 → field_written sensor s o high low context ≡ float_written s o high low
  unfolding field_written
  at_floats l h = let n = high_none l in simp (n.0, n.1, n.2, le-leb 10 o l, le-leb o 23 (omega arith))

  -- 30..53 are the parameters
  pub at_parameters : 30 ≤ o → o < 54 → field_written sensor s o high low context ≡ parameter_written sensor s o high low
  unfolding field_written
  at_parameters l h =
      let n = high_none (omega arith) in
      simp (n.0, n.1, n.2, le-leb 10 o (omega arith), lt-leb o 23 (omega arith), le-leb 30 o l, le-leb o 53 (omega arith))

  -- no writable field is at another offset below 10
  pub below_ten : o < 10 → (o ≡ 3 → ⊥) → (o ≡ 5 → ⊥) → (o ≡ 6 → ⊥) → field_written sensor s o high low context ≡ Refused WriteValue
  unfolding field_written
  below_ten h a b c = let n = none a b c in simp (n.0, n.1, n.2, lt-leb 10 o h, lt-leb 30 o (omega arith))

  -- nor at 24..29
  pub below_thirty : 24 ≤ o → o < 30 → field_written sensor s o high low context ≡ Refused WriteValue
  unfolding field_written
  below_thirty l h =
      let n = high_none (omega arith) in
      simp (n.0, n.1, n.2, le-leb 10 o (omega arith), lt-leb o 23 l, lt-leb 30 o h)

  -- nor from 54 on
  pub past : 54 ≤ o → field_written sensor s o high low context ≡ Refused WriteValue
  unfolding field_written
  past l =
      let n = high_none (omega arith) in
      simp (n.0, n.1, n.2, le-leb 10 o (omega arith), lt-leb o 23 (omega arith), le-leb 30 o (omega arith), lt-leb o 53 l)
