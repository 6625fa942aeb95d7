-- The loop's invariant: the first i digits have their values stored. The whole table is computed, and held to the definition at each of its
-- places. Assumes nothing.
use mathlib.Core.Path.{◌≡◌}
use Prim.Native.Nat.{◌≤◌}
use Rattle.ascii.proofs.Tables.{digit_table, filled}
use Rattle.ascii.proofs.digits.values.Given as goal

abbrev pub invariant-loop-i : goal.invariant-loop-i
invariant-loop-i l = (l.digits ≡ digit_table) × (l.i ≤ 16) × (l.values ≡ filled l.digits l.initial.values l.i)
