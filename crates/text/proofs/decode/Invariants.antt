-- The bytes stored and those that are left in the line are the line's bytes, at every turn of the loop. Assumes nothing.
use mathlib.Core.Path.{◌≡◌}
use mathlib.Core.List.{◌++◌}
use Prim.Native.Nat.{◌+◌, ◌-◌, ◌≤◌}
use lib.ListN.{length, take, drop}
use Rattle.text.specs.Hex.{decoded_from, decoded_of}
use Rattle.text.proofs.decode.Given as goal

abbrev pub invariant-loop-n : goal.invariant-loop-n
invariant-loop-n l = (l.at ≤ length l.line + 1)
    × (length l.out ≡ length l.initial.out)
    × (take l.n l.out ++ decoded_from l.line l.at (length l.initial.out - l.n) ≡ decoded_of l.line (length l.initial.out))
    × (drop l.n l.out ≡ drop l.n l.initial.out)
