-- What the field at an offset holds of a setup, as a number: a word, or the 32 bits of two. The laws of a write speak of it. Document 01,
-- "Register map". Assumes nothing.
use mathlib.Core.Bool.{cond}
use Prim.Native.Nat.{ℕ}
use lib.Dec.{eqb}
use lib.Ieee.{binary32, to_bits}
use Rattle.floats.specs.Floats.{pattern}
use Rattle.fields.specs.declared.Field.{Field}
use Rattle.sensors.specs.declared.Setup.{Setup}

-- "3..4 next", "5 command (.. reads 1 with mode on, else 0)", "6 method", "10, 12, 14 figures", of which the trial ones are written,
-- "16, 18, 20, 22 x1, y1, x2, y2"; "Parameter k begins at 30 + 8 × (k - 1): .. +2 id", which is written of the level, "+3 units", "+5 sentinel"
unfoldable pub content_of : Setup → ℕ → ℕ
content_of s o =
    cond (eqb o 3) s.active.next
    (cond (eqb o 5) (cond s.procedure.calibrating 1 0)
    (cond (eqb o 6) s.procedure.method
    (cond (eqb o 10) (to_bits binary32 s.procedure.trial.coefficient1)
    (cond (eqb o 12) (to_bits binary32 s.procedure.trial.coefficient2)
    (cond (eqb o 14) (to_bits binary32 s.procedure.trial.coefficient3)
    (cond (eqb o 16) (to_bits binary32 s.procedure.points.x1)
    (cond (eqb o 18) (to_bits binary32 s.procedure.points.y1)
    (cond (eqb o 20) (to_bits binary32 s.procedure.points.x2)
    (cond (eqb o 22) (to_bits binary32 s.procedure.points.y2)
    (cond (eqb o 33) s.parameters.parameter1.units
    (cond (eqb o 35) (to_bits binary32 s.parameters.parameter1.sentinel)
    (cond (eqb o 40) s.parameters.level
    (cond (eqb o 41) s.parameters.parameter2.units
    (cond (eqb o 43) (to_bits binary32 s.parameters.parameter2.sentinel)
    (cond (eqb o 49) s.parameters.parameter3.units
    (cond (eqb o 51) (to_bits binary32 s.parameters.parameter3.sentinel) 0))))))))))))))))

-- the value that a write gives a field: "A float .. fills two words, high word first", so does a time
unfoldable pub written_value : Field → ℕ → ℕ → ℕ
written_value f high low = cond (eqb f.words 1) high (pattern high low)
