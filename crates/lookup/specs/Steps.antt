-- One row of the pass over the table, by the owner's bit, as the code makes it. No reader has to believe it: `all_found-run`
-- (fields/proofs/Runs) says that the pass tells which registers exist. Assumes nothing.
use Rattle.std.specs.Prelude.{◌&&◌, not, cond, ℕ, ◌+◌, eqb, leb, ltb}
use Rattle.std.specs.Int.Bits.{bit_and}
use Rattle.fields.specs.declared.Field.{Field}

-- the offset that isn't known to exist yet: past the field, where the field holds it
unfoldable pub reach_by : Field → ℕ → ℕ → ℕ
reach_by f bit at =
    cond (not (eqb (bit_and f.owners bit) 0) && leb f.offset at && ltb at (f.offset + f.words)) (f.offset + f.words) at
