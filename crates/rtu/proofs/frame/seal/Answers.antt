-- The two stores are those of the checksum, low byte first. Assumes nothing.
use native.Mathlib.Numerals.{add-one}
use Rattle.rtu.specs.Frame.{checksum_of}
use Rattle.rtu.proofs.Stores.{checksum_stored}
use native.Mathlib.Omega.{arith}
use mathlib.Core.Path.{sym}
use lib.Seq.{length-take-le}
use lib.ListN.{length-set}
use borrow.Author.Rules.{rules}
use Rattle.rtu.proofs.frame.seal.Goals as goal

pub slice_bounds-crc16-end-2 : goal.slice_bounds-crc16-end-2
slice_bounds-crc16-end-2 c = sym (length-take-le _ _ (omega arith))

pub bounds-buffer-n-2 : goal.bounds-buffer-n-2
bounds-buffer-n-2 c = simp length-set (omega arith)

pub returns : goal.returns
unfolding checksum_of
returns c =
    let a = c.args in
    record {
      value = search rules;
      buffer_after = rw (c.low.ensures, c.high.ensures, c.crc16-crc.ensures, add-one) (checksum_stored a.buffer.now a.n (search rules));
    }
