-- From where the loop stands, the bytes that are left lead to the whole's CRC. Assumes nothing.
use mathlib.Core.Path.{◌≡◌}
use Prim.Native.Nat.{◌*◌}
use lib.ListN.{drop}
use Rattle.rtu.specs.Crc.{crc_from, crc_of}
use Rattle.rtu.proofs.crc.crc16.Given as goal

abbrev pub invariant-loop-low : goal.invariant-loop-low
invariant-loop-low l = crc_from l.sum (drop (2 * l.low-index) l.bytes) ≡ crc_of l.bytes
