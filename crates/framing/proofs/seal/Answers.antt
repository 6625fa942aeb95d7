-- By cases on the framing. Assumes nothing.
use mathlib.Core.Path.{◌≡◌}
use mathlib.Core.List.{List}
use Prim.Native.Nat.{ℕ, ◌≤◌}
use native.Mathlib.Omega.{arith}
use lib.ListN.{length, take}
use lib.Seq.{length-take-le}
use Rattle.rtu.proofs.Stores.{framed-length}
use Rattle.ascii.proofs.Stores.{ascii_length}
use Rattle.framing.specs.Framing.{room_in, framed_in}
use Rattle.framing.proofs.seal.Goals as goal

pub seal-requires : goal.seal-requires
unfolding room_in
seal-requires c =
    let r : 513 ≤ length c.args.buffer.now = rw c.if-ascii.true at c.requires.1 in
    (omega arith, omega arith)

pub returns-then-ascii : goal.returns-then-ascii
unfolding framed_in room_in
returns-then-ascii c =
    let v : List ℕ = c.args.buffer.now in
    let r : 513 ≤ length v = rw c.if-ascii.true at c.requires.1 in
    let l : length (take c.args.n v) ≡ c.args.n = length-take-le c.args.n v (omega arith) in
    record {
      value = rw c.if-ascii.true (omega (arith, c.seal.ensures.value, ascii_length (take c.args.n v)));
      buffer_after = rw c.if-ascii.true c.seal.ensures.buffer_after;
    }

pub seal-requires-2 : goal.seal-requires-2
unfolding room_in
seal-requires-2 c =
    let r : 256 ≤ length c.args.buffer.now = rw c.if-ascii.false at c.requires.1 in
    (omega arith, omega arith)

pub returns : goal.returns
unfolding framed_in room_in
returns c =
    let v : List ℕ = c.args.buffer.now in
    let r : 256 ≤ length v = rw c.if-ascii.false at c.requires.1 in
    let l : length (take c.args.n v) ≡ c.args.n = length-take-le c.args.n v (omega arith) in
    record {
      value = rw c.if-ascii.false (omega (arith, c.seal-2.ensures.value, framed-length (take c.args.n v)));
      buffer_after = rw c.if-ascii.false c.seal-2.ensures.buffer_after;
    }
