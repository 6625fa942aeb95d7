-- No port carries more than the serial one. Assumes nothing.
use Prim.Native.Nat.{◌≤◌}
use lib.Dec.{lit≤}
use Rattle.ports.specs.Ports.{limits}
use Rattle.ports.specs.declared.Port.{Port}
use Rattle.ports.specs.declared.Port.TheVariants.{Serial, Radio}

pub longest_most : (p : Port) → (limits p).longest ≤ 256
longest_most Serial = lit≤ tt
longest_most Radio = lit≤ tt

pub registers_most : (p : Port) → (limits p).registers ≤ 125
registers_most Serial = lit≤ tt
registers_most Radio = lit≤ tt
