-- The ports and their limits. Document 02, wish 7: "Each frame call now names its port, 1 serial or 2 radio". Assumes nothing.
use Rattle.std.specs.Prelude.{true, false, cond, Option, Some, None, ℕ, eqb}
use Rattle.ports.specs.declared.Port.{Port}
use Rattle.ports.specs.declared.Port.TheVariants.{Serial, Radio}
use Rattle.ports.specs.declared.Limits.{Limits}

-- the port of a number, if it is one's
unfoldable pub port_of : ℕ → Option Port
port_of n = cond (eqb n 1) (Some Serial) (cond (eqb n 2) (Some Radio) None)

-- the port that a frame is judged by; a number that is no port's refuses the frame before this is asked, so that the second line serves no frame
abbrev pub by_default : Option Port → Port
by_default (Some p) = p
by_default None = Serial

unfoldable pub port_by : ℕ → Port
port_by n = by_default (port_of n)

-- "Radio frames are RTU of at most 64 bytes, longer ones and ASCII ones count bad without reply, and a radio read of more than 29 registers is code 3.
-- Serial keeps 256 and 125"
abbrev pub limits : Port → Limits
limits Serial = record { longest = 256; registers = 125; ascii = true }
limits Radio = record { longest = 64; registers = 29; ascii = false }
