-- The owner that a frame names. Assumes nothing.
use mathlib.Core.List.{List}
use Prim.Native.Nat.{ℕ, ◌≤◌}
use native.Mathlib.Omega.{arith}
use lib.Dec.{lit≤}
use Rattle.plans.specs.declared.Plan.{Plan}
use Rattle.plans.specs.declared.Plan.TheVariants.{Bad, Foreign, BroadcastRead, Refused, Reading, Writing}
use Rattle.plans.proofs.Plans.{Facts}
use Rattle.admission.specs.Steps.{owner_of}

-- is the device or a sensor
pub owner_below : (body : List ℕ) (p : Plan) → Facts body p → owner_of p ≤ 4
owner_below body Bad f = lit≤ tt
owner_below body Foreign f = lit≤ tt
owner_below body BroadcastRead f = lit≤ tt
owner_below body (Refused code) f = lit≤ tt
owner_below body (Reading start count) f = omega (arith, f.least, f.ends)
owner_below body (Writing o x v) f = f.located.owner_most
