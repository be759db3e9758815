-- `families::masks` meets its contract. The loop's invariant: n of the family's masks are written, and those of the numbers from w on are left.
-- Assumes nothing.
use Prim.Native.Nat.{◌-◌, ◌≤◌}
use Rattle.families.specs.Families.{masks_of}
use Rattle.families.proofs.MasksOf.{masks_from}
use Rattle.little_endian.proofs.OneByOne.{Writing}
use Rattle.families.proofs.masks.Given as goal

abbrev pub invariant-loop-w : goal.invariant-loop-w
invariant-loop-w l = (l.n ≤ 8) × Writing (masks_of l.family) l.initial.out l.out l.n (masks_from l.family l.w)
