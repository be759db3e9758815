-- `families::masks_in` meets its contract. The loop's invariant: n of the number's masks are written, and those of `rest` are left.
-- Assumes nothing.
use Prim.Native.Nat.{◌^◌, ◌≤◌, ◌<◌}
use Rattle.families.specs.Families.{masks_in}
use Rattle.little_endian.proofs.OneByOne.{Writing}
use Rattle.families.proofs.masks_in.Given as goal

abbrev pub invariant-loop-rest : goal.invariant-loop-rest
invariant-loop-rest l = (l.n ≤ l.room) × (l.rest < 2 ^ 64) × Writing (masks_in l.w l.word) l.initial.out l.out l.n (masks_in l.w l.rest)

abbrev pub decreases-loop-rest : goal.decreases-loop-rest
decreases-loop-rest l = l.rest
