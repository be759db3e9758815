-- The measure is the number of places by its power: the call for half of them has one less.
-- Assumes nothing.
use Prim.Native.Nat.{◌+◌, ◌*◌}
use Rattle.families.proofs.joining.+unions_within.Given as goal

abbrev pub decreases-unions_within : goal.decreases-unions_within
decreases-unions_within l = l.bits * 2

abbrev pub decreases-half : goal.decreases-half
decreases-half l = l.j * 2 + 1
