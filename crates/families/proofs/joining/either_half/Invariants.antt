-- `families::joining::either_half` meets its contract. The loop's invariant: the numbers before w are made.
-- Assumes nothing.
use mathlib.Core.Path.{◌≡◌}
use Prim.Native.Nat.{ℕ, ◌+◌, ◌<◌}
use lib.ListN.{get_or}
use lib.Bits.{bit_or}
use Rattle.families.proofs.joining.either_half.Given as goal

abbrev pub invariant-loop-w : goal.invariant-loop-w
invariant-loop-w l = (i : ℕ) → i < l.w → get_or l.both i 0 ≡ bit_or (get_or l.words i 0) (get_or l.words (l.h + i) 0)
