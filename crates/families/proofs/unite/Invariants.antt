-- `families::unite` meets its contract. The loop's invariant: the numbers before w are united, the others are as lent.
-- Assumes nothing.
use mathlib.Core.Path.{◌≡◌}
use Prim.Native.Nat.{ℕ, ◌≤◌, ◌<◌}
use lib.ListN.{get_or}
use lib.Bits.{bit_or}
use Rattle.families.proofs.unite.Given as goal

abbrev pub invariant-loop-w : goal.invariant-loop-w
invariant-loop-w l =
    ((i : ℕ) → i < l.w → get_or l.family i 0 ≡ bit_or (get_or l.initial.family i 0) (get_or l.other i 0))
    × ((i : ℕ) → l.w ≤ i → get_or l.family i 0 ≡ get_or l.initial.family i 0)
