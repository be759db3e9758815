-- `families::gain_high` meets its contract. The loop's invariant: the numbers from w on have gained the action, the others are as lent.
-- Assumes nothing.
use mathlib.Core.Path.{◌≡◌}
use Prim.Native.Nat.{ℕ, ◌+◌, ◌≤◌, ◌<◌}
use lib.ListN.{get_or}
use Rattle.families.proofs.Gaining.{GainedWord}
use Rattle.families.proofs.gain_high.Given as goal

abbrev pub invariant-loop-w : goal.invariant-loop-w
invariant-loop-w l =
    ((i : ℕ) → l.w ≤ i → i < 256 → GainedWord l.initial.family (6 + l.b) i (get_or l.family i 0))
    × ((i : ℕ) → i < l.w → get_or l.family i 0 ≡ get_or l.initial.family i 0)
