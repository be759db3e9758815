-- `families::joining::no_mask` meets its contract. The invariant: the numbers that were passed are 0, those at the start and those at the end.
-- Assumes nothing.
use mathlib.Core.Path.{◌≡◌}
use Prim.Native.Nat.{ℕ, ◌-◌, ◌<◌}
use lib.ListN.{get_or}
use Rattle.families.proofs.joining.no_mask.Given as goal

abbrev pub invariant-loop-i : goal.invariant-loop-i
invariant-loop-i l = (j : ℕ) → j < l.i → (get_or l.words j 0 ≡ 0) × (get_or l.words (l.end - 1 - j) 0 ≡ 0)
