-- `runs::standstills::count_standstills` is safe: each of the state's ready sets adds at most 255 to the sums.
-- Assumes nothing.
use Prim.Native.Nat.{◌≤◌, ◌*◌}
use Rattle.runs.proofs.standstills.count_standstills.Given as goal

abbrev pub invariant-loop-i : goal.invariant-loop-i
invariant-loop-i l = (l.all ≤ 255 * l.i) × (l.unmarked ≤ 255 * l.i)
