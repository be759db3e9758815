-- `runs::standstills::count_with` meets its contract: it finds at most one standstill at each of the state's ready sets.
-- Assumes nothing.
use Prim.Native.Nat.{◌≤◌}
use Rattle.runs.proofs.standstills.count_with.Given as goal

abbrev pub invariant-loop-i : goal.invariant-loop-i
invariant-loop-i l = l.found ≤ l.i
