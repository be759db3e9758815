-- `plan::step_row` meets its contract. The loop's invariant: what the row holds is what its moves from the i-th on hold.
-- Assumes nothing.
use mathlib.Core.Path.{◌≡◌}
use Rattle.model.specs.Plan.{held, read_moves}
use Rattle.plan.proofs.Rows.{moves_from}
use Rattle.plan.proofs.step_row.Given as goal

abbrev pub invariant-loop-i : goal.invariant-loop-i
invariant-loop-i l = held (read_moves l.plan l.first l.size) l.code ≡ held (moves_from l.plan l.first l.size l.i) l.code
