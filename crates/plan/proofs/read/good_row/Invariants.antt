-- `plan::read::good_row` meets its contract. The loop's invariant: the row is good if its moves from the i-th on are, their codes from
-- `low` on. Assumes nothing.
use mathlib.Core.Path.{◌≡◌}
use Rattle.model.specs.Plan.{good_row, read_moves}
use Rattle.plan.proofs.Rows.{good_from, moves_from}
use Rattle.plan.proofs.read.good_row.Given as goal

abbrev pub invariant-loop-i : goal.invariant-loop-i
invariant-loop-i l =
    good_row l.n l.count (read_moves l.plan l.first l.size) ≡ good_from l.n l.count l.low (moves_from l.plan l.first l.size l.i)
