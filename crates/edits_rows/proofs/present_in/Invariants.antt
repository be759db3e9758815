-- `edits_rows::present_in` meets its contract. The loop's invariant: a code of the row is marked, or it stands from place i on.
-- Assumes nothing.
use Rattle.model.specs.Plan.{read_moves}
use Rattle.edits.specs.Places.{codes_in}
use Rattle.edits_rows.proofs.Marks.{Marked}
use Rattle.edits_rows.proofs.present_in.Given as goal

abbrev pub invariant-loop-i : goal.invariant-loop-i
invariant-loop-i l = Marked (codes_in (read_moves l.plan l.row.first l.row.size)) l.row.size l.present l.i
