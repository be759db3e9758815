-- `edits_rows::first_code_not` meets its contract. The loop's invariant: for whatever the test computes, the first code of the row that fails
-- is the first from place i on. Assumes nothing.
use Prim.Native.Nat.{ℕ}
use mathlib.Core.Bool.{Bool}
use Rattle.model.specs.Plan.{read_moves}
use Rattle.edits.specs.Places.{codes_in}
use Rattle.edits_rows.specs.Rows.{Tells}
use Rattle.edits_rows.proofs.FirstNot.{Along}
use Rattle.edits_rows.proofs.first_code_not.Given as goal

abbrev pub invariant-loop-i : goal.invariant-loop-i
invariant-loop-i g l =
    (passes : ℕ → Bool) → Tells (goal.F-post g l.test) passes → Along passes (codes_in (read_moves l.plan l.row.first l.row.size)) l.row.size l.i
