-- `edits_rows::first_ready_not` meets its contract. The loop's invariant: for whatever the test computes, the first ready set that fails is the
-- first from place i on. Assumes nothing.
use Prim.Native.Nat.{ℕ}
use mathlib.Core.Bool.{Bool}
use Rattle.model.specs.Contract.{state}
use Rattle.model.specs.Sheet.{contract_in}
use Rattle.edits_rows.specs.Rows.{Tells}
use Rattle.edits_rows.proofs.FirstNot.{Along}
use Rattle.edits_rows.proofs.first_ready_not.Given as goal

abbrev pub invariant-loop-i : goal.invariant-loop-i
invariant-loop-i g l =
    (passes : ℕ → Bool) → Tells (goal.F-post g l.test) passes → Along passes (state (contract_in l.b) l.q).ready l.i-end l.i
