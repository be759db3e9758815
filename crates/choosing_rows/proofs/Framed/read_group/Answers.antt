-- `choosing_rows::Framed::read_group` meets its contract: a law for each answer, in the order of the tests.
-- Assumes nothing.
use mathlib.Core.Path.{◌∙◌}
use native.Mathlib.Omega.{arith}
use Rattle.model.specs.Bytes.{byte}
use Rattle.choosing_rows.proofs.GroupAnswers.{group-none, group-few, group-many, group-cut, group-rows}
use Rattle.choosing_rows.proofs.Framed.read_group.Goals as goal
use Rattle.choosing_rows.proofs.Framed.read_group.Goals.{then-count-lt1-via-then-count-lt1, then-count-lt1-via-else-count-lt1+then-count-gt8, then-count-lt1-via-else-count-lt1+else-count-gt8+then-index-at-2}

pub returns-then-index-at : goal.returns-then-index-at
returns-then-index-at c = group-none _ _ _ c.if-index-at.true

pub returns-then-count-lt1 : goal.returns-then-count-lt1
unfolding byte
returns-then-count-lt1 c =
    elim c.then-count-lt1.branch [
      | then-count-lt1-via-then-count-lt1 w ↦ group-few _ _ _ c.if-index-at.false w.if-count-lt1.true
      | then-count-lt1-via-else-count-lt1+then-count-gt8 w ↦ group-many _ _ _ c.if-index-at.false w.if-count-lt1.false (omega arith)
      | then-count-lt1-via-else-count-lt1+else-count-gt8+then-index-at-2 w ↦
          group-cut _ _ _ c.if-index-at.false w.if-count-lt1.false (omega arith) w.if-index-at-2.true
    ]

pub returns : goal.returns
unfolding byte
returns c =
    c.read_targets.ensures
    ∙ group-rows _ _ _ c.if-index-at.false c.if-count-lt1.false (omega arith) c.if-index-at-2.false
