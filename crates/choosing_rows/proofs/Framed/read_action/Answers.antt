-- `choosing_rows::Framed::read_action` meets its contract: an action that the mask has not leads to no row, any other to those of its group.
-- Assumes nothing.
use mathlib.Core.Path.{sym, ◌∙◌}
use Rattle.nodes.proofs.Sets.{tested}
use Rattle.choosing_rows.proofs.Reading.{none-group, some-group}
use Rattle.choosing_rows.proofs.OpenRows.{action-none, action-bad, action-rows}
use Rattle.choosing_rows.proofs.Framed.read_action.Goals as goal

pub returns-then-not-has : goal.returns-then-not-has
returns-then-not-has c =
    action-none _ _ _ _ _ c.args.targets.now c.args.place (sym (tested _ c.has.ensures) ∙ c.if-not-has.true)
    c.requires.2

pub returns-in_err-set : goal.returns-in_err-set
returns-in_err-set c =
    rw c.from_residual.ensures
    (action-bad _ _ _ _ _ (sym (tested _ c.has.ensures) ∙ c.if-not-has.false)
    (none-group c.read_group.ensures c.in_err-set.was))

pub returns : goal.returns
returns c =
    let group = some-group c.read_group.ensures c.in_ok-set.was in
    let given = c.args in
    action-rows _ _ _ _ _ (sym (tested _ c.has.ensures) ∙ c.if-not-has.false) given.targets.now given.place
    group.1 group.2
