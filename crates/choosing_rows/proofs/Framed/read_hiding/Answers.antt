-- `choosing_rows::Framed::read_hiding` meets its contract: the row is there if its group is.
-- Assumes nothing.
use Rattle.choosing_rows.proofs.Reading.{none-group, some-group}
use Rattle.choosing_rows.proofs.RowAnswers.{hiding-bad, hiding-rows}
use Rattle.choosing_rows.proofs.Framed.read_hiding.Goals as goal

pub returns-in_err-set : goal.returns-in_err-set
returns-in_err-set c = rw c.from_residual.ensures (hiding-bad _ _ _ (none-group c.read_group.ensures c.in_err-set.was))

pub returns : goal.returns
returns c =
    let given = c.args in
    let group = some-group c.read_group.ensures c.in_ok-set.was in
    hiding-rows _ _ _ given.hidden.now given.masks.now given.r group.1 group.2
