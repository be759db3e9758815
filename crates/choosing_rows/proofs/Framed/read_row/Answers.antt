-- `choosing_rows::Framed::read_row` meets its contract: the first byte says whether the row is hiding, open, or none.
-- Assumes nothing.
use native.Mathlib.Omega.{arith}
use Rattle.model.specs.Bytes.{byte}
use Rattle.choosing_rows.proofs.Reading.{read_is}
use Rattle.choosing_rows.proofs.RowAnswers.{row-none, row_other, row-hides, row_opens}
use Rattle.choosing_rows.proofs.Framed.read_row.Goals as goal

pub returns-then-index-at : goal.returns-then-index-at
returns-then-index-at c = row-none _ _ _ c.if-index-at.true

pub returns-in-0 : goal.returns-in-0
unfolding byte
returns-in-0 c = row-hides _ _ _ c.if-index-at.false c.in-0.is c.requires.blank c.read_hiding.ensures

pub returns-in-1 : goal.returns-in-1
unfolding byte
returns-in-1 c = read_is c.read_open.ensures (row_opens _ _ _ c.if-index-at.false (λ e. omega (arith, c.in-1.is, e)) c.in-1.is)

pub returns-in_default : goal.returns-in_default
unfolding byte
returns-in_default c = row_other _ _ _ c.if-index-at.false (λ e. omega (arith, e)) (λ e. omega (arith, e))
