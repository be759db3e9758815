-- `choosing_rows::Framed::read_open` meets its contract: two tests, and the groups behind the mask.
-- Assumes nothing.
use mathlib.Core.Path.{sym, ◌∙◌}
use Rattle.choosing_rows.proofs.RowAnswers.{open-cut, open-stray, open-groups}
use Rattle.choosing_rows.proofs.Framed.read_open.Goals as goal

pub returns-then-index-at : goal.returns-then-index-at
returns-then-index-at c = open-cut _ _ _ c.if-index-at.true

pub returns-then-stray_bit : goal.returns-then-stray_bit
returns-then-stray_bit c =
    open-stray _ _ _ c.if-index-at.false _ c.word_at-mask.ensures (sym c.stray_bit.ensures ∙ c.if-stray_bit.true)

pub returns : goal.returns
returns c =
    open-groups _ _ _ c.if-index-at.false _ c.word_at-mask.ensures (sym c.stray_bit.ensures ∙ c.if-stray_bit.false)
    c.read_groups.ensures
