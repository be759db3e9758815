-- `plan::read::is_plan` meets its contract: a law for each test that fails, and one for the rows.
-- Assumes nothing.
use mathlib.Core.Path.{refl, sym, ◌∙◌}
use borrow.Author.Tests.{ne_eqb}
use Rattle.model.specs.Bytes.{byte}
use Rattle.plan.proofs.Trailer.{plan-short, plan-trailer, plan-index, plan-rows}
use Rattle.plan.proofs.read.is_plan.Goals as goal

pub returns-then-end-lt8 : goal.returns-then-end-lt8
returns-then-end-lt8 c = plan-short _ c.if-end-lt8.true

pub returns-then-index-count : goal.returns-then-index-count
unfolding byte
returns-then-index-count c =
    c.good_rows.ensures
    ∙ plan-rows _ c.if-end-lt8.false _ _ _ _
    c.dword_at-index.ensures
    c.word_at-count.ensures refl refl
    (sym c.figures_in_range.ensures ∙ c.if-not-figures_in_range.false) c.if-index-count.true

pub returns-else-index-count : goal.returns-else-index-count
unfolding byte
returns-else-index-count c =
    ne_eqb _ _ c.if-index-count.false
    ∙ plan-index _ c.if-end-lt8.false _ _ _ _
    c.dword_at-index.ensures c.word_at-count.ensures
    refl refl
    (sym c.figures_in_range.ensures ∙ c.if-not-figures_in_range.false) c.if-index-count.false

pub returns-then-not-figures_in_range : goal.returns-then-not-figures_in_range
unfolding byte
returns-then-not-figures_in_range c =
    plan-trailer _ c.if-end-lt8.false _ _ _ _
    c.dword_at-index.ensures c.word_at-count.ensures refl refl
    (sym c.figures_in_range.ensures ∙ c.if-not-figures_in_range.true)
