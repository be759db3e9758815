-- `sheet::parts::check_row` meets its contract: a law for each answer, in the order of the tests.
-- Assumes nothing.
use Rattle.std.proofs.Common.{◌∙◌, ⊎_elim}
use Rattle.model.specs.Bytes.{byte}
use Rattle.sheet.specs.Answers.{fault_of}
use Rattle.sheet.proofs.Answers.{passed-up}
use Rattle.sheet.proofs.RowAnswers.{row-none, row-few, row-many, row_cut, row-fault, row_union}
use Rattle.sheet.proofs.parts.check_row.Goals as goal

pub returns-then-index-at : goal.returns-then-index-at
returns-then-index-at c = row-none _ _ _ _ c.if-index-at.true

pub returns-then-count-lt1 : goal.returns-then-count-lt1
unfolding byte
returns-then-count-lt1 c =
    ⊎_elim (row-few _ _ _ _ c.if-index-at.false) (λ w. row-many _ _ _ _ c.if-index-at.false w.0 w.1) c.then-count-lt1.either

pub returns-then-index-behind : goal.returns-then-index-behind
unfolding byte
returns-then-index-behind c =
    row_cut _ _ _ _ c.if-index-at.false c.if-count-lt1.false c.if-count-gt8.false c.if-index-behind.true

pub returns-in_err-union : goal.returns-in_err-union
unfolding byte
returns-in_err-union c =
    passed-up fault_of c.from_residual.result _ c.from_residual.ensures.1
    ∙ row-fault _ _ _ _ c.if-index-at.false c.if-count-lt1.false c.if-count-gt8.false c.if-index-behind.false _ c.in_err-union.ensures

pub returns : goal.returns
unfolding byte
returns c =
    c.check_behind.ensures
    ∙ row_union _ _ _ _ c.if-index-at.false c.if-count-lt1.false c.if-count-gt8.false c.if-index-behind.false _ c.in_ok-union.ensures
