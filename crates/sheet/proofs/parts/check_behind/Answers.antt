-- `sheet::parts::check_behind` meets its contract: a law for each answer, from the count of offered actions on.
-- Assumes nothing.
use Rattle.std.proofs.Common.{◌∙◌, arith}
use Rattle.sheet.specs.Answers.{fault_of}
use Rattle.sheet.proofs.Ones.{ones-few}
use Rattle.sheet.proofs.Answers.{passed-up}
use Rattle.sheet.proofs.RowAnswers.{behind-short, behind-fault, behind-whole}
use Rattle.sheet.proofs.parts.check_behind.Goals as goal

pub overflow_add-at : goal.overflow_add-at
overflow_add-at c = omega (arith, ones-few c.args.union 14)

pub returns-then-t-at : goal.returns-then-t-at
returns-then-t-at c = behind-short _ _ _ _ _ _ c.ones_below-offered.ensures c.if-t-at.true

pub returns-in_err-check_successors : goal.returns-in_err-check_successors
returns-in_err-check_successors c =
    passed-up fault_of c.from_residual.result _ c.from_residual.ensures.1
    ∙ behind-fault _ _ _ _ _ _ c.ones_below-offered.ensures c.if-t-at.false _ c.in_err-check_successors.ensures

pub returns : goal.returns
returns c =
    behind-whole _ _ _ _ _ _ c.ones_below-offered.ensures c.if-t-at.false c.in_ok-check_successors.ensures
