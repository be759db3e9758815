-- `named_row::find` meets its contract: the number names the first sheet, the second, or none.
-- Assumes nothing.
use Rattle.std.proofs.Common.{ap, ◌∙◌, arith}
use Rattle.sheet.specs.Answers.{on_result}
use Rattle.named_row.specs.Answers.{part_of}
use Rattle.named_row.proofs.Rows.{found_first, found-second, found_none}
use Rattle.named_row.proofs.find.Goals as goal

pub returns-in-1 : goal.returns-in-1
returns-in-1 c = c.find_in.ensures ∙ ap (on_result part_of) (found_first _ _ _ _ c.in-1.is)

pub returns-in-2 : goal.returns-in-2
returns-in-2 c = c.find_in-in-2.ensures ∙ ap (on_result part_of) (found-second _ _ _ _ c.in-2.is)

pub returns-in_default : goal.returns-in_default
returns-in_default c = found_none _ _ _ _ (λ e. omega arith) (λ e. omega arith)
