-- `named_row::row_part` meets its contract: what was found is the part, and a refusal has the empty one.
-- Assumes nothing.
use Rattle.std.proofs.Common.{◌∙◌}
use Rattle.named_row.proofs.Rows.{part-found}
use Rattle.named_row.proofs.row_part.Goals as goal

pub returns : goal.returns
returns c = c.unwrap_or.ensures ∙ part-found _ _ _ _ _ c.find.ensures
