-- `named_row::row_refusal` meets its contract: a refusal is passed on, and what was found has none.
-- Assumes nothing.
use Rattle.std.proofs.Common.{◌∙◌}
use Rattle.named_row.proofs.Rows.{refusal-none, refusal-found}
use Rattle.named_row.proofs.row_refusal.Goals as goal

pub returns-in-Ok : goal.returns-in-Ok
returns-in-Ok c = refusal-none _ _ _ _ _ c.find.ensures c.in-Ok.is

pub returns-in-Err : goal.returns-in-Err
returns-in-Err c = c.from.ensures ∙ refusal-found _ _ _ _ _ c.find.ensures c.in-Err.is
