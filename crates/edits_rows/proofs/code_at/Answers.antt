-- `edits_rows::code_at` meets its contract: each move takes three bytes, and its code is the first of them.
-- Assumes nothing.
use Rattle.model.specs.Bytes.{byte}
use Rattle.edits_rows.proofs.RowCodes.{code-stands}
use Rattle.edits_rows.proofs.code_at.Goals as goal

pub returns : goal.returns
unfolding byte
returns c = code-stands _ _ _ _ c.requires.1
