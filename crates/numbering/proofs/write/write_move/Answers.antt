-- `numbering::write::write_move` meets its contract: the move with the code of the slot.
-- Assumes nothing.
use Rattle.lists.proofs.numbering.Row.{move-written}
use Rattle.numbering.proofs.write.write_move.Goals as goal

pub returns : goal.returns
returns c = move-written _ _ _ c.code_at.ensures c.put_move.ensures
