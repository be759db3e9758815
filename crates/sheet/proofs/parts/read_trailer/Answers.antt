-- `sheet::parts::read_trailer` meets its contract: the fields are the numbers at the same places.
-- Assumes nothing.
use Rattle.model.specs.Bytes.{byte}
use Rattle.model.specs.Sheet.{trailer}
use Rattle.sheet.proofs.parts.read_trailer.Goals as goal

pub returns : goal.returns
unfolding trailer byte
returns c = rw c.word_at.ensures
