-- `little_endian::put_word` meets its contract: two bytes are copied, the lower first.
-- Assumes nothing.
use Rattle.model.specs.Bytes.{le16}
use Rattle.little_endian.specs.Front.{front}
use Rattle.little_endian.proofs.put_word.Goals as goal

pub returns : goal.returns
unfolding front le16
returns c = rw (c.copy_from_slice.ensures.after, c.to_le_bytes.ensures)
