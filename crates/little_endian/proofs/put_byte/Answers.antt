-- `little_endian::put_byte` meets its contract: one byte is stored.
-- Assumes nothing.
use Rattle.little_endian.proofs.Front.{put_one}
use Rattle.little_endian.proofs.put_byte.Goals as goal

pub returns : goal.returns
returns c = put_one _ _ c.requires.room
