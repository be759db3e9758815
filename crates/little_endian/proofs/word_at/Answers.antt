-- `little_endian::word_at` meets its contract: two bytes, the lower first.
-- Assumes nothing.
use native.Mathlib.Omega.{arith}
use Rattle.model.specs.Bytes.{byte, word}
use Rattle.little_endian.proofs.word_at.Goals as goal

pub returns : goal.returns
unfolding word byte
returns c = omega arith
