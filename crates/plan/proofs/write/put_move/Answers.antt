-- `plan::write::put_move` meets its contract: the code, and the next state behind it.
-- Assumes nothing.
use mathlib.Core.Path.{refl}
use native.Mathlib.Omega.{arith}
use Rattle.model.specs.Bytes.{le16}
use Rattle.model.specs.Plan.{move_bytes}
use Rattle.little_endian.proofs.Front.{front-then}
use Rattle.plan.proofs.write.put_move.Goals as goal

pub returns : goal.returns
unfolding move_bytes le16
returns c = front-then _ _ _ _ _ _ c.put_byte.ensures refl (omega arith)
    c.put_word.ensures
