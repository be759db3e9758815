-- `plan::write::put_trailer` meets its contract: four numbers, each directly behind the one before.
-- Assumes nothing.
use mathlib.Core.Path.{refl}
use native.Mathlib.Omega.{arith}
use Rattle.model.specs.Bytes.{le16, le32}
use Rattle.little_endian.proofs.Front.{front-then}
use Rattle.plan.proofs.write.put_trailer.Goals as goal

pub returns : goal.returns
unfolding le32 le16
returns c =
    let first = c.put_dword.ensures in
    let second = front-then 4 _ _ _ _ _ first refl (omega arith)
    c.put_word.ensures in
    let third = front-then 6 _ _ _ _ _ second refl (omega arith) c.put_byte.ensures in
    front-then 7 _ _ _ _ _ third refl (omega arith) c.put_byte-2.ensures
