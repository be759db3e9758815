-- `nodes::write::put_trailer` meets its contract: five numbers, each directly behind the one before.
-- Assumes nothing.
use mathlib.Core.Path.{refl}
use native.Mathlib.Omega.{arith}
use Rattle.model.specs.Bytes.{le16}
use Rattle.little_endian.proofs.Front.{front-then}
use Rattle.nodes.proofs.write.put_trailer.Goals as goal

pub returns : goal.returns
unfolding le16
returns c =
    let two = front-then 2 _ _ _ _ _ c.put_word.ensures refl (omega arith) c.put_byte.ensures in
    let three = front-then 3 _ _ _ _ _ two refl (omega arith) c.put_byte-2.ensures in
    let four = front-then 4 _ _ _ _ _ three refl (omega arith) c.put_byte-3.ensures in
    front-then 5 _ _ _ _ _ four refl (omega arith) c.put_byte-4.ensures
