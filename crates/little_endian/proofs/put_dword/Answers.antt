-- `little_endian::put_dword` meets its contract: four bytes are copied, the lowest first.
-- Assumes nothing.
use mathlib.Core.Path.{◌≡◌}
use Prim.Native.Nat.{◌/◌}
use native.Mathlib.Omega.{arith}
use Rattle.model.specs.Bytes.{le16, le32}
use Rattle.little_endian.specs.Front.{front}
use Rattle.little_endian.proofs.put_dword.Goals as goal

pub returns : goal.returns
unfolding front le16 le32
returns c =
    let highest : c.args.x / 65536 / 256 ≡ c.args.x / 16777216 = omega arith in
    rw (c.copy_from_slice.ensures.after, c.to_le_bytes.ensures, highest)
