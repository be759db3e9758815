-- `little_endian::dword_at` meets its contract: four bytes, the lowest first.
-- Assumes nothing.
use mathlib.Core.Path.{◌≡◌}
use Prim.Native.Nat.{◌+◌}
use native.Mathlib.Omega.{arith}
use Rattle.model.specs.Bytes.{byte, word, dword}
use Rattle.little_endian.proofs.dword_at.Goals as goal

pub returns : goal.returns
unfolding dword word byte
returns c = let last : c.args.i + 2 + 1 ≡ c.args.i + 3 = omega arith in rw last (omega arith)
