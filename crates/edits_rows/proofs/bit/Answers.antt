-- `edits_rows::bit` meets its contract: 1 shifted to the left by 13 places at most stays within 16 bits.
-- Assumes nothing.
use native.Mathlib.Omega.{arith}
use Rattle.sheet.proofs.Ones.{one_shifted}
use Rattle.edits_rows.proofs.bit.Goals as goal

pub returns : goal.returns
returns c = one_shifted _ 13 c.requires (omega arith)
