-- `nodes::write::row_length` meets its contract: a byte for each action in the union of the ready sets.
-- Assumes nothing.
use mathlib.Core.Path.{ap}
use Prim.Native.Nat.{ℕ}
use native.Mathlib.Omega.{arith}
use Rattle.sheet.specs.Union.{ones_below}
use Rattle.sheet.proofs.Ones.{ones-few}
use Rattle.nodes.proofs.Tables.{row-size-ones}
use Rattle.nodes.proofs.write.row_length.Goals as goal

pub overflow_add-result-2 : goal.overflow_add-result-2
overflow_add-result-2 c = omega (arith, c.ones_below.ensures, ones-few c.union_of.result 14)

pub returns : goal.returns
returns c =
    let masks = c.args.masks.now in
    let ones = ap (λ (mask : ℕ). ones_below mask 14) c.union_of.ensures in
    omega (arith, c.ones_below.ensures, ones, row-size-ones masks)
