-- `sheet::offer_of` meets its contract: the successors follow the count and the masks of the row.
-- Assumes nothing.
use Prim.Native.Nat.{◌+◌, ◌*◌}
use native.Mathlib.Omega.{arith}
use Rattle.sheet.specs.Offer.{offer_in}
use Rattle.sheet.proofs.Whole.{row_within}
use Rattle.sheet.proofs.offer_of.Goals as goal

pub overflow_add-result : goal.overflow_add-result
overflow_add-result c = let pre = c.requires in omega (arith, row_within pre)

pub overflow_add-result-2 : goal.overflow_add-result-2
overflow_add-result-2 c = let pre = c.requires in omega (arith, row_within pre)

pub returns : goal.returns
unfolding offer_in
returns c =
    λ i. record {
      actions = c.offered.ensures i;
      successors = c.row_start.ensures i + 1 + 2 * c.ready_count.ensures i;
    }
