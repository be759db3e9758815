-- `nodes::write::put_row` meets its contract: the count, the masks and the successors, each directly behind the one before.
-- Assumes nothing.
use mathlib.Core.Path.{ap}
use Prim.Native.Nat.{ℕ}
use native.Mathlib.Omega.{arith}
use Rattle.sheet.specs.Union.{ones_below}
use Rattle.sheet.proofs.Ones.{ones-few}
use Rattle.nodes.proofs.Tables.{successors-length, row-size-ones, row_written}
use Rattle.nodes.proofs.write.put_row.Goals as goal

pub put_byte-requires : goal.put_byte-requires
put_byte-requires c = record { room = omega (arith, row-size-ones c.args.masks.now) }

pub slice_bounds-put_masks-count : goal.slice_bounds-put_masks-count
slice_bounds-put_masks-count c = omega (arith, row-size-ones c.args.masks.now)

pub slice_bounds-put_masks-start : goal.slice_bounds-put_masks-start
slice_bounds-put_masks-start c = omega (arith, row-size-ones c.args.masks.now)

pub put_masks-requires : goal.put_masks-requires
put_masks-requires c = omega (arith, row-size-ones c.args.masks.now)

pub slice_bounds-put_successors-count : goal.slice_bounds-put_successors-count
slice_bounds-put_successors-count c =
    omega (arith, row-size-ones c.args.masks.now)

pub slice_bounds-put_successors-start : goal.slice_bounds-put_successors-start
slice_bounds-put_successors-start c =
    omega (arith, row-size-ones c.args.masks.now)

pub put_successors-requires : goal.put_successors-requires
put_successors-requires c =
    let ones = ap (λ (mask : ℕ). ones_below mask 14) c.union_of.ensures in
    (c.requires.1, omega (arith, row-size-ones c.args.masks.now, ones))

pub overflow_add-result : goal.overflow_add-result
overflow_add-result c =
    let a = c.args in
    let union = c.union_of.result in
    let size = c.put_successors.ensures.size_is in
    omega (arith, size, successors-length a.next.now a.base union, ones-few union 14)

pub returns : goal.returns
returns c =
    let a = c.args in
    row_written a.masks.now a.next.now a.base c.requires.2 c.put_byte.ensures c.put_masks.ensures
    c.union_of.ensures c.put_successors.ensures
