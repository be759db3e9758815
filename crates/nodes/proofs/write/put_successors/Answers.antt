-- `nodes::write::put_successors` meets its contract. The invariant: all but the successors of the actions from j on are written, up to the
-- place `at`.
-- Assumes nothing.
use native.Mathlib.Omega.{arith}
use Rattle.nodes.proofs.Sets.{tested}
use Rattle.nodes.proofs.Writing.{writing-begun, writing-length, writing-room, writing-ends}
use Rattle.nodes.proofs.Writing.{piece-fits, piece-room, writing_more}
use Rattle.nodes.proofs.Tables.{successors-all, successors-more, successors-end, successors-length}
use Rattle.nodes.proofs.write.put_successors.Goals as goal

pub loop-j-init : goal.loop-j-init
loop-j-init c =
    let a = c.args in
    let size = successors-length a.next.now a.base a.actions in
    writing-begun (successors-all a.next.now a.base a.actions) (omega (arith, size))

pub slice_bounds-put_if-count : goal.slice_bounds-put_if-count
slice_bounds-put_if-count c = omega (arith, writing-room c.loop-j.invariant)

pub slice_bounds-put_if-start : goal.slice_bounds-put_if-start
slice_bounds-put_if-start c = omega (arith, writing-room c.loop-j.invariant)

pub put_if-at-requires : goal.put_if-at-requires
put_if-at-requires c =
    let a = c.args in
    let l = c.loop-j in
    piece-room l.invariant (successors-more a.next.now a.base a.actions l.j (omega arith) (tested _ c.has.ensures))

pub overflow_add-at : goal.overflow_add-at
overflow_add-at c =
    let a = c.args in
    let l = c.loop-j in
    let next = successors-more a.next.now a.base a.actions l.j (omega arith) (tested _ c.has.ensures) in
    omega (arith, piece-fits l.invariant next, c.put_if-at.ensures.size_is)

pub loop-j-preserved : goal.loop-j-preserved
loop-j-preserved c =
    let a = c.args in
    let l = c.loop-j in
    let next = successors-more a.next.now a.base a.actions l.j (omega arith) (tested _ c.has.ensures) in
    writing_more l.invariant next c.put_if-at.ensures

pub shape_of-out : goal.shape_of-out
shape_of-out c = writing-length c.loop-j.invariant

pub returns : goal.returns
returns c =
    let a = c.args in
    let l = c.loop-j in
    writing-ends l.invariant (successors-end a.next.now a.base a.actions l.j (omega arith))
