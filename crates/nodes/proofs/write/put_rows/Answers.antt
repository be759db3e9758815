-- `nodes::write::put_rows` meets its contract. The invariant: all but the rows from state q on are written, up to the place `at`.
-- Assumes nothing.
use native.Mathlib.Omega.{arith}
use Rattle.nodes.specs.Tables.{Tables}
use Rattle.nodes.proofs.Writing.{writing-begun, writing-length, writing-room, writing-ends}
use Rattle.nodes.proofs.Writing.{piece-fits, piece-room, writing_more}
use Rattle.nodes.proofs.Tables.{rows_all, rows_more, rows_end, row-at-size, held-upto}
use Rattle.nodes.proofs.write.put_rows.Goals as goal

pub loop-q-init : goal.loop-q-init
loop-q-init c =
    let a = c.args in
    let t : Tables = record { sizes = a.sizes.now; ready = a.ready.now; next = a.next.now } in
    writing-begun (rows_all t a.count) c.requires.1

pub slice_bounds-put_row_at-count : goal.slice_bounds-put_row_at-count
slice_bounds-put_row_at-count c = omega (arith, writing-room c.loop-q.invariant)

pub slice_bounds-put_row_at-start : goal.slice_bounds-put_row_at-start
slice_bounds-put_row_at-start c = omega (arith, writing-room c.loop-q.invariant)

pub put_row_at-at-requires : goal.put_row_at-at-requires
put_row_at-at-requires c =
    let a = c.args in
    let t : Tables = record { sizes = a.sizes.now; ready = a.ready.now; next = a.next.now } in
    let l = c.loop-q in
    let held = c.requires.0 in (
      record { sets = held-upto held.sets l.q (omega arith); next_room = held.next_room },
      omega (arith, piece-room l.invariant (rows_more t a.count l.q (omega arith)), row-at-size t a.count l.q),
    )

pub overflow_add-at : goal.overflow_add-at
overflow_add-at c =
    let a = c.args in
    let t : Tables = record { sizes = a.sizes.now; ready = a.ready.now; next = a.next.now } in
    let l = c.loop-q in
    omega (arith, piece-fits l.invariant (rows_more t a.count l.q (omega arith)), c.put_row_at-at.ensures.size_is)

pub loop-q-preserved : goal.loop-q-preserved
loop-q-preserved c =
    let a = c.args in
    let t : Tables = record { sizes = a.sizes.now; ready = a.ready.now; next = a.next.now } in
    let l = c.loop-q in
    writing_more l.invariant (rows_more t a.count l.q (omega arith)) c.put_row_at-at.ensures

pub shape_of-out : goal.shape_of-out
shape_of-out c = writing-length c.loop-q.invariant

pub returns : goal.returns
returns c =
    let a = c.args in
    let t : Tables = record { sizes = a.sizes.now; ready = a.ready.now; next = a.next.now } in
    let l = c.loop-q in
    (writing-ends l.invariant (rows_end t a.count l.q (omega arith))).in_front
