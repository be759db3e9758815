-- `nodes::write::rows_length` meets its contract. The invariant: the rows before state q have `at` bytes, whatever the successors are, and
-- at most 31 each.
-- Assumes nothing.
use mathlib.Core.Path.{ap}
use native.Mathlib.Omega.{arith}
use lib.ListN.{length}
use Rattle.nodes.specs.Tables.{Tables}
use Rattle.nodes.proofs.Tables.{rows_all, rows_end, rows-length-more, held-short, held-upto}
use Rattle.nodes.proofs.write.rows_length.Goals as goal

pub loop-q-init : goal.loop-q-init
loop-q-init c =
    let a = c.args in (
      λ next. omega (arith, ap length (rows_all (record { sizes = a.sizes.now; ready = a.ready.now; next = next }) a.count)),
      omega arith,
    )

pub row_length_at-at-requires : goal.row_length_at-at-requires
row_length_at-at-requires c = held-upto c.requires c.loop-q.q (omega arith)

pub overflow_add-at : goal.overflow_add-at
overflow_add-at c =
    let l = c.loop-q in
    let held = c.requires in
    omega (arith, l.invariant.1, held.few, c.row_length_at-at.ensures, held-short held l.q (omega arith))

pub loop-q-preserved : goal.loop-q-preserved
loop-q-preserved c =
    let a = c.args in
    let l = c.loop-q in
    let size = c.row_length_at-at.ensures in (
      λ next.
          let t : Tables = record { sizes = a.sizes.now; ready = a.ready.now; next = next } in
          omega (arith, l.invariant.0 next, size, rows-length-more t a.count l.q (omega arith)),
      omega (arith, l.invariant.1, size, held-short c.requires l.q (omega arith)),
    )

pub returns : goal.returns
returns c =
    let a = c.args in
    let l = c.loop-q in (
      omega (arith, l.invariant.1),
      λ next.
          let t : Tables = record { sizes = a.sizes.now; ready = a.ready.now; next = next } in
          omega (arith, l.invariant.0 next, ap length (rows_end t a.count l.q (omega arith))),
    )
