-- `nodes::write::put_index` meets its contract. The invariant, whatever the successors are: all but the entries from state q on are
-- written, up to place 2·q, and the row of state q is at `row`.
-- Assumes nothing.
use mathlib.Core.Path.{refl}
use mathlib.Core.List.{List, []}
use Prim.Native.Nat.{ℕ}
use native.Mathlib.Omega.{arith}
use Rattle.model.proofs.PlanBytes.{length-16}
use Rattle.nodes.specs.Tables.{Tables}
use Rattle.nodes.proofs.Writing.{writing-begun, writing-length, writing-room, writing-ends}
use Rattle.nodes.proofs.Writing.{wrote-word, piece-room, writing_more, writing-at}
use Rattle.nodes.proofs.Tables.{index-all, index-more, index-end, index-length, held-short, held-upto}
use Rattle.nodes.proofs.write.put_index.Goals as goal

pub loop-q-init : goal.loop-q-init
loop-q-init c =
    let a = c.args in
    let tables : List ℕ → Tables = λ next. record { sizes = a.sizes.now; ready = a.ready.now; next = next } in (
      λ next. writing-begun (index-all (tables next) a.count) (omega (arith, index-length (tables next) a.count, c.requires.1)),
      omega arith,
    )

pub slice_bounds-put_word-count : goal.slice_bounds-put_word-count
slice_bounds-put_word-count c = omega (arith, writing-room (c.loop-q.invariant.0 []))

pub slice_bounds-put_word-start : goal.slice_bounds-put_word-start
slice_bounds-put_word-start c = omega (arith, writing-room (c.loop-q.invariant.0 []))

pub overflow_cast-row : goal.overflow_cast-row
overflow_cast-row c = omega (arith, c.loop-q.invariant.1, c.requires.0.few)

pub put_word-requires : goal.put_word-requires
put_word-requires c =
    record {
      room =
          let a = c.args in
          let tables : List ℕ → Tables = λ next. record { sizes = a.sizes.now; ready = a.ready.now; next = next } in
          let l = c.loop-q in
          let entry = index-more (tables []) a.count l.row l.q (omega arith) refl in
          omega (arith, piece-room (l.invariant.0 []) entry, length-16 l.row);
    }

pub row_length_at-row-requires : goal.row_length_at-row-requires
row_length_at-row-requires c =
    held-upto c.requires.0 c.loop-q.q (omega arith)

pub overflow_add-row : goal.overflow_add-row
overflow_add-row c =
    let held = c.requires.0 in
    let l = c.loop-q in
    omega (arith, l.invariant.1, held.few, c.row_length_at-row.ensures, held-short held l.q (omega arith))

pub loop-q-preserved : goal.loop-q-preserved
loop-q-preserved c =
    let a = c.args in
    let tables : List ℕ → Tables = λ next. record { sizes = a.sizes.now; ready = a.ready.now; next = next } in
    let l = c.loop-q in
    let size = c.row_length_at-row.ensures in (
      λ next.
          writing-at
          (writing_more (l.invariant.0 next) (index-more (tables next) a.count l.row l.q (omega arith) size)
          (wrote-word l.row c.put_word.ensures))
          (omega arith),
      omega (arith, l.invariant.1, size, held-short c.requires.0 l.q (omega arith)),
    )

pub shape_of-out : goal.shape_of-out
shape_of-out c = writing-length (c.loop-q.invariant.0 [])

pub returns : goal.returns
returns c =
    let a = c.args in
    let tables : List ℕ → Tables = λ next. record { sizes = a.sizes.now; ready = a.ready.now; next = next } in
    let l = c.loop-q in
    λ next. (writing-ends (l.invariant.0 next) (index-end (tables next) a.count l.row l.q (omega arith))).in_front
