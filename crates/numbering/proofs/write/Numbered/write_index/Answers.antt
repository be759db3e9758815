-- `numbering::write::Numbered::write_index` meets its contract. The entries of the first p rows stand at the front of what was lent, and
-- `row` is how many bytes these rows have. So the next entry is `row`; when these are all states, the index is written.
-- Assumes nothing.
use mathlib.Core.Path.{◌≡◌, refl, subst}
use mathlib.Core.List.{List}
use Prim.Native.Nat.{ℕ}
use native.Mathlib.Omega.{arith}
use Rattle.model.specs.Plan.{Move}
use Rattle.lists.proofs.numbering.Parts.{WritingIndex, index-begun, index-written, entry-room, index-next, index-within}
use Rattle.numbering.proofs.records.States.{rows-done, next-state, next_row, more-few}
use Rattle.numbering.specs.Table.{kept_rows_at}
use Rattle.numbering.proofs.write.Numbered.write_index.Goals as goal

-- a row has an entry of four bytes
entries-still : {rows : List (List Move)} {p row at at' : ℕ} {first out : List ℕ} → at ≡ at' → WritingIndex rows p row at first out
    → WritingIndex rows p row at' first out
entries-still {rows} {p} {row} {first = first} {out} e on = subst (λ (at : ℕ). WritingIndex rows p row at first out) e on

pub loop-p-init : goal.loop-p-init
loop-p-init c = index-begun (kept_rows_at c.args.self.now.count c.args.self.now.work.now) c.args.out.now

pub put_dword-requires : goal.put_dword-requires
put_dword-requires c = record { room = entry-room (c.requires.writing.room) c.loop-p.invariant (next_row c.args.self.now.work.now (c.requires.writing.table) c.loop-p-test.true c.from-p-end.ensures refl) }

pub row_length_at-row-requires : goal.row_length_at-row-requires
row_length_at-row-requires c = record { state = next-state c.args.self.now.work.now (c.requires.writing.table) c.loop-p-test.true c.from-p-end.ensures }

pub loop-p-preserved : goal.loop-p-preserved
loop-p-preserved c = entries-still (omega arith) (index-next (c.requires.writing.room) c.loop-p.invariant (next_row c.args.self.now.work.now (c.requires.writing.table) c.loop-p-test.true c.from-p-end.ensures refl) c.put_dword.ensures c.row_length_at-row.ensures.measured)

pub returns : goal.returns
returns c = record { written = index-written (c.requires.writing.room) c.loop-p.invariant (rows-done c.args.self.now.work.now (c.requires.writing.table) c.loop-p-test.false c.from-p-end.ensures) }

pub slice_bounds-put_dword-count : goal.slice_bounds-put_dword-count
slice_bounds-put_dword-count c = omega (arith, index-within c.requires.writing.room c.loop-p.invariant, c.loop-p.auto.out)

pub slice_bounds-put_dword-start : goal.slice_bounds-put_dword-start
slice_bounds-put_dword-start c = omega (arith, index-within c.requires.writing.room c.loop-p.invariant, c.loop-p.auto.out)

pub overflow_add-row : goal.overflow_add-row
overflow_add-row c = omega (arith, more-few c.args.self.now.work.now c.requires.writing.table c.loop-p-test.true c.from-p-end.ensures refl c.loop-p.invariant.measured c.row_length_at-row.ensures.measured)
