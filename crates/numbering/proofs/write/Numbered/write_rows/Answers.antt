-- `numbering::write::Numbered::write_rows` meets its contract. The rows of the first p states stand at the front of what was lent, one directly
-- behind the other, up to `at`. When these are all states, all rows are written.
-- Assumes nothing.
use mathlib.Core.Path.{refl}
use native.Mathlib.Omega.{arith}
use Rattle.lists.proofs.numbering.Parts.{rows-begun, rows_next, rows_written, rows-within}
use Rattle.numbering.proofs.records.States.{rows-done, next-state, next_row, row-to-write, more-few}
use Rattle.numbering.specs.Table.{kept_rows_at}
use Rattle.numbering.proofs.write.Numbered.write_rows.Goals as goal

pub loop-p-init : goal.loop-p-init
loop-p-init c = rows-begun (kept_rows_at c.args.self.now.count c.args.self.now.work.now) c.args.out.now

pub state_at-requires : goal.state_at-requires
state_at-requires c = record { state = next-state c.args.self.now.work.now (c.requires.writing.table) c.loop-p-test.true c.from-p-end.ensures }

pub write_row-at-requires : goal.write_row-at-requires
write_row-at-requires c = record { writing = row-to-write c.args.self.now.work.now (c.requires.writing.table) c.loop-p-test.true c.from-p-end.ensures c.state_at.ensures.situation (c.requires.writing.room) c.loop-p.invariant }

pub loop-p-preserved : goal.loop-p-preserved
loop-p-preserved c = rows_next (c.requires.writing.room) c.loop-p.invariant (next_row c.args.self.now.work.now (c.requires.writing.table) c.loop-p-test.true c.from-p-end.ensures c.state_at.ensures.situation) c.write_row-at.ensures.written

pub returns : goal.returns
returns c = record { written = rows_written (c.requires.writing.room) c.loop-p.invariant (rows-done c.args.self.now.work.now (c.requires.writing.table) c.loop-p-test.false c.from-p-end.ensures) refl }

pub slice_bounds-write_row-count : goal.slice_bounds-write_row-count
slice_bounds-write_row-count c = omega (arith, rows-within c.requires.writing.room c.loop-p.invariant, c.loop-p.auto.out)

pub slice_bounds-write_row-start : goal.slice_bounds-write_row-start
slice_bounds-write_row-start c = omega (arith, rows-within c.requires.writing.room c.loop-p.invariant, c.loop-p.auto.out)

pub overflow_add-at : goal.overflow_add-at
overflow_add-at c = omega (arith, more-few c.args.self.now.work.now c.requires.writing.table c.loop-p-test.true c.from-p-end.ensures c.state_at.ensures.situation c.loop-p.invariant.measured c.write_row-at.ensures.written.size_is)
