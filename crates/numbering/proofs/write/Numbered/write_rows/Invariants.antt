-- `numbering::write::Numbered::write_rows` meets its contract. The rows of the first p states stand at the front of what was lent, one directly
-- behind the other, up to `at`. When these are all states, all rows are written.
-- Assumes nothing.
use Rattle.lists.proofs.numbering.Parts.{WritingRows}
use Rattle.numbering.specs.Table.{kept_rows_at}
use Rattle.numbering.proofs.write.Numbered.write_rows.Given as goal

abbrev pub invariant-loop-p : goal.invariant-loop-p
invariant-loop-p l = WritingRows (kept_rows_at l.self.count l.self.work.now) l.p l.at l.fn.out l.out
