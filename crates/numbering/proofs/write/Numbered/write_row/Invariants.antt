-- `numbering::write::Numbered::write_row` meets its contract. `rest` holds the slots of situation i whose moves are not written yet: those of the
-- slots before stand behind the row's count, up to `at`. With no slot left, the row is written.
-- Assumes nothing.
use Rattle.numbering.proofs.records.Row.{WritingRow}
use Rattle.numbering.proofs.write.Numbered.write_row.Given as goal

abbrev pub invariant-loop-rest : goal.invariant-loop-rest
invariant-loop-rest l = WritingRow l.self.count l.i l.self.work.now l.fn.out l.out l.at l.rest

abbrev pub decreases-loop-rest : goal.decreases-loop-rest
decreases-loop-rest l = l.rest
