-- `numbering::write::Numbered::write_index` meets its contract. The entries of the first p rows stand at the front of what was lent, and
-- `row` is how many bytes these rows have. So the next entry is `row`; when these are all states, the index is written.
-- Assumes nothing.
use Prim.Native.Nat.{◌*◌}
use Rattle.lists.proofs.numbering.Parts.{WritingIndex}
use Rattle.numbering.specs.Table.{kept_rows_at}
use Rattle.numbering.proofs.write.Numbered.write_index.Given as goal

abbrev pub invariant-loop-p : goal.invariant-loop-p
invariant-loop-p l = WritingIndex (kept_rows_at l.self.count l.self.work.now) l.p l.row (4 * l.p) l.fn.out l.out
