-- `choosing_rows::Framed::read_all` meets its contract. The invariant: row r stands at `at`, the tables hold those in front of it, and none of
-- them is at fault. Assumes nothing.
use Rattle.sheet.specs.Answers.{trailer_of}
use Rattle.choosing_rows.proofs.AllRows.{RowsSoFar}
use Rattle.choosing_rows.proofs.Framed.read_all.Given as goal

abbrev pub invariant-loop-r : goal.invariant-loop-r
invariant-loop-r l = RowsSoFar l.self.bytes.now (trailer_of l.self.trailer) l.hidden l.masks l.targets l.r l.at
