-- `choosing_rows::Framed::read_groups` meets its contract. The invariant: the groups of the actions below j are read and stand in the table.
-- Assumes nothing.
use Rattle.sheet.specs.Answers.{trailer_of}
use Rattle.choosing_rows.proofs.OpenRows.{GroupsSoFar}
use Rattle.choosing_rows.proofs.Framed.read_groups.Given as goal

abbrev pub invariant-loop-j : goal.invariant-loop-j
invariant-loop-j l = GroupsSoFar l.self.bytes.now (trailer_of l.self.trailer) l.mask l.at l.first l.initial.targets l.targets l.j l.i
