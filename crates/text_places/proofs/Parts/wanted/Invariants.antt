-- `text_places::Parts::wanted` meets its contract. The loop's invariant: the set has the first place and those behind the prefixes before
-- place p.
-- Assumes nothing.
use Rattle.text_places.specs.Wanted.{Wanting}
use Rattle.text_places.proofs.Parts.wanted.Given as goal

abbrev pub invariant-loop-p : goal.invariant-loop-p
invariant-loop-p l = Wanting l.self.cells.now l.self.bodies.now l.first l.p l.wanted.0
