-- `text_places::Tables::fill_wanted` meets its contract. The loop's invariant: all places of the set before place p are written.
-- Assumes nothing.
use Rattle.text_places.specs.Lent.{SameTables, FillingIn}
use Rattle.text_places.proofs.Tables.fill_wanted.Given as goal

abbrev pub invariant-loop-p : goal.invariant-loop-p
invariant-loop-p l = record {
  same : SameTables l.initial.self l.self;
  filled : FillingIn l.parts l.wanted.0 l.p l.self;
}
