-- `text_ready::hold_bodies` meets its contract. The loop's invariant: the families of the bodies of the recs below r stand there.
-- Assumes nothing.
use mathlib.Core.List.{List}
use Rattle.text.specs.Places.{Sense}
use Rattle.text.specs.Cells.{Explained}
use Rattle.text_ready.specs.Ready.{HeldBelow}
use Rattle.text_ready.proofs.hold_bodies.Given as goal

abbrev pub invariant-loop-r : goal.invariant-loop-r
invariant-loop-r l =
    (senses : List Sense) → Explained l.cells l.bodies senses → HeldBelow l.cells l.bodies senses l.held l.r
