-- `text_ready::hold_body` meets its contract: the families before its own are those of the recs that the body leads to, and the empty
-- mask joined with the body is what is written.
-- Assumes nothing.
use Rattle.text_ready.proofs.Holding.{held_more}
use Rattle.text_ready.proofs.hold_body.Goals as goal
use borrow.Author.Rules.{rules}
use mathlib.Core.Path.{refl}

pub returns : goal.returns
returns c =
    let a = c.args in
    record {
      room = search rules;
      more = λ senses x below.
          held_more a.cells.now a.bodies.now senses a.r a.held.now _ c.requires.2 c.requires.4 c.only_empty.ensures.1 c.join.ensures refl
          c.copy.ensures x below;
    }
