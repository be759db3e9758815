-- `nodes::found::write_found` meets its contract: each answer is that of the states found in the tables, whichever nodes they are of.
-- Assumes nothing.
use mathlib.Core.Path.{◌∙◌}
use native.Mathlib.Omega.{arith}
use Rattle.nodes.proofs.Answering.{all-is, found-over, found-wide, found-held, found-good}
use Rattle.nodes.proofs.found.write_found.Goals as goal

pub returns-then-known-gt-STATES : goal.returns-then-known-gt-STATES
returns-then-known-gt-STATES c leads sets start nodes found =
    found-over leads sets start c.args.n _ found c.if-known-gt-STATES.true

pub all_few-requires : goal.all_few-requires
all_few-requires c = let rooms = c.requires in omega (arith, rooms.0, c.if-known-gt-STATES.false)

pub returns-then-not-all_few : goal.returns-then-not-all_few
returns-then-not-all_few c leads sets start nodes found =
    found-wide leads sets start c.args.n _ found (omega (arith, c.if-known-gt-STATES.false)) (c.all_few.ensures ∙ all-is _ _)
    c.if-not-all_few.true

pub write_sheet-requires : goal.write_sheet-requires
write_sheet-requires c =
    record {
      held =
          let rooms = c.requires in
          let few = c.if-known-gt-STATES.false in
          found-held rooms.0 rooms.1 rooms.2 (omega (arith, few)) (c.all_few.ensures ∙ all-is _ _) c.if-not-all_few.false;
    }

pub returns : goal.returns
returns c leads sets start nodes found =
    let few = c.if-known-gt-STATES.false in
    found-good leads sets start c.args.n _ found (omega (arith, few)) (c.all_few.ensures ∙ all-is _ _)
    c.if-not-all_few.false c.write_sheet.ensures.answered
