-- `lent::left::record_is` meets its contract: part by part.
-- Assumes nothing.
use Rattle.std.proofs.Common.{arith}
use Rattle.std.proofs.lemmas.Grind.{common_steps}
use Rattle.lent.specs.Counts.{singles, filled_with}
use Rattle.lent.proofs.left.record_is.Goals as goal

pub returns-then-all_are-4 : goal.returns-then-all_are-4
unfolding singles filled_with
returns-then-all_are-4 c = grind (arith, common_steps)

pub returns-else-all_are-4 : goal.returns-else-all_are-4
unfolding singles filled_with
returns-else-all_are-4 c = grind (arith, common_steps)
