-- `plan::read::figures_in_range` meets its contract: the four tests, one after the other.
-- Assumes nothing.
use native.Mathlib.Omega.{arith}
use Rattle.std.proofs.lemmas.Bool.Decides.{nat_tests}
use Rattle.plan.specs.Layout.{figures_in_range}
use Rattle.plan.proofs.read.figures_in_range.Goals as goal

pub returns-then-n-le7 : goal.returns-then-n-le7
unfolding figures_in_range
returns-then-n-le7 c = grind (arith, nat_tests)

pub returns-else-n-le7 : goal.returns-else-n-le7
unfolding figures_in_range
returns-else-n-le7 c = grind (arith, nat_tests)
