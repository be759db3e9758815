-- `lent::left::digest` meets its contract: the next byte is one more of those that the figure is of.
-- Assumes nothing.
use Rattle.std.proofs.Common.{arith}
use Rattle.std.proofs.lemmas.List.Sums.{fold_more}
use Rattle.lent.specs.Counts.{digested}
use Rattle.lent.proofs.left.digest.Goals as goal

pub loop-byte-preserved : goal.loop-byte-preserved
unfolding digested
loop-byte-preserved c = (omega arith, grind (arith, fold_more))
