-- `plan::read::named` meets its contract: a law for each way.
-- Assumes nothing.
use Rattle.plan.proofs.Codes.{named-takes, named-sends}
use Rattle.plan.proofs.read.named.Goals as goal

pub returns-then-j-lt7 : goal.returns-then-j-lt7
returns-then-j-lt7 c = named-takes _ _ c.if-j-lt7.true

pub returns-else-j-lt7 : goal.returns-else-j-lt7
returns-else-j-lt7 c = named-sends _ _ c.if-j-lt7.false
