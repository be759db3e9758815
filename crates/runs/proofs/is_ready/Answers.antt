-- `runs::is_ready` meets its contract: the mask is listed if some ready set is it.
-- Assumes nothing.
use mathlib.Core.Path.{sym}
use lib.Dec.{eqb}
use Rattle.std.proofs.Common.{rules}
use Rattle.model.specs.Test.{listed}
use Rattle.runs.proofs.is_ready.Goals as goal

pub returns : goal.returns
unfolding listed
returns c = c.any_ready.ensures (eqb c.args.mask) (λ x r e. search rules)
