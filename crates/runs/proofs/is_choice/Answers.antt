-- `runs::is_choice` meets its contract: the second mask is asked for where the first is a ready set.
-- Assumes nothing.
use Rattle.runs.specs.Runs.{run_of}
use Rattle.runs.proofs.Attempting.{choice-both, choice-fails}
use Rattle.runs.proofs.is_choice.Goals as goal

pub returns-then-is_ready : goal.returns-then-is_ready
unfolding run_of
returns-then-is_ready c = choice-both _ _ _ _ _ c.is_ready.ensures c.if-is_ready.true c.is_ready-then-is_ready.ensures

pub returns-else-is_ready : goal.returns-else-is_ready
unfolding run_of
returns-else-is_ready c = choice-fails _ _ _ _ _ c.is_ready.ensures c.if-is_ready.false
