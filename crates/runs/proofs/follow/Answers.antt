-- `runs::follow` is safe: two sheets that the check takes have a state 0 each.
-- Assumes nothing.
use Rattle.runs.proofs.Start.{both-at-start}
use Rattle.runs.proofs.follow.Goals as goal

pub follow_sheets-requires : goal.follow_sheets-requires
follow_sheets-requires g c = both-at-start _ _ c.check_pair.ensures c.in-Ok.is
