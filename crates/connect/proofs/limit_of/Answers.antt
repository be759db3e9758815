-- `connect::limit_of` meets its contract: the smaller of two numbers.
-- Assumes nothing.
use Rattle.model.specs.Connect.{limit_of}
use Rattle.connect.proofs.limit_of.Goals as goal

pub returns : goal.returns
unfolding limit_of
returns c = c.min.ensures
