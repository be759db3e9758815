-- `sheet::parts::good_trailer` meets its contract: its numbers are the definition's.
-- Assumes nothing.
use Rattle.model.specs.Sheet.{good_trailer}
use Rattle.sheet.proofs.parts.good_trailer.Goals as goal

pub returns : goal.returns
unfolding good_trailer
returns c = c.trailer_within.ensures
