-- `sheet::successor_in` meets its contract: the byte at the place is read.
-- Assumes nothing.
use mathlib.Core.Path.{ap}
use Rattle.model.specs.Bytes.{byte}
use Rattle.sheet.proofs.successor_in.Goals as goal

pub returns : goal.returns
unfolding byte
returns c = ap (byte c.args.b.now) c.place_in.ensures
