-- `bits::has` meets its contract: a shift to the right is a division by a power of 2.
-- Assumes nothing.
use mathlib.Core.Path.{refl}
use Rattle.model.specs.Contract.{has}
use Rattle.bits.proofs.has.Goals as goal

pub returns : goal.returns
unfolding has
returns g c = (c.into-wide.result, c.into-wide.ensures, refl)
