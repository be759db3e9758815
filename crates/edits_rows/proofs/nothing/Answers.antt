-- `edits_rows::nothing` meets its contract: where no condition is broken, all three numbers are 0.
-- Assumes nothing.
use mathlib.Core.Path.{refl}
use Rattle.edits.specs.Sound.{blamed}
use Rattle.edits_rows.proofs.nothing.Goals as goal

pub returns : goal.returns
unfolding blamed
returns c = refl
