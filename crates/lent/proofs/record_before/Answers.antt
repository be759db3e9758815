-- The record with 1 in every number, field by field.
-- Assumes nothing.
use mathlib.Core.Path.{refl}
use Rattle.lent.specs.Gives.{before}
use Rattle.lent.proofs.record_before.Goals as goal

pub returns : goal.returns
unfolding before
returns c = refl
