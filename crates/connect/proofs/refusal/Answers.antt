-- `connect::refusal` meets its contract, field by field.
-- Assumes nothing.
use mathlib.Core.Path.{refl}
use Rattle.connect.specs.Answers.{answer_of, refusing}
use Rattle.connect.proofs.refusal.Goals as goal

pub returns : goal.returns
unfolding answer_of refusing
returns c = refl
