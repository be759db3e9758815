-- `connect::with_counts` meets its contract, field by field.
-- Assumes nothing.
use mathlib.Core.Path.{refl}
use Rattle.connect.specs.Answers.{answer_of, counting}
use Rattle.connect.proofs.with_counts.Goals as goal

pub returns : goal.returns
unfolding answer_of counting
returns c = refl
