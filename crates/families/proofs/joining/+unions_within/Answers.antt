-- For an empty half there are no unions.
-- Assumes nothing.
use Rattle.families.proofs.Halving.{none_within}
use Rattle.families.proofs.joining.+unions_within.Goals as goal

pub returns-then-other-eq0 : goal.returns-then-other-eq0
returns-then-other-eq0 t c = none_within c.args.word _ c.if-other-eq0.true
