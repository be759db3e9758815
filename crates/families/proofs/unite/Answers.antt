-- `families::unite` meets its contract: each number has the masks of both.
-- Assumes nothing.
use native.Mathlib.Omega.{arith}
use Rattle.families.proofs.Families.{united}
use Rattle.families.proofs.unite.Goals as goal

pub returns : goal.returns
returns c =
    let l = c.loop-w in
    united _ _ _ (omega arith) (λ i h. l.invariant.0 i (omega arith))
