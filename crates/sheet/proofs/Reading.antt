-- Readings taken backwards, with each test that was passed as an equation.
-- Assumes nothing.
use mathlib.Core.Path.{◌≡◌}
use mathlib.Core.Bool.{Bool, true}
use Rattle.model.specs.Sheet.{Reading, good, check}
use Rattle.model.proofs.Lists.{is_true}
use Rattle.model.proofs.Sheet.{check-good}

pub check-true : {E A : Type 0} (p : Bool) (e : E) (rest : Reading E A) {a : A} → check p e rest ≡ good a → (p ≡ true) × (rest ≡ good a)
check-true p e rest h = let w = check-good p e rest h in (is_true p w.0, w.1)
