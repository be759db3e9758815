-- `named_row::row_bytes` meets its contract: the part lies within its sheet, and what is cut there is that part.
-- Assumes nothing.
use mathlib.Core.Path.{refl}
use native.Mathlib.Omega.{arith}
use Rattle.named_row.proofs.Parts.{second-inside, second-cut, first-inside, first-cut}
use Rattle.named_row.proofs.row_bytes.Goals as goal

pub slice_bounds-result-end : goal.slice_bounds-result-end
slice_bounds-result-end c =
    let lent = c.args in
    omega (arith, second-inside lent.first lent.second _ _ _ c.row_part-part.ensures c.if-part-eq2.true)

pub returns-then-part-eq2 : goal.returns-then-part-eq2
returns-then-part-eq2 c = second-cut _ _ _ _ _ c.row_part-part.ensures c.if-part-eq2.true _ refl refl refl

pub slice_bounds-result-end-2 : goal.slice_bounds-result-end-2
slice_bounds-result-end-2 c =
    let lent = c.args in
    omega (arith, first-inside lent.first lent.second _ _ _ c.row_part-part.ensures c.if-part-eq2.false)

pub returns : goal.returns
returns c = first-cut _ _ _ _ _ c.row_part-part.ensures c.if-part-eq2.false _ refl refl refl
