-- `sheet::offered` meets its contract. The invariant: the union so far, with the ready sets from i on, is that of all.
-- Assumes nothing.
use mathlib.Core.Path.{refl, sym, ◌∙◌}
use native.Mathlib.Omega.{arith}
use Rattle.sheet.specs.Union.{union_of}
use Rattle.sheet.proofs.Union.{union-none, union_more}
use Rattle.sheet.proofs.offered.Goals as goal

pub loop-i-init : goal.loop-i-init
unfolding union_of
loop-i-init c = (refl, omega arith)

pub loop-i-preserved : goal.loop-i-preserved
loop-i-preserved c =
    let l = c.loop-i in
    (l.invariant.0 ∙ union_more _ l.i l.union _ c.ready_set-union.ensures (omega arith), omega arith)

pub returns : goal.returns
returns c =
    let l = c.loop-i in
    sym (l.invariant.0 ∙ union-none _ l.i l.union (omega arith))
