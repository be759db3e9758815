-- `nodes::write::union_of` meets its contract. The invariant: the union so far, with the masks that are left, is that of all.
-- Assumes nothing.
use mathlib.Core.Path.{refl, sym, ◌∙◌}
use native.Mathlib.Omega.{arith}
use Rattle.sheet.specs.Union.{union_of}
use Rattle.sheet.proofs.Union.{union-none, union_more}
use Rattle.nodes.proofs.write.union_of.Goals as goal

pub loop-m-init : goal.loop-m-init
unfolding union_of
loop-m-init c = refl

pub loop-m-preserved : goal.loop-m-preserved
loop-m-preserved c =
    let l = c.loop-m in
    l.invariant ∙ union_more _ l.m-index l.union _ refl (omega arith)

pub returns : goal.returns
returns c =
    let l = c.loop-m in
    sym (l.invariant ∙ union-none _ l.m-index l.union (omega arith))
