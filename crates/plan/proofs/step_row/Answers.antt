-- `plan::step_row` meets its contract. The loop's invariant: what the row holds is what its moves from the i-th on hold.
-- Assumes nothing.
use mathlib.Core.Path.{sym, ap, ◌∙◌}
use mathlib.Core.Option.{some}
use mathlib.Core.List.{List}
use Rattle.model.specs.Bytes.{byte}
use Rattle.model.specs.Plan.{Move, held}
use Rattle.plan.specs.Step.{held_in, next_of}
use Rattle.plan.proofs.Rows.{moves-all, held_none, held-here, held_more}
use Rattle.plan.proofs.step_row.Goals as goal

pub loop-i-init : goal.loop-i-init
loop-i-init c = ap (λ (moves : List Move). held moves c.args.code) (moves-all _ _ _)

pub returns-then-plan-at : goal.returns-then-plan-at
unfolding held_in next_of byte
returns-then-plan-at c =
    let l = c.loop-i in
    let found = held-here _ _ _ _ l.i c.loop-i-test.true c.if-plan-at.true in
    ap next_of (ap some c.word_at.ensures ∙ sym (l.invariant ∙ found))

pub loop-i-preserved : goal.loop-i-preserved
unfolding byte
loop-i-preserved c = c.loop-i.invariant ∙ held_more _ _ _ _ c.loop-i.i c.loop-i-test.true c.if-plan-at.false

pub returns : goal.returns
unfolding held_in next_of
returns c = sym (ap next_of (c.loop-i.invariant ∙ held_none _ _ _ _ c.loop-i.i c.loop-i-test.false))
