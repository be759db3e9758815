-- `plan::read::good_row` meets its contract. The loop's invariant: the row is good if its moves from the i-th on are, their codes from
-- `low` on. Assumes nothing.
use mathlib.Core.Path.{sym, ap, ◌∙◌}
use mathlib.Core.List.{List}
use Prim.Native.Nat.{◌+◌, ◌*◌}
use native.Mathlib.Omega.{arith}
use Rattle.model.specs.Bytes.{byte}
use Rattle.model.specs.Plan.{Move}
use Rattle.plan.proofs.Rows.{moves-all, good_from, good-long, good-short, good_none, good-low, good-bad, good_more}
use Rattle.plan.proofs.read.good_row.Goals as goal

pub returns-then-size-gt-MOVES : goal.returns-then-size-gt-MOVES
returns-then-size-gt-MOVES c = good-long _ _ _ _ _ c.if-size-gt-MOVES.true

pub loop-i-init : goal.loop-i-init
loop-i-init c =
    good-short _ _ _ _ _ c.if-size-gt-MOVES.false ∙ ap (λ (moves : List Move). good_from c.args.n c.args.count 0 moves) (moves-all _ _ _)

pub overflow_cast-code : goal.overflow_cast-code
overflow_cast-code c = omega (arith, c.type_inv.plan (c.args.first + 3 * c.loop-i.i))

pub returns-then-code-low : goal.returns-then-code-low
unfolding byte
returns-then-code-low c =
    sym (c.loop-i.invariant ∙ good-low _ _ _ _ _ _ _ c.loop-i-test.true c.if-code-low.true)

pub returns-then-not-good_move : goal.returns-then-not-good_move
unfolding byte
returns-then-not-good_move c =
    let bad = sym c.good_move.ensures ∙ c.if-not-good_move.true in
    sym (c.loop-i.invariant ∙ good-bad _ _ _ _ _ _ _ c.loop-i-test.true c.if-code-low.false bad)

pub overflow_add-low : goal.overflow_add-low
overflow_add-low c = omega (arith, c.type_inv.plan (c.args.first + 3 * c.loop-i.i))

pub loop-i-preserved : goal.loop-i-preserved
unfolding byte
loop-i-preserved c =
    let good = sym c.good_move.ensures ∙ c.if-not-good_move.false in
    c.loop-i.invariant ∙ good_more _ _ _ _ _ _ _ c.loop-i-test.true c.if-code-low.false good

pub returns : goal.returns
returns c = sym (c.loop-i.invariant ∙ good_none _ _ _ _ _ _ _ c.loop-i-test.false)
