-- `plan::read::good_rows` meets its contract. The loop's invariant: all rows can be read if those from row p, at i, can.
-- Assumes nothing.
use mathlib.Core.Path.{sym, ◌∙◌}
use native.Mathlib.Omega.{arith}
use native.Mathlib.Numerals.{unary_clauses}
use Rattle.model.specs.Bytes.{byte}
use Rattle.plan.proofs.Places.{place-within, rows_end, rows-bad, rows_more}
use Rattle.plan.proofs.read.good_rows.Goals as goal

pub loop-p-init : goal.loop-p-init
loop-p-init c = simp unary_clauses

pub returns-then-not-good_place : goal.returns-then-not-good_place
returns-then-not-good_place c = let l = c.loop-p in sym (l.invariant ∙ rows-bad _ _ _ _ _ l.p l.i (omega arith) (sym c.good_place.ensures ∙ c.if-not-good_place.true))

pub overflow_add-i : goal.overflow_add-i
overflow_add-i c = omega (arith, (place-within _ _ _ _ _ _ (sym c.good_place.ensures ∙ c.if-not-good_place.false)).1)

pub bounds-plan-i : goal.bounds-plan-i
bounds-plan-i c = omega (arith, (place-within _ _ _ _ _ _ (sym c.good_place.ensures ∙ c.if-not-good_place.false)).1)

pub overflow_cast-i : goal.overflow_cast-i
overflow_cast-i c = omega (arith, c.type_inv.plan c.loop-p.i)

pub overflow_mul-i : goal.overflow_mul-i
unfolding byte
overflow_mul-i c = omega (arith, (place-within _ _ _ _ _ _ (sym c.good_place.ensures ∙ c.if-not-good_place.false)).1)

pub overflow_add-i-in-loop-p : goal.overflow_add-i-in-loop-p
unfolding byte
overflow_add-i-in-loop-p c = omega (arith, (place-within _ _ _ _ _ _ (sym c.good_place.ensures ∙ c.if-not-good_place.false)).1)

pub loop-p-preserved : goal.loop-p-preserved
unfolding byte
loop-p-preserved c =
    let l = c.loop-p in
    l.invariant ∙ rows_more _ _ _ _ _ l.p l.i (omega arith) (sym c.good_place.ensures ∙ c.if-not-good_place.false)

pub returns : goal.returns
returns c = let l = c.loop-p in sym (l.invariant ∙ rows_end _ _ _ _ _ l.p l.i (omega arith))
