-- `plan::read::good_place` meets its contract: a law for each test that fails, and one for the row.
-- Assumes nothing.
use mathlib.Core.Path.{sym, ◌∙◌}
use native.Mathlib.Omega.{arith}
use Rattle.model.specs.Bytes.{byte}
use Rattle.plan.proofs.Places.{place-elsewhere, place-past, place-row}
use Rattle.plan.proofs.read.good_place.Goals as goal

pub returns-then-dword_at-i : goal.returns-then-dword_at-i
returns-then-dword_at-i c = place-elsewhere _ _ _ _ _ _ (λ e. c.if-dword_at-i.true (c.dword_at.ensures ∙ e))

pub returns-then-index-i : goal.returns-then-index-i
returns-then-index-i c = place-past _ _ _ _ _ _ (sym c.dword_at.ensures ∙ c.if-dword_at-i.false) (omega arith)

pub overflow_cast-size : goal.overflow_cast-size
overflow_cast-size c = omega (arith, c.type_inv.plan c.args.i)

pub overflow_mul-size : goal.overflow_mul-size
overflow_mul-size c = omega (arith, c.type_inv.plan c.args.i)

pub returns-then-index-i-2 : goal.returns-then-index-i-2
unfolding byte
returns-then-index-i-2 c = place-past _ _ _ _ _ _ (sym c.dword_at.ensures ∙ c.if-dword_at-i.false)
    (omega arith)

pub returns : goal.returns
unfolding byte
returns c =
    c.good_row.ensures
    ∙ place-row _ _ _ _ _ _ (sym c.dword_at.ensures
    ∙ c.if-dword_at-i.false) (omega arith)
