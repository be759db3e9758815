-- `runs::need_met` meets its contract: a law for each range of codes.
-- Assumes nothing.
use mathlib.Core.Path.{sym, ◌∙◌}
use mathlib.Core.Bool.{true}
use native.Mathlib.Omega.{arith}
use Rattle.runs.proofs.Need.{straight-needs, straight-lacks, client-needs, service-needs, none-needs}
use Rattle.runs.proofs.need_met.Goals as goal

pub returns-then-has_bit : goal.returns-then-has_bit
returns-then-has_bit c =
    straight-needs _ _ _ _ true _ (omega arith) c.partner.ensures.0
    (sym c.if-has_bit.true ∙ c.has_bit.ensures) c.has_bit-then-has_bit.ensures

pub returns-else-has_bit : goal.returns-else-has_bit
returns-else-has_bit c = c.if-has_bit.false ∙ straight-lacks _ _ _ (omega arith) (sym c.has_bit.ensures ∙ c.if-has_bit.false)

pub returns-in-16-to-29 : goal.returns-in-16-to-29
returns-in-16-to-29 c = client-needs _ _ _ _ _ (omega arith) (omega arith) c.partner-in-16-to-29.ensures.0 c.has_bit-in-16-to-29.ensures

pub returns-in-32-to-45 : goal.returns-in-32-to-45
returns-in-32-to-45 c = service-needs _ _ _ _ (omega arith) (omega arith) c.has_bit-in-32-to-45.ensures

pub returns-in_default : goal.returns-in_default
returns-in_default c = none-needs _ _ _ (omega arith) (λ l. omega arith) (λ l. omega arith)

pub returns-in_default-2 : goal.returns-in_default-2
returns-in_default-2 c = none-needs _ _ _ (omega arith) (λ l. omega arith) (λ l. omega arith)

pub returns-in_default-3 : goal.returns-in_default-3
returns-in_default-3 c = none-needs _ _ _ (omega arith) (λ l. omega arith) (λ l. omega arith)
