-- `edits_rows::met` meets its contract: a law for each range of the code, and the bits of its action.
-- Assumes nothing.
use mathlib.Core.Path.{sym, ◌∙◌}
use native.Mathlib.Omega.{arith}
use Rattle.edits_rows.proofs.Meeting.{met-offered, met-free, met-client, met-other}
use Rattle.edits_rows.proofs.met.Goals as goal

pub returns-then-has_bit : goal.returns-then-has_bit
returns-then-has_bit c =
    let new = sym c.has_bit.ensures ∙ c.if-has_bit.true in
    c.has_bit-then-has_bit.ensures ∙ sym (met-offered _ _ _ (omega arith) new)

pub returns-else-has_bit : goal.returns-else-has_bit
returns-else-has_bit c =
    let new = sym c.has_bit.ensures ∙ c.if-has_bit.false in
    sym (met-free _ _ _ (omega arith) new)

pub returns-in-16-to-29 : goal.returns-in-16-to-29
returns-in-16-to-29 c = c.has_bit-in-16-to-29.ensures ∙ sym (met-client _ _ _ (omega arith) (omega arith))

pub returns-in_default : goal.returns-in_default
returns-in_default c = sym (met-other _ _ _ (omega arith) (λ h. omega arith))

pub returns-in_default-2 : goal.returns-in_default-2
returns-in_default-2 c = sym (met-other _ _ _ (omega arith) (λ h. omega arith))
