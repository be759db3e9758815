-- `text_reading::Scope::fault_at` meets its contract: the bit of the variable decides.
-- Assumes nothing.
use mathlib.Core.Path.{sym, ap, ◌∙◌}
use Prim.Native.Nat.{ℕ}
use borrow.Author.Tests.{eqb-true, eqb-false}
use Rattle.model.specs.Contract.{has}
use Rattle.text_reading.proofs.Masks.{judged-fine, judged-wrong}
use Rattle.text_reading.proofs.Scope.fault_at.Goals as goal

pub returns-then-has : goal.returns-then-has
unfolding has
returns-then-has c =
    let a = c.args in
    let told = sym (c.has.ensures.2 ∙ ap (λ (mask : ℕ). has mask a.v) c.has.ensures.1) ∙ c.if-has.true in
    judged-fine a.self.recs a.self.prefixed a.at a.v c.requires.0 (eqb-true _ _ told)

pub returns-else-has : goal.returns-else-has
unfolding has
returns-else-has c =
    let a = c.args in
    let told = sym (c.has.ensures.2 ∙ ap (λ (mask : ℕ). has mask a.v) c.has.ensures.1) ∙ c.if-has.false in
    judged-wrong a.self.recs a.self.prefixed a.at a.v c.requires.0 (eqb-false _ _ told)
