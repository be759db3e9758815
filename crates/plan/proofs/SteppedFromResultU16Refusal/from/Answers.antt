-- The answer of a step for C: the numbers of the refusals are those of the cases.
-- Assumes nothing.
use mathlib.Core.Path.{◌≡◌, refl}
use Prim.Native.Nat.{◌+◌}
use denote.Enum.Declared.{tag_of}
use Rattle.plan.specs.contracts.Refusal.{the_type}
use Rattle.plan.specs.declared.Refusal.{Refusal}
use Rattle.plan.specs.declared.Refusal.TheVariants.{NoPlan, NoState, NoMove}
use Rattle.plan.specs.Step.{told, stepped_of, number_of}
use Rattle.plan.proofs.SteppedFromResultU16Refusal.from.Goals as goal

pub returns-in-Ok : goal.returns-in-Ok
unfolding told stepped_of
returns-in-Ok c = rw c.in-Ok.is refl

numbered : (why : Refusal) → tag_of the_type why + 14 ≡ number_of why
unfolding number_of
numbered NoPlan = refl
numbered NoState = refl
numbered NoMove = refl

pub returns-in-Err : goal.returns-in-Err
unfolding told stepped_of
returns-in-Err c = rw (c.in-Err.is, ← numbered c.in-Err.why) refl
