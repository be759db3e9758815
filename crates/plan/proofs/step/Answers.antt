-- `plan::step` meets its contract: bytes that pass the layout test stand as the index says, and the row decides.
-- Assumes nothing.
use mathlib.Core.Path.{◌≡◌, refl, sym, ap, ◌∙◌}
use mathlib.Core.Bool.{true}
use mathlib.Core.Option as maybe
use mathlib.Core.Option.{none, some}
use Prim.Native.Nat.{ℕ, ◌<◌}
use native.Mathlib.Omega.{arith}
use lib.ListN.{length}
use Rattle.std.specs.Prelude.{Option}
use Rattle.std.specs.Option.{ok_or}
use Rattle.model.specs.Plan.{rows_in, read_plan, row_step}
use Rattle.plan.specs.declared.Refusal.TheVariants.{NoMove}
use Rattle.plan.specs.Layout.{is_some}
use Rattle.plan.specs.Step.{told, number_of, held_in, next_of}
use Rattle.plan.proofs.Stands.{PlanStands, stands, step-no-plan, step-no-state, step-state}
use Rattle.plan.proofs.step.Goals as goal
use Rattle.plan.proofs.step.Goals.{Else-not-is_plan, Else-word_at-state}

pub returns-then-not-is_plan : goal.returns-then-not-is_plan
unfolding told number_of
returns-then-not-is_plan c = step-no-plan _ _ _ (sym c.is_plan.ensures ∙ c.if-not-is_plan.true)

passes : (c : Else-not-is_plan) → is_some (read_plan c.args.plan.now) ≡ true
passes c = sym c.is_plan.ensures ∙ c.if-not-is_plan.false

standing : (c : Else-not-is_plan) → PlanStands c.args.plan.now
standing c = stands _ (passes c)

pub overflow_sub-plan : goal.overflow_sub-plan
overflow_sub-plan c = omega (arith, (standing (goal.at.overflow_sub-plan c).Else-not-is_plan).room)

pub word_at-requires : goal.word_at-requires
word_at-requires c = record { within = omega (arith, (standing (goal.at.word_at-requires c).Else-not-is_plan).room) }

pub returns-then-word_at-state : goal.returns-then-word_at-state
unfolding told number_of
returns-then-word_at-state c = step-no-state _ (passes (goal.at.returns-then-word_at-state c).Else-not-is_plan) _ _ _ c.word_at.ensures c.if-word_at-state.true

-- the state is one of the plan
within : (c : Else-word_at-state) → c.args.state < length (rows_in c.args.plan.now)
within c =
    let plan = sym c.is_plan.ensures ∙ c.if-not-is_plan.false in
    omega (arith, (stands _ plan).size, c.word_at.ensures, c.if-word_at-state.false)

pub row_of-row-requires : goal.row_of-row-requires
row_of-row-requires c = within (goal.at.row_of-row-requires c).Else-word_at-state

-- a move that is held, or none, as it is told
told-row : (o : maybe.Option ℕ) → told (ok_or (next_of o) NoMove) ≡ row_step o
unfolding told number_of next_of row_step
told-row none = refl
told-row (some to) = refl

pub returns : goal.returns
unfolding held_in
returns c =
    let at = goal.at.returns c in
    ap told (c.ok_or.ensures.value ∙ ap (λ (o : Option ℕ). ok_or o NoMove) c.step_row.ensures)
    ∙ told-row _
    ∙ step-state _ _ _ (passes at.Else-not-is_plan) (within at.Else-word_at-state) c.row_of-row.ensures
