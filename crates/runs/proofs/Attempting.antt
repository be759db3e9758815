-- An attempt of a run, by what stepping answers: number 0 where the row of the run's plan state holds the code, and only there. So the run
-- goes where the model's does, also over bytes that are no plan: they have no rows. Assumes nothing.
use mathlib.Core.Path.{◌≡◌, refl, sym, ap, ◌∙◌}
use mathlib.Core.Bool.{Bool, true, false, cond, ◌&&◌}
use mathlib.Core.Option.{Option, none, some}
use mathlib.Core.List.{List, []}
use Prim.Native.Nat.{ℕ}
use native.Mathlib.Omega.{arith}
use lib.ListN.{length, get_or, get_or-eq_default}
use lib.Dec.{ltb}
use borrow.Author.Tests.{ltb-false}
use Rattle.std.specs.Prelude.{Result, Ok, Err}
use Rattle.model.specs.Bytes.{byte, word}
use Rattle.model.specs.Contract.{Contract, state}
use Rattle.model.specs.Situation.{Kind, straight, client, service, stray, kind_of}
use Rattle.model.specs.Test.{listed}
use Rattle.model.specs.Plan as model
use Rattle.model.specs.Plan.{Plan, Move, held, read_plan, rows_of, rows_in, row_step, step_in, step_of}
use Rattle.model.specs.Run.{Run, Attempt, need, row_at_run, choice, move_to, moved, moved_if, attempted}
use Rattle.runs.specs.Runs.{attempt_of}
use Rattle.plan.specs.Step.{number_of, told}
use Rattle.plan.specs.declared.Refusal.{Refusal}
use Rattle.plan.specs.declared.Refusal.TheVariants.{NoPlan, NoState, NoMove}

-- ---- a choice

module _ (user new : Contract) (run : Run) (R S : ℕ) {first : Bool} (is : first ≡ listed (state user run.client).ready R) where
  pub choice-both : {second : Bool} → first ≡ true → second ≡ listed (state new run.service).ready S
      → second ≡ choice user new [] run R S
  unfolding choice
  choice-both t e = rw (sym is ∙ t) e

  pub choice-fails : first ≡ false → first ≡ choice user new [] run R S
  unfolding choice
  choice-fails f = rw (sym is ∙ f) f

-- ---- stepping

-- what a row's answer says of the code: held, with the next state, or not held
row-held : (o : Option ℕ) → (row_step o).number ≡ 0 → o ≡ some (row_step o).state
unfolding row_step
row-held none e = absurd (omega arith)
row-held (some to) e = refl

row-lacks : (o : Option ℕ) → ((row_step o).number ≡ 0 → ⊥) → o ≡ none
unfolding row_step
row-lacks none n = refl
row-lacks (some to) n = absurd (n refl)

-- the same of a plan's answer; no plan and no state of it have no row
module _ (state code : ℕ) where
  plan-held : (o : Option Plan) → (step_in o state code).number ≡ 0
      → held (get_or (rows_of o) state []) code ≡ some (step_in o state code).state
  unfolding step_in rows_of
  plan-held none e = absurd (omega arith)
  plan-held (some p) e = go (ltb state (length p.rows)) e
    where
      row : Option ℕ
      row = held (get_or p.rows state []) code

      go : (t : Bool) → (cond t (row_step row) (record { number = 15; state = 0 })).number ≡ 0
          → row ≡ some (cond t (row_step row) (record { number = 15; state = 0 })).state
      go true e = row-held row e
      go false e = absurd (omega arith)

  plan-lacks : (o : Option Plan) → ((step_in o state code).number ≡ 0 → ⊥) → held (get_or (rows_of o) state []) code ≡ none
  unfolding step_in rows_of held
  plan-lacks none n = refl
  plan-lacks (some p) n = go (ltb state (length p.rows)) refl n
    where
      row : Option ℕ
      row = held (get_or p.rows state []) code

      go : (t : Bool) → ltb state (length p.rows) ≡ t
          → ((cond t (row_step row) (record { number = 15; state = 0 })).number ≡ 0 → ⊥) → row ≡ none
      go true e n = row-lacks row n
      go false e n = ap (λ (l : List Move). held l code) (get_or-eq_default p.rows [] (ltb-false state (length p.rows) e))

-- a refusal's number is not 0
refused : (why : Refusal) → number_of why ≡ 0 → ⊥
unfolding number_of
refused NoPlan e = omega arith
refused NoState e = omega arith
refused NoMove e = omega arith

-- ---- an attempt

cond-alike : {A : Type 0} (t : Bool) (x : A) → cond t x x ≡ x
cond-alike true x = refl
cond-alike false x = refl

-- a move does not depend on the rows
moved-alike : (user new : Contract) (rows : List (List Move)) (run : Run) (kind : Kind) (to : ℕ)
    → moved user new [] run kind to ≡ moved user new rows run kind to
unfolding moved
moved-alike user new rows run (straight j) to = refl
moved-alike user new rows run (client j) to = refl
moved-alike user new rows run (service j) to = refl
moved-alike user new rows run stray to = refl

-- its five bytes as they are read
pub attempt-read : (b : List ℕ) {R S : ℕ} → R ≡ word b 0 → S ≡ word b 2 → record { R = R; S = S; code = byte b 4 } ≡ attempt_of b
unfolding attempt_of
attempt-read b r s = rw (r, s) refl

module _ (user new : Contract) (plan : List ℕ) (run : Run) (R S code : ℕ) where
  abbrev attempt : Attempt
  attempt = record { R = R; S = S; code = code }

  -- the run after the attempt, by whether its masks are a choice, whether its need is met, and what the row holds
  outcome : {chosen needed : Bool} {o : Option ℕ} → chosen ≡ choice user new [] run R S → needed ≡ need R S (kind_of code)
      → held (get_or (rows_in plan) run.plan []) code ≡ o
      → attempted user new (rows_in plan) run attempt ≡ moved_if user new (rows_in plan) run (kind_of code) (cond (chosen && needed) o none)
  unfolding attempted move_to row_at_run choice
  outcome e f g = rw (e, f, g)

  -- no choice
  pub attempt-unchosen : {chosen : Bool} → chosen ≡ choice user new [] run R S → chosen ≡ false
      → run ≡ attempted user new (rows_in plan) run attempt
  unfolding moved_if
  attempt-unchosen e t = sym (outcome (sym t ∙ e) refl refl)

  -- a choice, and the need is not met
  pub attempt-unmet : {chosen needed : Bool} → chosen ≡ choice user new [] run R S → chosen ≡ true
      → needed ≡ need R S (kind_of code) → needed ≡ false → run ≡ attempted user new (rows_in plan) run attempt
  unfolding moved_if
  attempt-unmet e t f u = sym (outcome (sym t ∙ e) (sym u ∙ f) refl)

  module _ {step : Result ℕ Refusal} (answer : told step ≡ step_of plan run.plan code) where
    -- stepping refuses
    pub attempt-refused : {why : Refusal} → step ≡ Err why → run ≡ attempted user new (rows_in plan) run attempt
    unfolding step_of rows_in moved_if told
    attempt-refused {why} e =
        let number : number_of why ≡ (step_of plan run.plan code).number = ap (λ (s : model.Stepped). s.number) (rw e at answer) in
        let lacks = plan-lacks run.plan code (read_plan plan) (λ z. refused why (number ∙ z)) in
        let t = choice user new [] run R S && need R S (kind_of code) in
        sym (outcome refl refl lacks ∙ ap (moved_if user new (rows_in plan) run (kind_of code)) (cond-alike t none))

    -- a move
    pub attempt-made : {chosen needed : Bool} {after : Run} {to : ℕ} → chosen ≡ choice user new [] run R S → chosen ≡ true
        → needed ≡ need R S (kind_of code) → needed ≡ true → step ≡ Ok to
        → after ≡ moved user new [] run (kind_of code) to → after ≡ attempted user new (rows_in plan) run attempt
    unfolding step_of rows_in moved_if told
    attempt-made {to = to} e t f u ok is =
        let same : record { number = 0; state = to } ≡ step_of plan run.plan code = rw ok at answer in
        let holds =
        plan-held run.plan code (read_plan plan) (sym (ap (λ (s : model.Stepped). s.number) same))
        ∙ ap some (sym (ap (λ (s : model.Stepped). s.state) same)) in
        is ∙ moved-alike user new (rows_in plan) run (kind_of code) to ∙ sym (outcome (sym t ∙ e) (sym u ∙ f) holds)
