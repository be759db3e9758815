-- The whole outcome of the check and of the fault: what is refused before pairs are counted changes nothing, what is walked leaves every
-- record zero.
-- Assumes nothing.
use mathlib.Core.Path.{◌≡◌, refl, sym, ap, subst, ◌∙◌}
use mathlib.Core.List.{List}
use Prim.Native.Nat.{ℕ}
use lib.ListN.{length}
use Rattle.std.specs.Prelude.{Option, Result}
use Rattle.model.specs.Sheet.{Refusal, plain}
use Rattle.model.specs.Connect as model
use Rattle.model.specs.Connect.{refused, limit_of}
use Rattle.model.specs.Test as model-test
use Rattle.table.specs.declared.Record.{Record}
use Rattle.table.specs.Records.{blank, cleared}
use Rattle.moves.specs.declared.Mode.{Mode}
use Rattle.moves.specs.Modes.{mode_of}
use Rattle.connect.specs.Answers.{refusing}
use Rattle.reached.specs.declared.Full.{Full}
use Rattle.edits.specs.Check.{PlanFault, work_after, CheckedPlan, BlamedPlan, check_plan_of, plan_fault_of}
use Rattle.edits_walk.specs.Walk.{fault_in}
use Rattle.edits_walk.specs.declared.Unsound.{Unsound}
use Rattle.check_plan.specs.declared.Refusal as declared
use Rattle.check_plan.specs.Answers.{answer_for, fault_for_why, verdict_in, number_of_walk, RefusedPlan, WalksPlan}

module _ (mode : Mode) (old new plan : List ℕ) (work : List Record) where
  abbrev limit : ℕ
  limit = limit_of (length work)

  abbrev verdict : Refusal
  verdict = verdict_in (mode_of mode) old new plan limit

  -- ---- what is refused before pairs are counted

  module _ {why : declared.Refusal} (bad : RefusedPlan old new plan why) where
    -- the table is as it was
    kept : work ≡ work_after blank verdict.number work
    unfolding work_after refused
    kept =
        let same : verdict.number ≡ (answer_for why).number = ap (λ (a : model.Answer). a.number) (bad.answer (mode_of mode) limit) in
        rw (same, bad.before) refl

    pub check-refused : record { answer = answer_for why; work = work } ≡ check_plan_of blank (mode_of mode) old new plan work
    unfolding check_plan_of
    check-refused = λ i. record { answer = sym (bad.answer (mode_of mode) limit) i; work = kept i }

    pub fault-refused : record { fault = fault_for_why why; work = work } ≡ plan_fault_of blank (mode_of mode) old new plan work
    unfolding plan_fault_of check_plan_of
    fault-refused = λ i. record { fault = (bad.silent ∙ sym (bad.fault (mode_of mode) limit)) i; work = kept i }

  -- ---- what is walked

  module _ {walk : Result (Option Unsound) Full} {work' : List Record} (walks : WalksPlan mode old new plan walk work work') where
    -- the table is zero
    zeroed : work' ≡ work_after blank verdict.number work
    unfolding work_after plain cleared
    zeroed =
        let same : verdict.number ≡ number_of_walk walk = ap (λ (v : Refusal). v.number) walks.number in
        rw (same, walks.after) walks.zero

    pub check-walked : {number : ℕ} → number_of_walk walk ≡ number
        → record { answer = refusing number 0 0 0; work = work' } ≡ check_plan_of blank (mode_of mode) old new plan work
    unfolding check_plan_of refused refusing plain
    check-walked is =
        let answer : refusing _ 0 0 0 ≡ (refused verdict).answer =
        ap (λ (n : ℕ). refusing n 0 0 0) (sym is) ∙ ap (λ (v : Refusal). (refused v).answer) (sym walks.number) in
        λ i. record { answer = answer i; work = zeroed i }

    pub fault_walked : {f : PlanFault} → fault_in walk ≡ f → record { fault = f; work = work' } ≡ plan_fault_of blank (mode_of mode) old new plan work
    unfolding plan_fault_of check_plan_of
    fault_walked e = λ i. record { fault = (sym e ∙ sym walks.fault) i; work = zeroed i }

-- ---- by another name of the mode

module _ (old new plan : List ℕ) (work : List Record) (mode : Mode) {named : model-test.Mode} (e : mode_of mode ≡ named) where
  pub check-named : {c : CheckedPlan Record} → c ≡ check_plan_of blank (mode_of mode) old new plan work
      → c ≡ check_plan_of blank named old new plan work
  check-named {c} is = subst (λ (named : model-test.Mode). c ≡ check_plan_of blank named old new plan work) e is

  pub fault-named : {c : BlamedPlan Record} → c ≡ plan_fault_of blank (mode_of mode) old new plan work
      → c ≡ plan_fault_of blank named old new plan work
  fault-named {c} is = subst (λ (named : model-test.Mode). c ≡ plan_fault_of blank named old new plan work) e is
