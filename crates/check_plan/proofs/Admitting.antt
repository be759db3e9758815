-- What is answered before pairs are counted, by cases: the sheets are refused, the plan or its names are, or the walk decides.
-- Assumes nothing.
use mathlib.Core.Path.{◌≡◌, refl, sym, ap, ◌∙◌}
use mathlib.Core.Bool.{false, false≢true}
use mathlib.Core.List.{List}
use mathlib.Core.Option.{Option, none, some}
use Prim.Native.Nat.{ℕ}
use native.Mathlib.Omega.{arith}
use borrow.Author.Tests.{eq-eqb, ne_eqb}
use Rattle.std.specs.Prelude.{Result, Ok, Err}
use Rattle.model.specs.Sheet.{Reading, good, Refusal, Both, read_both, contract_in, plain}
use Rattle.model.specs.Test.{Mode}
use Rattle.model.specs.Plan.{Plan, read_plan, rows_in}
use Rattle.model.specs.Connect.{refused}
use Rattle.model.proofs.Refusals.{only-elim, both-numbers}
use Rattle.sheet.specs.Answers.{reading_of, whole}
use Rattle.sheet.specs.Whole.{IsSheet}
use Rattle.pair.specs.Pairs.{refusal_of}
use Rattle.pair.specs.declared.Refusal as pairs
use Rattle.pair.proofs.Pairs.{refused-both, good-both, both-sheets}
use Rattle.plan.specs.Layout.{is_some}
use Rattle.connect.specs.Answers.{refusing}
use Rattle.edits.specs.Check.{plan_number, verdict_of, plan_fault, fault_of, after_pairs}
use Rattle.check_plan.specs.declared.Refusal.TheVariants.{Pair, NoPlan, Names}
use Rattle.check_plan.specs.Answers.{verdict_in, fault_for, AdmittedPlan, RefusedPlan}

before-pairs : (number : ℕ) → (number ≡ 0 → ⊥) → (number ≡ 11 → ⊥) → (number ≡ 21 → ⊥) → after_pairs number ≡ false
unfolding after_pairs
before-pairs number a b c = rw (ne_eqb number 0 a, ne_eqb number 11 b, ne_eqb number 21 c) refl

module _ (old new plan : List ℕ) {pair : Result (Unit {0}) pairs.Refusal} (is-pair : reading_of refusal_of pair ≡ whole (read_both 0 0 old new)) where
  -- a refusal of the sheets
  pub admits-sheets : {refusal : pairs.Refusal} → pair ≡ Err refusal → RefusedPlan old new plan (Pair refusal)
  unfolding verdict_of fault_of refused refusing
  admits-sheets {refusal} is-refused =
      let read = refused-both 0 0 old new is-pair is-refused in
      let n = only-elim _ (read_both 0 0 old new) _ (both-numbers 0 0 old new) read in
      record {
        answer = λ mode limit. ap (λ (b : Reading Refusal Both). (refused (verdict_of mode limit b (read_plan plan))).answer) read;
        fault = λ mode limit. ap (λ (b : Reading Refusal Both). fault_of mode limit b (read_plan plan)) read;
        silent = refl;
        before = before-pairs (refusal_of refusal).number (λ z. omega (arith, n.0, z)) (λ y. omega (arith, n.1, y)) (λ y. omega (arith, n.1, y));
      }

  module _ {u : Unit {0}} (is-good : pair ≡ Ok u) where
    abbrev sheets : Both
    sheets = record { one = contract_in old; two = contract_in new }

    read-good : read_both 0 0 old new ≡ good sheets
    read-good = good-both 0 0 old new is-pair is-good

    -- the names of the plan are compared with those of a sheet
    pub old-is-sheet : IsSheet old
    old-is-sheet = (both-sheets 0 0 old new _ read-good).0

    verdict-is : (mode : Mode) (limit : ℕ) → verdict_in mode old new plan limit ≡ plain (plan_number mode limit sheets (read_plan plan)) 0
    unfolding verdict_of
    verdict-is mode limit = ap (λ (b : Reading Refusal Both). verdict_of mode limit b (read_plan plan)) read-good

    fault-is : (mode : Mode) (limit : ℕ) → fault_for mode old new plan limit ≡ plan_fault mode limit sheets (read_plan plan)
    unfolding fault_of
    fault-is mode limit = ap (λ (b : Reading Refusal Both). fault_of mode limit b (read_plan plan)) read-good

    answer-is : (mode : Mode) (limit number : ℕ) → plan_number mode limit sheets (read_plan plan) ≡ number
        → (refused (verdict_in mode old new plan limit)).answer ≡ refusing number 0 0 0
    unfolding refused refusing plain
    answer-is mode limit number is =
        ap (λ (v : Refusal). (refused v).answer) (verdict-is mode limit ∙ ap (λ (n : ℕ). plain n 0) is)

    -- a refusal of the plan
    missing : read_plan plan ≡ none → RefusedPlan old new plan NoPlan
    unfolding plan_number plan_fault after_pairs refusing
    missing reads =
        record {
          answer = λ mode limit. answer-is mode limit 14 (rw reads refl);
          fault = λ mode limit. fault-is mode limit ∙ rw reads refl;
          silent = refl;
          before = refl;
        }

    pub admits-none : is_some (read_plan plan) ≡ false → RefusedPlan old new plan NoPlan
    unfolding is_some
    admits-none h = go (read_plan plan) refl h
      where
        go : (o : Option Plan) → read_plan plan ≡ o → is_some o ≡ false → RefusedPlan old new plan NoPlan
        go none reads e = missing reads
        go (some p) reads e = absurd (false≢true (sym e))

    module _ {n k : ℕ} (reads : read_plan plan ≡ some (record { n = n; k = k; rows = rows_in plan })) where
      -- or of its names
      pub admits-names : (n ≡ (contract_in old).n → ⊥) → RefusedPlan old new plan Names
      unfolding plan_number plan_fault after_pairs refusing
      admits-names other =
          record {
            answer = λ mode limit. answer-is mode limit 9 (rw (reads, ne_eqb n (contract_in old).n other) refl);
            fault = λ mode limit. fault-is mode limit ∙ rw (reads, ne_eqb n (contract_in old).n other) refl;
            silent = refl;
            before = refl;
          }

      -- or none
      pub admits-plan : n ≡ (contract_in old).n → AdmittedPlan old new plan
      unfolding plan_number plan_fault
      admits-plan same =
          let names = eq-eqb n (contract_in old).n same in
          record {
            old_sheet = (both-sheets 0 0 old new _ read-good).0;
            new_sheet = (both-sheets 0 0 old new _ read-good).1;
            names = n;
            rank = k;
            is_plan = reads;
            number = λ mode limit. verdict-is mode limit ∙ rw (reads, names) refl;
            fault = λ mode limit. fault-is mode limit ∙ rw (reads, names) refl;
          }
