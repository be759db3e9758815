-- Any bytes are answered, and the work table ends as the number says: `check-answers`. What is refused before pairs are counted, in order:
-- `check-refuses`. What the answer carries of a sheet's refusal: `check-carries`.
-- Assumes nothing.
use mathlib.Core.Path.{◌≡◌, refl}
use mathlib.Core.Bool.{Bool, true, false, cond, ◌||◌}
use mathlib.Core.Logic.{◌⊎◌, inl, inr, ⊎_elim}
use mathlib.Core.Option.{Option, none, some}
use mathlib.Core.List.{List, map}
use Prim.Native.Nat.{ℕ, ◌≤◌, ◌<◌}
use native.Mathlib.Omega.{arith}
use lib.ListN.{length}
use lib.Dec.{T, eqb, eqb→eq}
use borrow.Author.Tests.{ne_eqb}
use Rattle.model.specs.Sheet.{Reading, good, refusal, Refusal, plain, Both, read_both}
use Rattle.model.specs.Test.{Mode}
use Rattle.model.specs.Plan.{Plan, read_plan}
use Rattle.model.specs.Connect.{limit_of, refused}
use Rattle.model.specs.AtFault.{Carries}
use Rattle.model.proofs.Carried.{plain-carries, both-carries, refused-carries}
use Rattle.model.proofs.Lists.{or_cases, cond_yes, cond_no}
use Rattle.model.proofs.Refusals.{OnlyRefused, InTable, both-numbers}
use Rattle.edits.specs.Check.{plan_number, verdict_of, after_pairs, work_after, check_plan_of}
use Rattle.edits.specs.Promises.{CheckAnswers, CheckRefuses, CheckCarries}
use Rattle.edits.proofs.Decides.{AfterPairs, walk-number}

-- ---- the number

abbrev OfTable : ℕ → Type 0
OfTable number = (number ≤ 9) ⊎ ((number ≡ 11) ⊎ ((number ≡ 14) ⊎ (number ≡ 21)))

verdict-number : (mode : Mode) (limit : ℕ) (r : Reading Refusal Both) → OnlyRefused (λ (r : Refusal). InTable 9 r.number) r
    → (o : Option Plan) → OfTable (verdict_of mode limit r o).number
unfolding verdict_of plan_number plain
verdict-number mode limit (refusal r) h o = inl h.1
verdict-number mode limit (good sheets) h none = inr (inr (inl refl))
verdict-number mode limit (good sheets) h (some p) = at (eqb p.n sheets.one.n) _ (walk-number mode _ sheets.one sheets.two
    p.rows limit)
  where
    at : (b : Bool) (number : ℕ) → AfterPairs number → OfTable (cond b number 9)
    at true number (inl e) = inl (omega (arith, e))
    at true number (inr (inl e)) = inr (inl e)
    at true number (inr (inr e)) = inr (inr (inr e))
    at false number w = inl (omega arith)

-- ---- the work table

after-intro : (number : ℕ) → AfterPairs number → T (after_pairs number)
unfolding after_pairs
after-intro number (inl e) = rw e tt
after-intro number (inr (inl e)) = rw e tt
after-intro number (inr (inr e)) = rw e tt

after-elim : (number : ℕ) → T (after_pairs number) → AfterPairs number
unfolding after_pairs
after-elim number t =
    ⊎_elim (λ e. inl (eqb→eq number 0 e))
    (λ q. inr (⊎_elim (λ e. inl (eqb→eq number 11 e)) (λ e. inr (eqb→eq number 21 e)) (or_cases (eqb number 11) (eqb number 21) q)))
    (or_cases (eqb number 0) (eqb number 11 || eqb number 21) t)

-- the other numbers are given before
before-pairs : (number : ℕ) → 1 ≤ number → (number ≤ 9) ⊎ (number ≡ 14) → AfterPairs number → ⊥
before-pairs number l (inl h) (inl e) = omega arith
before-pairs number l (inl h) (inr (inl e)) = omega arith
before-pairs number l (inl h) (inr (inr e)) = omega arith
before-pairs number l (inr h) (inl e) = omega arith
before-pairs number l (inr h) (inr (inl e)) = omega arith
before-pairs number l (inr h) (inr (inr e)) = omega arith

pub check-answers : CheckAnswers
unfolding check_plan_of refused work_after
check-answers R blank mode old new plan work =
    let limit = limit_of (length work) in
    let n : ℕ = (verdict_of mode limit (read_both 0 0 old new) (read_plan plan)).number in
    record {
      number = verdict-number mode limit (read_both 0 0 old new) (both-numbers 0 0 old new) (read_plan plan);
      counts = (refl, refl, refl, refl);
      unchanged = λ l h. cond_no (after_pairs n) (map (λ r. blank) work) work (λ t. before-pairs n l h (after-elim n t));
      zero = λ h. cond_yes (after_pairs n) (map (λ r. blank) work) work (after-intro n h);
    }

pub check-refuses : CheckRefuses
unfolding check_plan_of verdict_of plan_number
check-refuses R blank mode old new plan work =
    record {
      of_sheets = λ r e. rw e refl;
      of_plan = λ sheets e f. rw (e, f) refl;
      of_names = λ sheets p e f other. rw (e, f, ne_eqb p.n sheets.one.n other) refl;
    }

-- ---- what it carries

verdict-carries : (mode : Mode) (limit : ℕ) (old new : List ℕ) (r : Reading Refusal Both) → OnlyRefused (Carries old new) r → (o : Option Plan)
    → Carries old new (verdict_of mode limit r o)
unfolding verdict_of plan_number
verdict-carries mode limit old new (refusal r) h o = h
verdict-carries mode limit old new (good sheets) h none = plain-carries old new 14 0 (inr (omega arith))
verdict-carries mode limit old new (good sheets) h (some p) =
    plain-carries old new _ 0
    (at (eqb p.n sheets.one.n) _ (walk-number mode _ sheets.one sheets.two p.rows limit))
  where
    at : (b : Bool) (number : ℕ) → AfterPairs number → (cond b number 9 ≡ 0) ⊎ (7 < cond b number 9)
    at true number (inl e) = inl e
    at true number (inr (inl e)) = inr (omega (arith, e))
    at true number (inr (inr e)) = inr (omega (arith, e))
    at false number w = inr (omega arith)

pub check-carries : CheckCarries
unfolding check_plan_of
check-carries R blank mode old new plan work =
    refused-carries old new _
    (verdict-carries mode (limit_of (length work)) old new (read_both 0 0 old new) (both-carries old new 0 0) (read_plan plan))
