-- What acceptance of a plan gives: two sheets and a plan over the same names, and every reached pair is sound in the mode. By the cases of the check.
-- Assumes nothing.
use mathlib.Core.Path.{◌≡◌, refl, ap, subst⁻¹}
use mathlib.Core.Bool.{Bool, true, false, cond}
use mathlib.Core.Option.{Option, none, some}
use mathlib.Core.List.{List}
use Prim.Native.Nat.{ℕ}
use native.Mathlib.Omega.{arith}
use lib.ListN.{length}
use lib.Dec.{eqb}
use borrow.Author.Tests.{eqb-true}
use Rattle.model.specs.Contract.{Contract}
use Rattle.model.specs.Sheet.{Reading, good, refusal, Refusal, plain, Both, read_both, contract_in}
use Rattle.model.specs.Situation.{alike}
use Rattle.model.specs.Test.{Mode}
use Rattle.model.specs.Plan.{Plan, read_plan}
use Rattle.model.specs.Connect.{limit_of, refused}
use Rattle.model.proofs.Sheet.{WellFormed, both-well-formed, both-contracts}
use Rattle.model.proofs.Refusals.{OnlyRefused, InTable, both-numbers}
use Rattle.edits.specs.Check.{walked, plan_number, verdict_of, check_plan_of}
use Rattle.edits.specs.Promises.{IsSound, rank_of}
use Rattle.edits.proofs.Decides.{walk-judges}

-- what acceptance gives, with so many pairs at most
pub record Passed (mode : Mode) (limit : ℕ) (old new plan : List ℕ) : Type 0 where
  pub sheets : Both
  pub reads : read_both 0 0 old new ≡ good sheets
  pub plan-is : Plan
  pub plan-reads : read_plan plan ≡ some plan-is
  pub names : plan-is.n ≡ sheets.one.n
  pub walks : walked mode (alike plan-is.k) sheets.one sheets.two plan-is.rows limit ≡ 0

verdict-passed : (mode : Mode) (limit : ℕ) (old new plan : List ℕ) → (verdict_of mode limit (read_both 0 0 old new) (read_plan plan)).number ≡ 0
    → Passed mode limit old new plan
unfolding verdict_of plan_number plain
verdict-passed mode limit old new plan = go (read_both 0 0 old new) refl (both-numbers 0 0 old new) (read_plan plan) refl
  where
    at : (sheets : Both) → read_both 0 0 old new ≡ good sheets → (p : Plan) → read_plan plan ≡ some p
        → (b : Bool) → eqb p.n sheets.one.n ≡ b
        → cond b (walked mode (alike p.k) sheets.one sheets.two p.rows limit) 9 ≡ 0 → Passed mode limit old new plan
    at sheets e p f true q z =
        record { sheets = sheets; reads = e; plan-is = p; plan-reads = f; names = eqb-true p.n sheets.one.n q; walks = z }
    at sheets e p f false q z = absurd (omega (arith, z))

    go : (r : Reading Refusal Both) → read_both 0 0 old new ≡ r → OnlyRefused (λ (r : Refusal). InTable 9 r.number) r
        → (o : Option Plan) → read_plan plan ≡ o → (verdict_of mode limit r o).number ≡ 0 → Passed mode limit old new plan
    go (refusal r) e l o f z = absurd (omega (arith, l.0, z))
    go (good sheets) e l none f z = absurd (omega (arith, z))
    go (good sheets) e l (some p) f z = at sheets e p f (eqb p.n sheets.one.n) refl z

module _ {R : Type 0} (blank : R) (mode : Mode) (old new plan : List ℕ) (work : List R)
    (z : (check_plan_of blank mode old new plan work).answer.number ≡ 0) where
  pub passed : Passed mode (limit_of (length work)) old new plan
  unfolding check_plan_of refused
  passed = verdict-passed mode (limit_of (length work)) old new plan z

  -- What holds of two well-formed contracts and a plan that is read and whose reached pairs are all sound, holds of the bytes passed.
  pub over-passed {ℓ} : (P : (k : ℕ) → Contract → Contract → Type ℓ)
      → ((p : Plan) (σ τ : Contract) → read_plan plan ≡ some p → WellFormed τ → IsSound mode (alike p.k) σ τ p.rows → P p.k σ τ)
      → P (rank_of (read_plan plan)) (contract_in old) (contract_in new)
  unfolding rank_of
  over-passed P f =
      let c = passed in
      let p = c.plan-is in
      let σ = c.sheets.one in
      let τ = c.sheets.two in
      let are = both-contracts 0 0 old new c.sheets c.reads in
      let judged = walk-judges mode (alike p.k) σ τ p.rows (limit_of (length work)) in
      let sound : IsSound mode (alike p.k) σ τ p.rows = (judged.accepts (λ y. omega (arith, y, c.walks))).0 c.walks in
      subst⁻¹ (λ (k : ℕ). P k (contract_in old) (contract_in new)) (ap rank_of c.plan-reads)
      (subst⁻¹ (λ (o : Contract). P p.k o (contract_in new)) are.0
      (subst⁻¹ (λ (n : Contract). P p.k σ n) are.1
      (f p σ τ c.plan-reads (both-well-formed 0 0 old new c.sheets c.reads).1 sound)))
