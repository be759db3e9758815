-- What is at fault is told, `fault-tells`: where the walk comes to 21 it is whole, and the first pair in it that fails the test is told,
-- with what breaks its row; where it does not, all is zero.
-- Assumes nothing.
use mathlib.Core.Path.{◌≡◌, refl, sym, subst⁻¹, ◌∙◌}
use mathlib.Core.Bool.{Bool, true, false, cond}
use mathlib.Core.Option.{Option, none, some, none-ne-some}
use mathlib.Core.List.{List, [], ◌∷◌}
use Prim.Native.Nat.{ℕ}
use native.Mathlib.Omega.{arith}
use lib.ListN.{length}
use lib.Dec.{T, eqb}
use Rattle.model.specs.Lists.{all}
use Rattle.model.specs.Contract.{Contract}
use Rattle.model.specs.Sheet.{Reading, good, refusal, Refusal, plain, Both, read_both}
use Rattle.model.specs.Situation.{alike}
use Rattle.model.specs.Test.{Mode}
use Rattle.model.specs.Search.{Search}
use Rattle.model.specs.Plan.{Move, Plan, read_plan}
use Rattle.model.specs.Connect.{limit_of, refused}
use Rattle.model.proofs.Lists.{cond_yes, cond_no}
use Rattle.edits.specs.Places.{Place, places_walked}
use Rattle.edits.specs.Sound.{first_not, sound_place}
use Rattle.edits.specs.Check.{walk_number, walked, plan_number, verdict_of, check_plan_of}
use Rattle.edits.specs.Check.{PlanFault, no_fault, fault_at, first_fault, fault_among, fault_walked, plan_fault, fault_of, plan_fault_of}
use Rattle.edits.specs.Promises.{Sound, Tells, FaultTells}
use Rattle.edits.proofs.First.{none-fails, all_pass, first-fails, first-as}
use Rattle.edits.proofs.Sound.{sound-elim, sound-intro, blame-breaks}

-- ---- the walk

module _ (mode : Mode) (limits : List ℕ) (old new : Contract) (rows : List (List Move)) (limit : ℕ) where
  abbrev walk : Search Place
  walk = places_walked limits old new rows limit

  abbrev sound : Place → Bool
  sound = sound_place mode limits old new rows

  -- what a whole walk comes to
  abbrev judged : ℕ
  judged = cond (all sound walk.done) 0 21

  abbrev Telling : PlanFault → Type 0
  Telling f = Tells mode limits old new rows limit f

  -- the first pair of the walk that fails is what is told
  first-told : (x : Place) → first_not sound walk.done ≡ some x → Telling (fault_at mode limits old new rows (some x))
  unfolding fault_at
  first-told x e =
      let w = first-fails sound walk.done x e in
      record {
        first = first-as (λ y. T (sound y)) (Sound mode limits old new rows)
            (sound-elim mode limits old new rows) (sound-intro mode limits old new rows) w;
        breaks = blame-breaks mode limits old new rows x w.fails;
      }

  -- a walk that comes to 21 is whole and has such a pair
  walk-told : walked mode limits old new rows limit ≡ 21 → Telling (fault_walked mode limits old new rows limit)
  unfolding walked walk_number fault_walked fault_among first_fault
  walk-told z = go walk.todo refl z
    where
      at : (o : Option Place) → first_not sound walk.done ≡ o → judged ≡ 21 → Telling (fault_at mode limits old new rows o)
      at none e z = absurd (omega (arith, z, cond_yes {A = ℕ} (all sound walk.done) 0 21 (none-fails sound walk.done e)))
      at (some x) e z = first-told x e

      go : (l : List Place) → walk.todo ≡ l → walk_number mode limits old new rows walk.done l ≡ 21
          → Telling (fault_among mode limits old new rows walk.done l)
      go [] e z = at (first_not sound walk.done) refl z
      go (x ∷ l) e z = absurd (omega (arith, z))

  -- and a walk that does not has none to tell
  walk-silent : (walked mode limits old new rows limit ≡ 21 → ⊥) → fault_walked mode limits old new rows limit ≡ no_fault
  unfolding walked walk_number fault_walked fault_among first_fault fault_at
  walk-silent n = go walk.todo n
    where
      at : (o : Option Place) → first_not sound walk.done ≡ o → (judged ≡ 21 → ⊥) → fault_at mode limits old new rows o ≡ no_fault
      at none e n = refl
      at (some x) e n =
          absurd (n (cond_no (all sound walk.done) 0 21 (λ t. none-ne-some x (sym (all_pass sound walk.done t) ∙ e))))

      go : (l : List Place) → (walk_number mode limits old new rows walk.done l ≡ 21 → ⊥)
          → fault_among mode limits old new rows walk.done l ≡ no_fault
      go [] n = at (first_not sound walk.done) refl n
      go (x ∷ l) n = refl

-- ---- the plan

-- a plan over other names is not walked: 9 is not 21
plan-told : (mode : Mode) (limit : ℕ) (sheets : Both) (p : Plan) → plan_number mode limit sheets (some p) ≡ 21
    → Tells mode (alike p.k) sheets.one sheets.two p.rows limit (plan_fault mode limit sheets (some p))
unfolding plan_number plan_fault
plan-told mode limit sheets p z = go (eqb p.n sheets.one.n) z
  where
    go : (b : Bool) → cond b (walked mode (alike p.k) sheets.one sheets.two p.rows limit) 9 ≡ 21
        → Tells mode (alike p.k) sheets.one sheets.two p.rows limit
        (cond b (fault_walked mode (alike p.k) sheets.one sheets.two p.rows limit) no_fault)
    go true z = walk-told mode (alike p.k) sheets.one sheets.two p.rows limit z
    go false z = absurd (omega (arith, z))

plan-silent : (mode : Mode) (limit : ℕ) (r : Reading Refusal Both) (o : Option Plan) → ((verdict_of mode limit r o).number ≡ 21 → ⊥)
    → fault_of mode limit r o ≡ no_fault
unfolding verdict_of plan_number plain fault_of plan_fault
plan-silent mode limit (refusal r) o n = refl
plan-silent mode limit (good sheets) none n = refl
plan-silent mode limit (good sheets) (some p) n = go (eqb p.n sheets.one.n) n
  where
    go : (b : Bool) → (cond b (walked mode (alike p.k) sheets.one sheets.two p.rows limit) 9 ≡ 21 → ⊥)
        → cond b (fault_walked mode (alike p.k) sheets.one sheets.two p.rows limit) no_fault ≡ no_fault
    go true n = walk-silent mode (alike p.k) sheets.one sheets.two p.rows limit n
    go false n = refl

pub fault-tells : FaultTells
unfolding check_plan_of plan_fault_of refused verdict_of fault_of plain
fault-tells R blank mode old new plan work =
    let limit = limit_of (length work) in
    record {
      told = λ sheets p e f z.
          let number : (verdict_of mode limit (read_both 0 0 old new) (read_plan plan)).number ≡ plan_number mode limit sheets (some p) = rw (e, f) refl in
          let fault : fault_of mode limit (read_both 0 0 old new) (read_plan plan) ≡ plan_fault mode limit sheets (some p) = rw (e, f) refl in
          subst⁻¹ (Tells mode (alike p.k) sheets.one sheets.two p.rows limit) fault (plan-told mode limit sheets p (sym number ∙ z));
      nothing = plan-silent mode limit (read_both 0 0 old new) (read_plan plan);
      lent = refl;
    }
