-- Every plan we emit is accepted in its mode, `ours-pass`: its reached pairs are its states with the situations they stand for, so they are sound and
-- no more than the states.
-- Assumes nothing.
use mathlib.Core.Path.{◌≡◌, refl, sym, ap, subst⁻¹, ◌∙◌}
use mathlib.Core.Option.{some, some-injective, none-ne-some}
use mathlib.Core.List.{List, [], ◌∷◌, Memᴰ}
use Prim.Native.Nat.{ℕ, zero, suc, ◌+◌, ◌≤◌}
use native.Mathlib.Omega.{arith}
use lib.ListN.{length, get_elem?}
use Rattle.model.specs.Lists.{Distinct}
use Rattle.model.specs.Contract.{Contract, state}
use Rattle.model.specs.Situation.{Situation, kind_of, start, alike, next}
use Rattle.model.specs.Test.{Mode, test}
use Rattle.model.specs.Search.{at_start, by_move}
use Rattle.model.specs.Plan.{Move, Plan, read_plan, rows_in}
use Rattle.model.specs.Connect.{rows_for, limit_of, connect_of}
use Rattle.model.specs.Weak.{AsksAt}
use Rattle.model.specs.Demands.{emitted_plan, Related, IsKept, kept_start, kept_move, HoldsLargest}
use Rattle.model.proofs.PlanRows.{at_mem}
use Rattle.model.proofs.PlanLaid.{laid}
use Rattle.model.proofs.PlanRuns.{rows-read}
use Rattle.model.proofs.Search.{pigeons}
use Rattle.model.proofs.Situation.{next-elim}
use Rattle.model.proofs.Test.{rounds-test, mode-computes}
use Rattle.model.proofs.Weak.{weak-closed}
use Rattle.model.proofs.Accepted.{kept_of, accepted, accepted-reads}
use Rattle.model.proofs.Demand2.{limit-few, emitted-is, demand-2}
use Rattle.edits.specs.Places.{Place, first_place, row_here, IsPlace}
use Rattle.edits.specs.Check.{check_plan_of}
use Rattle.edits.specs.Promises.{RowCode, Sound, Judges, OursPass}
use Rattle.edits.proofs.Places.{held-code, holds-code, follow-elim}
use Rattle.edits.proofs.Sound.{old-met}
use Rattle.edits.proofs.Decides.{check-decides}

-- ---- situations with their numbers

numbered : ℕ → List Situation → List Place
numbered i [] = []
numbered i (s ∷ l) = record { plan = i; at = s } ∷ numbered (suc i) l

length-numbered : (i : ℕ) (l : List Situation) → length (numbered i l) ≡ length l
unfolding numbered
length-numbered i [] = refl
length-numbered i (s ∷ l) = ap suc (length-numbered (suc i) l)

mem-numbered : (i : ℕ) (l : List Situation) (j : ℕ) (x : Place) → x.plan ≡ i + j → get_elem? l j ≡ some x.at → Memᴰ x (numbered i l)
unfolding numbered
mem-numbered i [] j x e f = absurd (none-ne-some x.at f)
mem-numbered i (s ∷ l) zero x e f =
    let p : x.plan ≡ i = omega (arith, e) in
    let q : x.at ≡ s = sym (some-injective s x.at f) in
    Memᴰ.head (λ i. record { plan = p i; at = q i })
mem-numbered i (s ∷ l) (suc j) x e f = Memᴰ.tail (mem-numbered (suc i) l j x (omega (arith, e)) f)

-- ---- rows that hold the largest relation's moves

module _ (mode : Mode) (k : ℕ) (σ τ : Contract) (bytes : List ℕ)
    (h : HoldsLargest (AsksAt mode σ τ) k σ τ bytes) (begun : Related (AsksAt mode σ τ) k σ τ start) where
  abbrev rows : List (List Move)
  rows = rows_in bytes

  abbrev Here : Place → Type 0
  Here x = IsPlace (alike k) σ τ rows x

  -- a reached pair is a plan state with the situation that it stands for
  stands : {x : Place} → Here x → get_elem? h.states x.plan ≡ some x.at
  unfolding first_place row_here
  stands (at_start e) = subst⁻¹ (λ (x : Place). get_elem? h.states x.plan ≡ some x.at) e h.first
  stands (by_move {s = x} {t = y} code m e r) =
      let w = follow-elim (alike k) σ τ rows x y code e in
      let v = h.only x.plan code y.plan x.at (stands r) w.0 in
      v.4 ∙ (sym v.2 ∙ w.1)

  -- so there are no more of them than plan states
  few_places : (l : List Place) → Distinct l → ((x : Place) → Memᴰ x l → Here x) → length l ≤ length h.states
  few_places l d f =
      omega (
        arith,
        length-numbered 0 h.states,
        pigeons l (numbered 0 h.states) d (λ x m. mem-numbered 0 h.states x.plan x (omega arith) (stands (f x m))),
      )

  kept-related : {s : Situation} → IsKept (AsksAt mode σ τ) k σ τ s → Related (AsksAt mode σ τ) k σ τ s
  kept-related (kept_start e) = subst⁻¹ (λ (s : Situation). Related (AsksAt mode σ τ) k σ τ s) e begun
  kept-related (kept_move code m e r from) = r

  module _ (x : Place) (r : Here x) where
    abbrev s : Situation
    s = x.at

    -- what the row holds is enabled
    row-enabled : (code : ℕ) → RowCode mode (alike k) σ τ rows x code → (t : Situation) × (next (alike k) σ τ s code ≡ some t)
    unfolding row_here
    row-enabled code m =
        let w = holds-code (row_here (alike k) σ τ rows x) code m in
        let v = h.only x.plan code w.0 s (stands r) w.1 in
        (v.0, v.2)

    -- and the row holds all that some relation of definition 3.7 asks for
    place-sound : Sound mode (alike k) σ τ rows x
    unfolding row_here
    place-sound =
        let related = kept-related ((h.kept s).0 (at_mem h.states x.plan s (stands r))) in
        let step = weak-closed (alike k) σ τ (test mode σ τ) (AsksAt mode σ τ) (mode-computes mode σ τ) related.0 related.1 s related.2 in
        record {
          within = λ code m.
              let t = row-enabled code m in
              let b = (next-elim (alike k) σ τ s code (kind_of code) t.0 refl t.1).1 in
              (b.0, b.1);
          meets = λ code m met.
              let t = row-enabled code m in
              let o = (next-elim (alike k) σ τ s code (kind_of code) t.0 refl t.1).0 in
              old-met (state σ s.old) (state τ s.new) (kind_of code) o;
          passes = (rounds-test (mode-computes mode σ τ)).grows step.acts (RowCode mode (alike k) σ τ rows x) s
              (λ code a.
              let t = step.leads code a in
              let w = h.every x.plan code s t.0 (stands r) (step.known code a) t.1 (related.0, related.1, t.2) in
              held-code (row_here (alike k) σ τ rows x) code w.0 w.1)
              step.passes;
        }

  -- with a record for each plan state the check comes to 0
  judged-sound : (limit number : ℕ) → length h.states ≤ limit → Judges mode (alike k) σ τ rows limit number → number ≡ 0
  judged-sound limit number enough j =
      let whole : number ≡ 11 → ⊥ = (λ e. let w = j.capacity.0 e in omega (arith, few_places w.0 w.1 w.2, w.3, enough)) in
      (j.accepts whole).1 place-sound

-- ---- what connecting emits

limit-enough : (records count : ℕ) → count ≤ records → count ≤ 4096 → count ≤ limit_of records
unfolding limit_of
limit-enough records count h l = omega arith

pub ours-pass : OursPass
unfolding connect_of
ours-pass R Q blank empty mode k old new work plan records z enough =
    let c = accepted mode (length work) (length plan) k old new z in
    let σ = c.sheets.one in
    let τ = c.sheets.two in
    let made = emitted_plan (connect_of blank mode k old new work plan) in
    let limit = limit_of (length work) in
    let p : Plan = record { n = σ.n; k = k; rows = rows_for k σ τ (kept_of mode k limit σ τ) } in
    let reads : read_plan made ≡ some p =
    ap read_plan (emitted-is blank mode k old new c.sheets work c.admitted plan c.situations c.states c.rounds c.emits)
    ∙ accepted-reads mode k limit (length plan) old new c (limit-few (length work)) in
    let d = demand-2 R blank mode k old new c.sheets work plan c.admitted in
    let h = d.emitted z in
    let begun = (d.accepts (λ y. absurd (omega (arith, y, z))) (λ y. absurd (omega (arith, y, z)))).0 z in
    let rows_are = rows-read made p reads in
    let fits : length h.states ≤ limit_of (length records) =
    limit-enough (length records) (length h.states) (omega (arith, h.rows, d.states z, enough))
    (omega (arith, h.rows, ap length rows_are, (laid made p reads).few)) in
    let number = (check_plan_of empty mode old new made records).answer.number in
    judged-sound mode k σ τ made h begun (limit_of (length records)) number fits
    (subst⁻¹ (λ (rs : List (List Move)). Judges mode (alike k) σ τ rs (limit_of (length records)) number) rows_are
    (check-decides Q empty mode old new made records c.sheets p c.admitted.reads reads refl))
