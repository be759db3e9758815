-- The number of a walk: the condition at fault is 0 exactly if all walked pairs are sound, so it is what the definition's walk comes to.
-- With it the walk of an admitted plan is the answer.
-- Assumes nothing.
use mathlib.Core.Path.{◌≡◌, refl, sym, ap, ◌∙◌}
use mathlib.Core.Bool.{Bool, true, cond, false≢true}
use mathlib.Core.List.{List, [], ◌∷◌}
use mathlib.Core.Option.{Option, none, some, none-ne-some}
use Prim.Native.Nat.{ℕ}
use Rattle.std.specs.Prelude as declared
use Rattle.std.specs.Prelude.{None, Some, Result, Ok, Err, is_ok}
use native.Mathlib.Omega.{arith}
use lib.ListN.{length}
use lib.Dec.{T, eqb}
use borrow.Author.Tests.{ne_eqb}
use Rattle.model.specs.Lists.{all}
use Rattle.model.specs.Contract.{Contract}
use Rattle.model.specs.Sheet.{contract_in, plain}
use Rattle.model.specs.Situation.{alike}
use Rattle.model.specs.Test as model
use Rattle.model.specs.Plan.{Move, read_plan, rows_in}
use Rattle.model.specs.Search.{Search}
use Rattle.model.specs.Connect.{limit_of}
use Rattle.model.proofs.Lists.{cond_yes, cond_no}
use Rattle.moves.specs.declared.Mode.{Mode}
use Rattle.moves.specs.Modes.{mode_of}
use Rattle.plan.specs.Layout.{is_some}
use Rattle.table.specs.declared.Record.{Record}
use Rattle.table.specs.Records.{blank, cleared}
use Rattle.edits.specs.Places.{Place, codes_in, row_here, places_walked}
use Rattle.edits.specs.Sound.{first_not, sound_place, blame_in}
use Rattle.edits.specs.Check.{walk_number, walked, PlanFault, no_fault, fault_at, first_fault, fault_among, fault_walked, after_pairs}
use Rattle.edits.specs.Promises.{rank_of}
use Rattle.edits.proofs.First.{none-fails, all_pass, first-fails}
use Rattle.edits.proofs.Sound.{blame-none}
use Rattle.reached.specs.declared.Full.{Full}
use Rattle.edits_rows.specs.Rows.{blame_by}
use Rattle.edits_rows.specs.declared.Breach.{Breach}
use Rattle.edits_rows.specs.declared.Breach.TheVariants.{Outside, Unmet, Unanswered, Undelivered}
use Rattle.edits_walk.specs.Faults.{unsound_by, fault_found}
use Rattle.edits_walk.specs.Walk.{none_left, fault_in, Walkable, Walked}
use Rattle.edits_walk.specs.declared.Unsound.{Unsound}
use Rattle.check_plan.specs.Answers.{number_of_walk, AdmittedPlan, WalksPlan}

-- ---- the number

-- what a whole walk with such a fault comes to
abbrev judged : PlanFault → ℕ
judged f = cond (eqb f.blame.condition 0) 0 21

-- an unsound pair has a condition that is broken
number-found : (found : declared.Option Unsound) → number_of_walk (Ok found) ≡ judged (fault_found found)
unfolding fault_found unsound_by no_fault
number-found None = refl
number-found (Some unsound) = go unsound.breach
  where
    go : (b : Breach) → ◌≡◌ {A = ℕ} 21 (cond (eqb (blame_by b).condition 0) 0 21)
    go (Outside code) = refl
    go (Unmet code) = refl
    go (Unanswered S) = refl
    go (Undelivered S) = refl

module _ (mode : model.Mode) (limits : List ℕ) (old new : Contract) (rows : List (List Move)) (limit : ℕ) where
  abbrev search : Search Place
  search = places_walked limits old new rows limit

  abbrev sound : Place → Bool
  sound = sound_place mode limits old new rows

  unblamed : (x : Place) → (blame_in mode limits old new rows x).condition ≡ 0 → T (sound x)
  unfolding blame_in sound_place
  unblamed x z = (blame-none mode limits old new x.at (codes_in (row_here limits old new rows x))).0 z

  -- the first fault has the condition 0 exactly if all are sound
  judged-first : judged (first_fault mode limits old new rows search.done) ≡ cond (all sound search.done) 0 21
  unfolding first_fault fault_at no_fault
  judged-first = go (first_not sound search.done) refl
    where
      go : (o : Option Place) → first_not sound search.done ≡ o
          → judged (fault_at mode limits old new rows o) ≡ cond (all sound search.done) 0 21
      go none e = sym (cond_yes (all sound search.done) 0 21 (none-fails sound search.done e))
      go (some x) e =
          let w = first-fails sound search.done x e in
          rw (ne_eqb (blame_in mode limits old new rows x).condition 0 (λ z. w.fails (unblamed x z)))
          (sym (cond_no (all sound search.done) 0 21 (λ t. none-ne-some x (sym (all_pass sound search.done t) ∙ e))))

  pub number-walked : (r : Result (declared.Option Unsound) Full) → is_ok r ≡ none_left search.todo
      → fault_in r ≡ fault_walked mode limits old new rows limit
      → number_of_walk r ≡ walked mode limits old new rows limit
  unfolding walked walk_number none_left fault_walked fault_among
  number-walked r whole fault = go search.todo r whole fault
    where
      go : (l : List Place) (r : Result (declared.Option Unsound) Full) → is_ok r ≡ none_left l → fault_in r ≡ fault_among mode limits old new rows search.done l
          → number_of_walk r ≡ walk_number mode limits old new rows search.done l
      go [] (Ok found) whole fault = number-found found ∙ ap judged fault ∙ judged-first
      go [] (Err full) whole fault = absurd (false≢true whole)
      go (x ∷ l) (Ok found) whole fault = absurd (false≢true (sym whole))
      go (x ∷ l) (Err full) whole fault = refl

-- it is given after pairs were counted
number-after : (r : Result (declared.Option Unsound) Full) → after_pairs (number_of_walk r) ≡ true
unfolding after_pairs
number-after (Ok None) = refl
number-after (Ok (Some unsound)) = refl
number-after (Err full) = refl

-- ---- an admitted plan

cleared-same : (a b : List Record) → length a ≡ length b → cleared a ≡ cleared b
unfolding cleared
cleared-same [] [] e = refl
cleared-same [] (y ∷ b) e = absurd (omega arith)
cleared-same (x ∷ a) [] e = absurd (omega arith)
cleared-same (x ∷ a) (y ∷ b) e = ap (λ (l : List Record). blank ∷ l) (cleared-same a b (omega arith))

module _ (old new plan : List ℕ) (admitted : AdmittedPlan old new plan) where
  pub plan-read : is_some (read_plan plan) ≡ true
  unfolding is_some
  plan-read = rw admitted.is_plan refl

  module _ {n k : ℕ} (reads : read_plan plan ≡ some (record { n = n; k = k; rows = rows_in plan })) (limit : ℕ) (work : List Record) (limit_is : limit ≡ limit_of (length work)) where
    rank_is : admitted.rank ≡ k
    unfolding rank_of
    rank_is = ap rank_of (sym admitted.is_plan ∙ reads)

    pub walk-needs : Walkable old new plan k limit work
    unfolding limit_of
    walk-needs =
        record {
          old_sheet = admitted.old_sheet;
          new_sheet = admitted.new_sheet;
          names = admitted.names;
          is_plan = admitted.is_plan ∙ (λ i. some (record { n = admitted.names; k = rank_is i; rows = rows_in plan }));
          few = omega arith;
          room = omega arith;
        }

    pub walk-answers : (mode : Mode) (r : Result (declared.Option Unsound) Full) (between work' : List Record) → Walked mode old new plan k limit r work between
        → work' ≡ cleared between → WalksPlan mode old new plan r work work'
    walk-answers mode r between work' w is-cleared =
        let σ = contract_in old in
        let τ = contract_in new in
        let rows = rows_in plan in
        let most = limit_of (length work) in
        let number : walked (mode_of mode) (alike admitted.rank) σ τ rows most ≡ number_of_walk r =
        (λ i. walked (mode_of mode) (alike (rank_is i)) σ τ rows (sym limit_is i))
        ∙ sym (number-walked (mode_of mode) (alike k) σ τ rows limit r w.whole w.fault) in
        let fault : fault_walked (mode_of mode) (alike admitted.rank) σ τ rows most ≡ fault_in r =
        (λ i. fault_walked (mode_of mode) (alike (rank_is i)) σ τ rows (sym limit_is i)) ∙ sym w.fault in
        record {
          number = admitted.number (mode_of mode) most ∙ ap (λ (n : ℕ). plain n 0) number;
          fault = admitted.fault (mode_of mode) most ∙ fault;
          after = number-after r;
          zero = is-cleared ∙ cleared-same between work w.size;
        }
