-- The check decides soundness, `check-decides`: a walk that is cut off has found more pairs than the limit, and a whole walk finds exactly
-- the reached pairs, so that all it found are sound exactly if all reached ones are.
-- Assumes nothing.
use mathlib.Core.Path.{◌≡◌, refl, sym, ap, subst⁻¹, ◌∙◌}
use mathlib.Core.Bool.{Bool, true, false, cond}
use mathlib.Core.Logic.{◌⊎◌, inl, inr}
use mathlib.Core.List.{List, [], ◌∷◌, nil≢cons}
use Prim.Native.Nat.{ℕ}
use native.Mathlib.Omega.{arith}
use lib.ListN.{length}
use lib.Dec.{T}
use borrow.Author.Tests.{eq-eqb}
use Rattle.model.specs.Lists.{all}
use Rattle.model.specs.Contract.{Contract}
use Rattle.model.specs.Sheet.{plain, read_both}
use Rattle.model.specs.Situation.{alike}
use Rattle.model.specs.Test.{Mode}
use Rattle.model.specs.Search.{Search}
use Rattle.model.specs.Plan.{Move, read_plan}
use Rattle.model.specs.Connect.{limit_of, refused}
use Rattle.model.proofs.Lists.{all-elim, all-intro, dec-T, cond_yes, cond_no}
use Rattle.edits.specs.Places.{Place, places_walked}
use Rattle.edits.specs.Sound.{sound_place}
use Rattle.edits.specs.Check.{walk_number, walked, plan_number, verdict_of, check_plan_of}
use Rattle.edits.specs.Promises.{IsSound, Judges, CheckDecides}
use Rattle.edits.proofs.Places.{walk-found, walk-all, walk-cut, walk-within}
use Rattle.edits.proofs.Sound.{sound-elim, sound-intro}

-- the numbers that a walk comes to
abbrev pub AfterPairs : ℕ → Type 0
AfterPairs number = (number ≡ 0) ⊎ ((number ≡ 11) ⊎ (number ≡ 21))

module _ (mode : Mode) (limits : List ℕ) (old new : Contract) (rows : List (List Move)) (limit : ℕ) where
  abbrev walk : Search Place
  walk = places_walked limits old new rows limit

  abbrev number : ℕ
  number = walked mode limits old new rows limit

  abbrev all_sound : Bool
  all_sound = all (sound_place mode limits old new rows) walk.done

  judges-cut : (x : Place) (l : List Place) → walk.todo ≡ x ∷ l → number ≡ 11 → Judges mode limits old new rows limit number
  judges-cut x l e z =
      record {
        capacity = ((λ _. walk-cut limits old new rows limit (λ y. nil≢cons (sym y ∙ e))), (λ _. z));
        accepts = λ n. absurd (n z);
        refuses = λ n. absurd (n z);
      }

  -- a whole walk has found sound pairs only exactly if every reached pair is sound
  pub all-reached : walk.todo ≡ [] → T all_sound → IsSound mode limits old new rows
  all-reached e t x r =
      sound-elim mode limits old new rows x (all-elim (sound_place mode limits old new rows) (walk-all limits old new rows limit e x r) t)

  pub all-walked : IsSound mode limits old new rows → T all_sound
  all-walked s =
      all-intro (sound_place mode limits old new rows) walk.done
      (λ x m. sound-intro mode limits old new rows x (s x (walk-found limits old new rows limit x m)))

  judges-whole : walk.todo ≡ [] → number ≡ cond all_sound 0 21 → Judges mode limits old new rows limit number
  judges-whole e z = go (dec-T all_sound)
    where
      go : T all_sound ⊎ (T all_sound → ⊥) → Judges mode limits old new rows limit number
      go (inl t) =
          let is-0 : number ≡ 0 = z ∙ cond_yes all_sound 0 21 t in
          let sound = all-reached e t in
          record {
            capacity = ((λ y. absurd (omega (arith, is-0, y))), (λ w. absurd (walk-within limits old new rows limit e w)));
            accepts = λ _. ((λ _. sound), (λ _. is-0));
            refuses = λ _. ((λ y. absurd (omega (arith, is-0, y))), (λ n. absurd (n sound)));
          }
      go (inr t) =
          let is-21 : number ≡ 21 = z ∙ cond_no all_sound 0 21 t in
          let unsound : IsSound mode limits old new rows → ⊥ = (λ s. t (all-walked s)) in
          record {
            capacity = ((λ y. absurd (omega (arith, is-21, y))), (λ w. absurd (walk-within limits old new rows limit e w)));
            accepts = λ _. ((λ y. absurd (omega (arith, is-21, y))), (λ s. absurd (unsound s)));
            refuses = λ _. ((λ _. unsound), (λ _. is-21));
          }

  -- what a walk comes to is what it means, cut off or whole
  pub walk-judges : Judges mode limits old new rows limit number
  unfolding walked walk_number
  walk-judges = go walk.todo refl
    where
      go : (l : List Place) → walk.todo ≡ l → Judges mode limits old new rows limit number
      go [] e = judges-whole e (ap (walk_number mode limits old new rows walk.done) e)
      go (x ∷ l) e = judges-cut x l e (ap (walk_number mode limits old new rows walk.done) e)

  -- and is one of three numbers
  pub walk-number : AfterPairs number
  unfolding walked walk_number
  walk-number = go walk.todo
    where
      at : (b : Bool) → AfterPairs (cond b 0 21)
      at true = inl refl
      at false = inr (inr refl)

      go : (l : List Place) → AfterPairs (walk_number mode limits old new rows walk.done l)
      go [] = at all_sound
      go (x ∷ l) = inr (inl refl)

pub check-decides : CheckDecides
unfolding check_plan_of verdict_of plan_number refused plain
check-decides R blank mode old new plan work sheets p e f n =
    let limit = limit_of (length work) in
    let number : ℕ = walked mode (alike p.k) sheets.one sheets.two p.rows limit in
    let is : (verdict_of mode limit (read_both 0 0 old new) (read_plan plan)).number ≡ number = rw (e, f, eq-eqb p.n sheets.one.n n) refl in
    subst⁻¹ (Judges mode (alike p.k) sheets.one sheets.two p.rows limit) is
    (walk-judges mode (alike p.k) sheets.one sheets.two p.rows limit)
