-- Answers and the readings that they are for: an answer tells whether a reading is good, what of it was handed on, and what refused it. By
-- cases on both. Assumes nothing.
use Rattle.std.proofs.Common.{◌≡◌, refl, sym, ap, ◌∙◌, List, ℕ, Result, Ok, Err}
use Rattle.std.specs.Result.{IsErrAnd, MatchResult}
use Rattle.std.proofs.lemmas.Result.{err_from_is_err_and}
use Rattle.model.specs.Sheet as model
use Rattle.model.specs.Sheet.{Reading, good, refusal, then, Sheet, read_sheet, Refusal, in_place}
use Rattle.model.proofs.Sheet.{place-good}
use Rattle.sheet.specs.Answers.{fault_of, reading_of, on_result, whole}
use Rattle.sheet.specs.Whole.{IsSheet}
use Rattle.sheet.specs.declared.Fault.{Fault}

module _ {A B F : Type 0} (f : A → B) where
  -- a function of what was read, and then another
  pub on-then : {C : Type 0} (g : C → A) (r : Reading F C) → on_result f (on_result g r) ≡ on_result (λ c. f (g c)) r
  unfolding then
  on-then g (good c) = refl
  on-then g (refusal e) = refl

  pub was-good : (r : Reading F A) (b : B) → good b ≡ on_result f r → (a : A) × (r ≡ good a) × (b ≡ f a)
  unfolding then
  was-good (good a) b h = (a, refl, (cc))
  was-good (refusal e) b h = cc

  pub was-refusal : (r : Reading F A) (e : F) → refusal e ≡ on_result f r → r ≡ refusal e
  unfolding then
  was-refusal (good a) e h = cc
  was-refusal (refusal d) e h = cc

module _ {A B E F : Type 0} (says : E → F) (f : A → B) (r : Reading F A) {x : Result B E} (h : reading_of says x ≡ on_result f r) where
  pub answered-ok : {b : B} → x ≡ Ok b → (a : A) × (r ≡ good a) × (b ≡ f a)
  answered-ok {b} e = was-good f r b (sym (ap (reading_of says) e) ∙ h)

  pub answered-err : {e : E} → x ≡ Err e → r ≡ refusal (says e)
  answered-err {e} w = was-refusal f r (says e) (sym (ap (reading_of says) w) ∙ h)

-- an error that is passed up says what it said before
pub passed-up : {A E F : Type 0} (says : E → F) (x : Result A E) (e : E) → IsErrAnd x (λ d. d ≡ e) → reading_of says x ≡ refusal (says e)
passed-up says x e h = let p = err_from_is_err_and x h in ap (reading_of says) p.1 ∙ ap (λ (d : _). refusal (says d)) p.2

-- bytes that pass in their place are a sheet
pub placed : (place : ℕ) (b : List ℕ) → good tt ≡ whole (in_place place (read_sheet b)) → IsSheet b
placed place b h = let w = was-good (λ s. tt) (in_place place (read_sheet b)) tt h in (w.0, place-good place (read_sheet b) w.1)

-- an answer whose errors are made ones of a sheet in its place
pub placed-answer : {R : Type 0} (says : R → Refusal) (place : ℕ) (b : List ℕ)
    → (x : Result (Unit {0}) Fault) → reading_of fault_of x ≡ whole (read_sheet b)
    → (made : Fault → R → Type 0) → ((f : Fault) (r : R) → made f r → refusal (says r) ≡ in_place place (refusal (fault_of f)))
    → (y : Result (Unit {0}) R) → MatchResult x (λ u. y ≡ Ok u) (λ f. IsErrAnd y (made f))
    → reading_of says y ≡ whole (in_place place (read_sheet b))
unfolding in_place then
placed-answer says place b (Ok u) h made is y m =
    let w = answered-ok fault_of (λ s. tt) (read_sheet b) h refl in
    ap (reading_of says) m ∙ sym (ap (λ (r : Reading model.Fault Sheet). whole (in_place place r)) w.1)
placed-answer says place b (Err f) h made is y m =
    let p = err_from_is_err_and y m in
    ap (reading_of says) p.1 ∙ ap whole (is f p.0 p.2)
    ∙ sym (ap (λ (r : Reading model.Fault Sheet). whole (in_place place r)) (answered-err fault_of (λ s. tt) (read_sheet b) h refl))
