-- The first element that fails a test: there is none exactly if all pass, and all before it pass. By recursion on the list.
-- Assumes nothing.
use mathlib.Core.Path.{◌≡◌, refl, sym, ap, subst, subst⁻¹, ◌∙◌}
use mathlib.Core.Bool.{Bool, true, false, cond, ◌&&◌}
use mathlib.Core.Option.{Option, none, some, some-injective, none-ne-some}
use mathlib.Core.Logic.{⊎_elim}
use mathlib.Core.List.Memᴰ
use mathlib.Core.List.{List, [], ◌∷◌}
use lib.Dec.{T}
use Rattle.model.specs.Lists.{all}
use Rattle.edits.specs.Sound.{given, first_not}
use Rattle.edits.specs.Promises.{FirstNot}

-- there is one exactly if it is some
pub given-elim : {A : Type 0} (o : Option A) → T (given o) → (x : A) × (o ≡ some x)
unfolding given
given-elim none t = absurd t
given-elim (some x) t = (x, refl)

pub given-intro : {A : Type 0} (o : Option A) (x : A) → o ≡ some x → T (given o)
unfolding given
given-intro o x e = rw e tt

module _ {A : Type 0} (p : A → Bool) where
  -- what is found is the first that fails
  pub first-fails : (l : List A) (x : A) → first_not p l ≡ some x → FirstNot (λ y. T (p y)) l x
  unfolding first_not
  first-fails [] x e = absurd (none-ne-some x e)
  first-fails (y ∷ l) x e = go (p y) refl e (first-fails l x)
    where
      go : (b : Bool) → p y ≡ b → cond b (first_not p l) (some y) ≡ some x → (first_not p l ≡ some x → FirstNot (λ z. T (p z)) l x)
          → FirstNot (λ z. T (p z)) (y ∷ l) x
      go true passes e below =
          let w = below e in
          record {
            before = y ∷ w.before;
            after = w.after;
            split = ap (λ (l : List A). y ∷ l) w.split;
            holds = λ z m. ⊎_elim (λ (is : z ≡ y). subst⁻¹ (λ (b : Bool). T b) (ap p is ∙ passes) tt) (w.holds z) (Memᴰ.cases_cons m);
            fails = w.fails;
          }
      go false stops e below =
          let is : y ≡ x = some-injective y x e in
          record {
            before = [];
            after = l;
            split = ap (λ (z : A). z ∷ l) is;
            holds = λ z m. absurd (Memᴰ.not-nil m);
            fails = λ t. subst (λ (b : Bool). T b) (ap p (sym is) ∙ stops) t;
          }

  -- none fails exactly if all pass
  pub none-fails : (l : List A) → first_not p l ≡ none → T (all p l)
  unfolding first_not all
  none-fails [] e = tt
  none-fails (x ∷ l) e = go (p x) e (none-fails l)
    where
      go : (b : Bool) → cond b (first_not p l) (some x) ≡ none → (first_not p l ≡ none → T (all p l)) → T (b && all p l)
      go true e below = below e
      go false e below = absurd (none-ne-some x (sym e))

  pub all_pass : (l : List A) → T (all p l) → first_not p l ≡ none
  unfolding first_not all
  all_pass [] t = refl
  all_pass (x ∷ l) t = go (p x) t (all_pass l)
    where
      go : (b : Bool) → T (b && all p l) → (T (all p l) → first_not p l ≡ none) → cond b (first_not p l) (some x) ≡ none
      go true t below = below t
      go false t below = absurd t

-- the same of another property that passes and fails alike
pub first-as : {A : Type 0} (P Q : A → Type 0) → ((y : A) → P y → Q y) → ((y : A) → Q y → P y) → {l : List A} {x : A}
    → FirstNot P l x → FirstNot Q l x
first-as P Q f g {x = x} w =
    record { before = w.before; after = w.after; split = w.split; holds = λ y m. f y (w.holds y m); fails = λ q. w.fails (g x q) }
