-- The first element of a list that fails a test, along its places: it is the one here, or the first further on.
-- Assumes nothing.
use mathlib.Core.Path.{◌≡◌, refl, sym, ap, ◌∙◌}
use mathlib.Core.Bool.{Bool, true, false}
use mathlib.Core.List.{List, ◌∷◌}
use mathlib.Core.Option.{none, some}
use Prim.Native.Nat.{ℕ, suc, ◌+◌, ◌≤◌, ◌<◌}
use native.Mathlib.Omega.{arith}
use native.Mathlib.Numerals.{add-one}
use lib.ListN.{length, get_or, drop, drop_of_length-le}
use lib.Seq.{drop-cons}
use Rattle.edits.specs.Sound.{first_not}

module _ {A : Type 0} where
  -- the list has so many elements, and the first that fails is the first from place i on
  pub record Along (p : A → Bool) (l : List A) (count i : ℕ) : Type 0 where
    pub number : count ≡ length l
    pub rest : first_not p l ≡ first_not p (drop i l)

  pub list-begin : {p : A → Bool} {l : List A} {count : ℕ} → count ≡ length l → Along p l count 0
  list-begin e = record { number = e; rest = refl }

  fails : (p : A → Bool) (x : A) (l : List A) → p x ≡ false → first_not p (x ∷ l) ≡ some x
  unfolding first_not
  fails p x l e = simp e

  passes : (p : A → Bool) (x : A) (l : List A) → p x ≡ true → first_not p (x ∷ l) ≡ first_not p l
  unfolding first_not
  passes p x l e = simp e

  module _ {p : A → Bool} {l : List A} {count i : ℕ} (v : Along p l count i) where
    -- past the last place
    pub list-none : count ≤ i → first_not p l ≡ none
    unfolding first_not
    list-none h =
        let past : length l ≤ i = omega (arith, v.number) in
        v.rest ∙ ap (first_not p) (drop_of_length-le l past)

    -- at place i, where x stands
    module _ (d : A) (h : i < count) {x : A} (at : x ≡ get_or l i d) where
      here : drop i l ≡ x ∷ drop (suc i) l
      here = drop-cons l i d (omega (arith, v.number)) ∙ ap (λ (y : A). y ∷ drop (suc i) l) (sym at)

      -- it fails
      pub list-here : p x ≡ false → first_not p l ≡ some x
      list-here e = v.rest ∙ ap (first_not p) here ∙ fails p x (drop (suc i) l) e

      -- it passes
      pub list-more : p x ≡ true → Along p l count (i + 1)
      list-more e =
          rw (add-one i) (record { number = v.number; rest = v.rest ∙ ap (first_not p) here ∙ passes p x (drop (suc i) l) e })
