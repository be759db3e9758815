-- A loop along a list that stops at the first element which decides: `any` at a yes, `all` at a no. As long as none was met, the rest
-- decides as the whole list does.
-- Assumes nothing.
use mathlib.Core.Path.{◌≡◌, refl, sym, ap, ◌∙◌}
use mathlib.Core.Bool.{Bool, true, false, not}
use mathlib.Core.List.{List, [], ◌∷◌}
use Prim.Native.Nat.{ℕ, suc, ◌+◌, ◌≤◌, ◌<◌}
use native.Mathlib.Numerals.{add-one}
use lib.ListN.{length, get_or, drop, drop_of_length-le}
use lib.Seq.{drop-cons}
use Rattle.model.specs.Lists.{any, all}

-- what is asked of a list is answered by `stop` at the first element whose test says `stop`
pub record Decisive {A : Type 0} (p : A → Bool) (over : List A → Bool) (stop : Bool) : Type 0 where
  -- such an element decides
  pub here : (x : A) (xs : List A) → p x ≡ stop → stop ≡ over (x ∷ xs)
  -- any other leaves it to the rest
  pub later : (x : A) (xs : List A) → p x ≡ not stop → over xs ≡ over (x ∷ xs)
  -- and none is left
  pub never : not stop ≡ over []

pub any-decides : {A : Type 0} (p : A → Bool) → Decisive p (any p) true
unfolding any
any-decides p = record { here = λ x xs e. rw e refl; later = λ x xs e. rw e refl; never = refl }

pub all-decides : {A : Type 0} (p : A → Bool) → Decisive p (all p) false
unfolding all
all-decides p = record { here = λ x xs e. rw e refl; later = λ x xs e. rw e refl; never = refl }

module _ {A : Type 0} {p : A → Bool} {over : List A → Bool} {stop : Bool} (by : Decisive p over stop) (l : List A) (i : ℕ)
    (rest : over (drop i l) ≡ over l) where
  -- past the last place
  pub ended : length l ≤ i → not stop ≡ over l
  ended h = by.never ∙ ap over (sym (drop_of_length-le l h)) ∙ rest

  -- at place i, where x stands and the test answers t
  module _ (d : A) (h : i < length l) {x : A} (at : x ≡ get_or l i d) {t : Bool} (tested : t ≡ p x) where
    there : (s : Bool) → t ≡ s → p (get_or l i d) ≡ s
    there s e = ap p (sym at) ∙ sym tested ∙ e

    pub decided : t ≡ stop → stop ≡ over l
    decided e = by.here _ (drop (suc i) l) (there stop e) ∙ ap over (sym (drop-cons l i d h)) ∙ rest

    pub onward : t ≡ not stop → over (drop (i + 1) l) ≡ over l
    onward e = rw add-one (by.later _ (drop (suc i) l) (there (not stop) e) ∙ ap over (sym (drop-cons l i d h)) ∙ rest)
