-- Functions on lists that compute, by tests with the answers true and false.
-- Assumes nothing.
use Rattle.std.specs.Prelude.{Bool, true, false, ◌&&◌, ◌||◌, cond, ℕ, zero, suc, ◌≤◌}
use mathlib.Core.List.{List, [], ◌∷◌, ◌++◌, map, Memᴰ}
use Rattle.std.proofs.Math.Option.{Option, some, bind}

module _ {A : Type 0} where
  -- some element passes
  unfoldable pub any : (A → Bool) → List A → Bool
  any p [] = false
  any p (x ∷ xs) =
      p x || any p xs

  -- every element passes
  unfoldable pub all : (A → Bool) → List A → Bool
  all p [] = true
  all p (x ∷ xs) =
      p x && all p xs

  -- those that pass, in order
  unfoldable pub keep : (A → Bool) → List A → List A
  keep p [] = []
  keep p (x ∷ xs) = cond (p x) (x ∷ keep p xs) (keep p xs)

  -- the first place whose element passes, or the length if none does
  unfoldable pub place : (A → Bool) → List A → ℕ
  place p [] = zero
  place p (x ∷ xs) = cond (p x) zero (suc (place p xs))

  -- no element stands twice
  abbrev pub Distinct : List A → Type 0
  Distinct [] = Unit {0}
  Distinct (x ∷ xs) = (Memᴰ x xs → ⊥) × Distinct xs

-- a function of each element of one list with each of another
unfoldable pub combine : {A B C : Type 0} → (A → B → C) → List A → List B → List C
combine f [] ys = []
combine f (x ∷ xs) ys = map (f x) ys ++ combine f xs ys

-- steps from x, by labels one after the other; none if one of them cannot be taken
unfoldable pub through : {A : Type 0} → (A → ℕ → Option A) → A → List ℕ → Option A
through step x [] = some x
through step x (label ∷ labels) = bind (step x label) (λ y. through step y labels)

-- `count` numbers from `first` on, ascending
unfoldable pub upto : ℕ → ℕ → List ℕ
upto first zero = []
upto first (suc count) = first ∷ upto (suc first) count

-- numbers strictly ascending, the first of them not below `low`
abbrev pub Ascending : ℕ → List ℕ → Type 0
Ascending low [] = Unit {0}
Ascending low (x ∷ xs) = (low ≤ x) × Ascending (suc x) xs
