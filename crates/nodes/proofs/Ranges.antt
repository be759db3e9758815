-- The numbers from one on up to a count, and the elements of a list from a place on up to a count: from the first on, one further, and past
-- the last; and where the first number stands that passes a test.
-- Assumes nothing.
use mathlib.Core.Path.{◌≡◌, ap}
use mathlib.Core.Bool.{Bool, true, false}
use mathlib.Core.List.{List, [], ◌∷◌}
use Prim.Native.Nat.{ℕ, suc, ◌+◌, ◌-◌, ◌≤◌, ◌<◌}
use native.Mathlib.Omega.{arith}
use native.Mathlib.Numerals.{add-one}
use lib.ListN.{length, get_or, take, drop, drop_of_length-le}
use lib.Seq.{length-take-le, get_or-take, drop-cons}
use Rattle.model.specs.Lists.{place, upto}

pub upto_all : (count : ℕ) → upto 0 (count - 0) ≡ upto 0 count
upto_all count = let e : count - 0 ≡ count = omega arith in ap (upto 0) e

module _ (first count : ℕ) where
  pub upto-more : first < count → upto first (count - first) ≡ first ∷ upto (first + 1) (count - (first + 1))
  unfolding upto
  upto-more h = let one_more : count - first ≡ suc (count - (first + 1)) = omega arith in rw (one_more, add-one)

  pub upto-end : count ≤ first → upto first (count - first) ≡ []
  unfolding upto
  upto-end h = let none-left : count - first ≡ 0 = omega arith in rw none-left

module _ (l : List ℕ) (first count : ℕ) (fits : count ≤ length l) where
  pub elements-more : first < count → drop first (take count l) ≡ get_or l first 0 ∷ drop (first + 1) (take count l)
  elements-more h =
      let long = length-take-le count l fits in
      rw (add-one, ← get_or-take count l first 0 h) (drop-cons (take count l) first 0 (omega arith))

  pub elements-end : count ≤ first → drop first (take count l) ≡ []
  elements-end h = let long = length-take-le count l fits in drop_of_length-le (take count l) {i = first} (omega arith)

-- ---- the first number that passes a test
module _ (p : ℕ → Bool) where
  pub place-all : (count : ℕ) → 0 + place p (upto 0 (count - 0)) ≡ place p (upto 0 count)
  place-all count = omega (arith, ap (place p) (upto_all count))

  module _ (first count : ℕ) where
    pub place_here : first < count → p first ≡ true → first ≡ first + place p (upto first (count - first))
    unfolding place
    place_here h e = rw (upto-more first count h, e) (omega arith)

    pub place-later : first < count → p first ≡ false
        → first + 1 + place p (upto (first + 1) (count - (first + 1))) ≡ first + place p (upto first (count - first))
    unfolding place
    place-later h e = rw (upto-more first count h, e) (omega arith)

    pub place_end : count ≤ first → first ≡ first + place p (upto first (count - first))
    unfolding place
    place_end h = rw (upto-end first count h) (omega arith)
