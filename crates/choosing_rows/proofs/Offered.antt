-- The actions that a mask has, counted from the lowest up: an action's group stands behind those of the lower actions offered, and one more
-- group behind them changes nothing for these.
-- Assumes nothing.
use mathlib.Core.Path.{◌≡◌, refl, sym, ◌∙◌}
use mathlib.Core.Bool.{Bool, true, false, cond, ◌&&◌}
use mathlib.Core.List.{List, [], ◌∷◌, ◌++◌}
use Prim.Native.Nat.{ℕ, zero, suc, ◌+◌, ◌-◌, ◌<◌, ◌≤◌}
use native.Mathlib.Nat.{zero-add}
use native.Mathlib.Omega.{arith}
use native.Mathlib.Numerals.{add-one}
use lib.Dec.{ltb}
use lib.ListN.{length, get_or, get_or-append}
use lib.Seq.{get_or_at}
use Rattle.model.specs.Lists.{keep, upto}
use Rattle.model.specs.Contract.{has, actions}
use Rattle.sheet.specs.Union.{ones_below}
use Rattle.sheet.proofs.Ones.{count-below, ones-less}
use Rattle.choosing.specs.Rows.{opens, targets_of}

-- ---- actions counted
-- one more to count
count-snoc : (p : ℕ → Bool) (first count : ℕ)
    → length (keep p (upto first (suc count))) ≡ length (keep p (upto first count)) + length (keep p (upto (first + count) 1))
unfolding keep upto
count-snoc p first zero = let z : first + 0 ≡ first = omega arith in rw (z, zero-add) refl
count-snoc p first (suc count) =
    let next : first + suc count ≡ suc first + count = omega arith in
    rw next (go (p first) _ _ _ (count-snoc p (suc first) count))
  where
    go : (x : Bool) (xs ys : List ℕ) (n : ℕ) → length xs ≡ length ys + n
        → length (cond x (first ∷ xs) xs) ≡ length (cond x (first ∷ ys) ys) + n
    go true xs ys n e = omega arith
    go false xs ys n e = e

-- how many actions from j on a mask has
unfoldable pub offered_from : (mask j : ℕ) → ℕ
offered_from mask j = length (keep (has mask) (upto j (14 - j)))

module _ (mask j : ℕ) where
  -- the place of an action's group among those of an open row
  place_is : j ≤ 14 → length (keep (λ i. ltb i j && has mask i) actions) ≡ ones_below mask j
  unfolding actions ones_below
  place_is h = count-below (has mask) 14 j h

  module _ (e : has mask j ≡ true) where
    pub place-next : ones_below mask (j + 1) ≡ ones_below mask j + 1
    unfolding ones_below keep upto
    place-next = rw (add-one j) (count-snoc (has mask) 0 j ∙ rw (zero-add, e) refl)

    pub offered-on : j < 14 → offered_from mask j ≡ suc (offered_from mask (j + 1))
    unfolding offered_from keep upto
    offered-on h = let one_more : 14 - j ≡ suc (14 - (j + 1)) = omega arith in rw (one_more, add-one, e) refl

  module _ (e : has mask j ≡ false) where
    pub place_same : ones_below mask (j + 1) ≡ ones_below mask j
    unfolding ones_below keep upto
    place_same = rw (add-one j) (count-snoc (has mask) 0 j ∙ rw (zero-add, e) (omega arith))

    pub offered-over : j < 14 → offered_from mask j ≡ offered_from mask (j + 1)
    unfolding offered_from keep upto
    offered-over h = let one_more : 14 - j ≡ suc (14 - (j + 1)) = omega arith in rw (one_more, add-one, e) refl

-- ---- groups looked up by action
module _ (mask : ℕ) (front : List (List ℕ)) (j : ℕ) (h : j < 14) (size : length front ≡ ones_below mask j) (l : List ℕ) where
  -- one group more does not change what lower actions lead to
  pub targets-front : (k : ℕ) → k < j → targets_of (opens mask front) k ≡ targets_of (opens mask (front ++ l ∷ [])) k
  unfolding targets_of
  targets-front k less = go (has mask k) refl
    where
      go : (x : Bool) → has mask k ≡ x
          → cond x (get_or front (length (keep (λ i. ltb i k && has mask i) actions)) []) []
          ≡ cond x (get_or (front ++ l ∷ []) (length (keep (λ i. ltb i k && has mask i) actions)) []) []
      go true e =
          sym (get_or-append front (l ∷ []) [] _ (omega (arith, place_is mask k (omega arith), ones-less mask k j e less)))
      go false e = refl

  pub targets-last : has mask j ≡ true → l ≡ targets_of (opens mask (front ++ l ∷ [])) j
  unfolding targets_of
  targets-last e = rw e (sym (get_or_at front l [] [] _ (size ∙ sym (place_is mask j (omega arith)))))

pub targets-no : (mask j : ℕ) (l : List (List ℕ)) → has mask j ≡ false → [] ≡ targets_of (opens mask l) j
unfolding targets_of
targets-no mask j l e = rw e refl
