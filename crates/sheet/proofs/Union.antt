-- Unions of masks: a bit of a union is a bit of some mask, by induction over the masks.
-- Assumes nothing.
use mathlib.Core.Path.{◌≡◌, sym, ap, ◌∙◌}
use mathlib.Core.Bool.{Bool, ◌||◌, or-false, or_assoc}
use mathlib.Core.List.{List, [], ◌∷◌}
use Prim.Native.Nat.{ℕ, ◌+◌, ◌<◌, ◌≤◌}
use native.Mathlib.Numerals.{add-one}
use lib.Bits.{bit_or}
use lib.ListN.{length, get_or, drop, drop_of_length-le}
use lib.Seq.{drop-cons}
use Rattle.model.specs.Lists.{any}
use Rattle.model.specs.Contract.{has, offers_in}
use Rattle.model.proofs.Bits.{has-or}
use Rattle.model.proofs.Masks.{has-none}
use Rattle.sheet.specs.Union.{union_from, union_of}

has-union-from : (union : ℕ) (masks : List ℕ) (j : ℕ)
    → has (union_from union masks) j ≡ (has union j || offers_in masks j)
unfolding union_from offers_in any
has-union-from union [] j = sym (or-false (has union j))
has-union-from union (mask ∷ masks) j =
    has-union-from (bit_or union mask) masks j
    ∙ ap (λ (x : Bool). x || offers_in masks j) (has-or union mask j)
    ∙ or_assoc (has union j) (has mask j) (offers_in masks j)

-- a state offers what is in the union of its ready sets
pub has-union : (masks : List ℕ) (j : ℕ) → has (union_of masks) j ≡ offers_in masks j
unfolding union_of
has-union masks j = has-union-from 0 masks j ∙ ap (λ (x : Bool). x || offers_in masks j) (has-none j)

-- the masks from i on, and those one further
module _ (masks : List ℕ) (i union : ℕ) where
  pub union-none : length masks ≤ i → union_from union (drop i masks) ≡ union
  unfolding union_from
  union-none h = ap (union_from union) (drop_of_length-le masks h)

  pub union_more : (mask : ℕ) → mask ≡ get_or masks i 0 → i < length masks
      → union_from union (drop i masks) ≡ union_from (bit_or union mask) (drop (i + 1) masks)
  unfolding union_from
  union_more mask m h = rw (m, add-one) (ap (union_from union) (drop-cons masks i 0 h))
