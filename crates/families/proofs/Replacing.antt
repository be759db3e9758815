-- An element of a list replaced: what is known of it and of the others.
-- Assumes nothing.
use mathlib.Core.Path.{◌≡◌, refl, sym, subst}
use mathlib.Core.Bool.{Bool, true, false}
use mathlib.Core.List.{List}
use Prim.Native.Nat.{ℕ, ◌<◌}
use lib.ListN.{length, get_or, set}
use lib.Seq.{get_or-set_same, get_or-set_other}
use lib.Dec.{eqb}
use borrow.Author.Tests.{eqb-true, eqb-false}

pub replaced_at : (Is : ℕ → ℕ → Type 0) (l : List ℕ) (w a i : ℕ) → w < length l → Is w a → ((i ≡ w → ⊥) → Is i (get_or l i 0))
    → Is i (get_or (set l w a) i 0)
replaced_at Is l w a i inside here other = go (eqb i w) refl
  where
    go : (t : Bool) → eqb i w ≡ t → Is i (get_or (set l w a) i 0)
    go true e =
        subst (λ (k : ℕ). Is k (get_or (set l w a) k 0)) (sym (eqb-true i w e))
        (subst (Is w) (sym (get_or-set_same l w a 0 inside)) here)
    go false e =
        let ne = eqb-false i w e in
        subst (Is i) (sym (get_or-set_other l w i a 0 ne)) (other ne)
