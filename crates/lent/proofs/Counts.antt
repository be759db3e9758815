-- Counting the records that have one value in all their numbers: the library's words for the model's.
-- Assumes nothing.
use mathlib.Core.Path.{◌≡◌, refl, sym}
use mathlib.Core.Bool.{Bool, cond, ◌&&◌}
use mathlib.Core.List.{List}
use Prim.Native.Nat.{ℕ}
use Rattle.std.specs.List.{list_all, count_by}
use Rattle.std.proofs.lemmas.List.Recursion.{same_from_clauses, is_sum_by}
use Rattle.model.specs.Lists.{all}
use Rattle.table.specs.declared.Record.{Record}
use Rattle.lent.specs.Counts.{filled_with, count_of}

pub all-is : {X : Type 0} (p : X → Bool) (xs : List X) → list_all p xs ≡ all p xs
unfolding all
all-is p xs = same_from_clauses (list_all p) (all p) (λ x t. p x && t) refl (λ _ _. refl) (λ _ _. refl) xs

pub count-is : (v : ℕ) (ys : List Record) → count_by (filled_with v) ys ≡ count_of v ys
unfolding count_of
count-is v ys = sym (is_sum_by (count_of v) (λ y. cond (filled_with v y) 1 0) refl (λ _ _. refl) ys)
