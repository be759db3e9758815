-- Whether the old state can meet the moves of each range if the new one can. By the kind of a code.
-- Assumes nothing.
use mathlib.Core.Path.{◌≡◌, refl, ap, ◌∙◌}
use mathlib.Core.Bool.{Bool, true, false, cond, not, ◌&&◌, ◌||◌}
use Prim.Native.Nat.{ℕ, ◌-◌, ◌≤◌, ◌<◌}
use native.Mathlib.Omega.{arith}
use lib.Dec.{leb}
use borrow.Author.Tests.{lt-leb, leb-true}
use Rattle.model.specs.Contract.{has}
use Rattle.model.specs.Situation.{client, service, stray, kind_of}
use Rattle.model.proofs.Ranges.{kind-straight, kind-client}
use Rattle.edits_rows.specs.Rows.{met_by}

module _ (old new code : ℕ) where
  pub met-offered : code ≤ 13 → has new code ≡ true → met_by old new (kind_of code) ≡ has old code
  unfolding met_by
  met-offered h e = ap (met_by old new) (kind-straight code h) ∙ ap (λ (t : Bool). not t || has old code) e

  pub met-free : code ≤ 13 → has new code ≡ false → met_by old new (kind_of code) ≡ true
  unfolding met_by
  met-free h e = ap (met_by old new) (kind-straight code h) ∙ ap (λ (t : Bool). not t || has old code) e

  pub met-client : 16 ≤ code → code ≤ 29 → met_by old new (kind_of code) ≡ has old (code - 16)
  unfolding met_by
  met-client l h = ap (met_by old new) (kind-client code l h)

  pub met-other : 13 < code → (16 ≤ code → 29 < code) → met_by old new (kind_of code) ≡ true
  unfolding met_by kind_of
  met-other l f = rw (lt-leb _ _ l) (go (leb 16 code) (leb-true 16 code) (leb code 29) (leb-true code 29) (leb 32 code && leb code 45))
    where
      go : (low : Bool) → (low ≡ true → 16 ≤ code) → (high : Bool) → (high ≡ true → code ≤ 29) → (alone : Bool)
          → met_by old new (cond (low && high) (client (code - 16)) (cond alone (service (code - 32)) stray)) ≡ true
      go true g true h t = absurd (omega (arith, f (g refl), h refl))
      go true g false h true = refl
      go true g false h false = refl
      go false g high h true = refl
      go false g high h false = refl
