-- The number that a search answers: how many it found, or 0 if something was left to do.
-- Assumes nothing.
use mathlib.Core.Path.{◌≡◌, refl, subst}
use mathlib.Core.Logic.{◌≢◌}
use mathlib.Core.List.Memᴰ
use mathlib.Core.List.{List, [], ◌∷◌, Memᴰ}
use Prim.Native.Nat.{ℕ, ◌<◌}
use native.Mathlib.Omega.{arith}
use Rattle.lists.specs.Known.{count_by}

pub count-over : {A : Type 0} (todo : List A) (n : ℕ) → todo ≢ [] → 0 ≡ count_by todo n
unfolding count_by
count-over [] n some = absurd (some refl)
count-over (s ∷ todo) n some = refl

pub count-whole : {A : Type 0} (todo : List A) (n : ℕ) → todo ≡ [] → n ≡ count_by todo n
unfolding count_by
count-whole [] n none = refl
count-whole (s ∷ todo) n none = absurd (Memᴰ.not-nil (subst (Memᴰ s) none (Memᴰ.head refl)))

pub count_none : {A : Type 0} (todo : List A) (n : ℕ) → count_by todo n ≡ 0 → 0 < n → todo ≢ []
unfolding count_by
count_none [] n e h = λ _. omega arith
count_none (s ∷ todo) n e h = λ z. Memᴰ.not-nil (subst (Memᴰ s) z (Memᴰ.head refl))

pub count-some : {A : Type 0} (todo : List A) (n : ℕ) → (count_by todo n ≡ 0 → ⊥) → (todo ≡ []) × (count_by todo n ≡ n)
unfolding count_by
count-some [] n h = (refl, refl)
count-some (s ∷ todo) n h = absurd (h refl)
