-- The actions are the numbers below 14: what `upto` lists, by recursion on how many it lists. An action's partner is one, and the partner
-- of that is the action. What stands behind a list of kept actions has the place of its action among them.
-- Assumes nothing.
use mathlib.Core.Path.{◌≡◌, refl, sym, ap, subst⁻¹, ◌∙◌}
use mathlib.Core.Bool.{Bool, true, false, cond, ◌&&◌}
use mathlib.Core.Logic.{⊎_elim}
use mathlib.Core.List.Memᴰ
use mathlib.Core.List.{[], ◌∷◌, map, Memᴰ}
use Prim.Native.Nat.{ℕ, zero, suc, ◌+◌, ◌-◌, ◌≤◌, ◌<◌}
use native.Mathlib.Omega.{arith}
use native.Mathlib.Nat.{eq-or-lt_of_le, le_refl}
use lib.ListN.{length, get_or}
use lib.Dec.{T, ltb}
use borrow.Author.Tests.{ltb-true, ltb-false, lt-ltb, le-ltb}
use Rattle.model.specs.Lists.{keep, upto}
use Rattle.model.specs.Contract.{actions, takes, partner}
use Rattle.model.proofs.Lists.{is_true}

pub mem-upto : (count first j : ℕ) → first ≤ j → j < first + count → Memᴰ j (upto first count)
unfolding upto
mem-upto zero first j h k = absurd (omega arith)
mem-upto (suc count) first j h k =
    ⊎_elim (λ e. Memᴰ.head (sym e)) (λ e. Memᴰ.tail (mem-upto count (suc first) j e (omega arith))) (eq-or-lt_of_le h)

pub upto-mem : (count first j : ℕ) → Memᴰ j (upto first count) → j < first + count
unfolding upto
upto-mem zero first j m = absurd (Memᴰ.not-nil m)
upto-mem (suc count) first j m =
    ⊎_elim (λ (e : j ≡ first). omega arith) (λ q. omega (arith, upto-mem count (suc first) j q)) (Memᴰ.cases_cons m)

pub length-upto : (count first : ℕ) → length (upto first count) ≡ count
unfolding upto
length-upto zero first = refl
length-upto (suc count) first = ap suc (length-upto count (suc first))

pub action : (j : ℕ) → j < 14 → Memᴰ j actions
unfolding actions
action j h = mem-upto 14 0 j (omega arith) (omega arith)

pub action-below : (j : ℕ) → Memᴰ j actions → j < 14
unfolding actions
action-below j m = omega (arith, upto-mem 14 0 j m)

pub partner-taken : (j : ℕ) → j < 7 → partner j ≡ j + 7
unfolding partner takes
partner-taken j h = simp (lt-ltb j 7 h)

pub partner-sent : (j : ℕ) → 7 ≤ j → partner j ≡ j - 7
unfolding partner takes
partner-sent j h = simp (le-ltb j 7 h)

pub partner-action : (j : ℕ) → j < 14 → partner j < 14
unfolding partner takes
partner-action j h = go (ltb j 7) (ltb-true j 7)
  where
    go : (t : Bool) → (t ≡ true → j < 7) → cond t (j + 7) (j - 7) < 14
    go true l = omega (arith, l refl)
    go false l = omega arith

pub partner-partner : (j : ℕ) → j < 14 → partner (partner j) ≡ j
unfolding partner takes
partner-partner j h = go (ltb j 7) refl
  where
    go : (t : Bool) → ltb j 7 ≡ t → cond (ltb (cond t (j + 7) (j - 7)) 7) (cond t (j + 7) (j - 7) + 7) (cond t (j + 7) (j - 7) - 7) ≡ j
    go true e = rw (le-ltb (j + 7) 7 (omega arith)) (omega arith)
    go false e = rw (lt-ltb (j - 7) 7 (omega arith)) (omega (arith, ltb-false j 7 e))

-- partners differ as actions do
pub partner-injective : (i j : ℕ) → i < 14 → j < 14 → partner i ≡ partner j → i ≡ j
partner-injective i j h l e = sym (partner-partner i h) ∙ ap partner e ∙ partner-partner j l

-- ---- of a list with a result for each number that passes, the result of i: as many stand before it as numbers below i pass

module _ (f : ℕ → ℕ) (p : ℕ → Bool) (i : ℕ) (passes : T (p i)) where
  none_below : (count first : ℕ) → i ≤ first → keep (λ x. ltb x i && p x) (upto first count) ≡ []
  unfolding keep upto
  none_below zero first h = refl
  none_below (suc count) first h = rw (le-ltb first i h) (none_below count (suc first) (omega arith))

  abbrev result_at : (count first : ℕ) → ℕ
  result_at count first = get_or (map f (keep p (upto first count))) (length (keep (λ x. ltb x i && p x) (upto first count))) 0

  result-first : (count : ℕ) → result_at (suc count) i ≡ f i
  unfolding keep upto
  result-first count = rw (le-ltb i i (le_refl i), none_below count (suc i) (omega arith), is_true (p i) passes)

  result-later : (count first : ℕ) → first < i → result_at count (suc first) ≡ f i → result_at (suc count) first ≡ f i
  unfolding keep upto
  result-later count first h r = rw (lt-ltb first i h) (go (p first))
    where
      go : (t : Bool)
          → get_or (map f (cond t (first ∷ keep p (upto (suc first) count)) (keep p (upto (suc first) count))))
          (length (cond t (first ∷ keep (λ x. ltb x i && p x) (upto (suc first) count)) (keep (λ x. ltb x i && p x) (upto (suc first) count)))) 0 ≡ f i
      go true = r
      go false = r

  pub kept_result : (count first : ℕ) → first ≤ i → i < first + count → result_at count first ≡ f i
  kept_result zero first h l = absurd (omega arith)
  kept_result (suc count) first h l =
      ⊎_elim (λ e. subst⁻¹ (λ (x : ℕ). result_at (suc count) x ≡ f i) e (result-first count))
      (λ k. result-later count first k (kept_result count (suc first) k (omega arith))) (eq-or-lt_of_le h)
