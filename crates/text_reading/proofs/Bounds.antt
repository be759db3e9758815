-- A tree's text has a byte at least for each place of its term, and five for each rec; and the variable at fault is one of its bytes.
-- Assumes nothing.
use mathlib.Core.Path.{◌≡◌}
use mathlib.Core.Bool.{Bool, true, false, not, cond}
use mathlib.Core.List.{List, ◌∷◌}
use mathlib.Core.Option.{none, some, none-ne-some, some-injective}
use mathlib.Core.Logic.{⊎_elim}
use Prim.Native.Nat.{ℕ, suc, ◌+◌, ◌*◌, ◌≤◌, ◌<◌}
use native.Mathlib.Omega.{arith}
use lib.Dec.{eqb, ltb}
use Rattle.model.specs.Lists.{any, keep}
use Rattle.text.specs.Grammar.{Tree, nought, bare, dotted, summed, chosen, bound, variable, bracket}
use Rattle.text.specs.Terms.{term_of}
use Rattle.text.specs.Places.{size_of}
use Rattle.text.specs.Cells.{recs_of}
use Rattle.text.specs.Convert.{action_width, width_of, wrong_at}
use Rattle.text.proofs.Variables.{either-found}

pub action-width : (j : ℕ) → 1 ≤ action_width j
unfolding action_width
action-width j = go (ltb j 7)
  where
    go : (b : Bool) → 1 ≤ cond b 1 2
    go true = omega arith
    go false = omega arith

pub few-in : (t : Tree) → (1 ≤ width_of t) × (size_of (term_of t) ≤ width_of t) × (5 * recs_of (term_of t) ≤ width_of t)
unfolding width_of term_of size_of recs_of
few-in nought = omega arith
few-in (bare j) = let w = action-width j in omega arith
few-in (dotted j t) = let w = action-width j in let h = few-in t in (omega arith, omega (arith, h.1), omega (arith, h.2))
few-in (summed t u) =
    let h = few-in t in
    let k = few-in u in
    (omega arith, omega (arith, h.1, k.1), omega (arith, h.2, k.2))
few-in (chosen t u) =
    let h = few-in t in
    let k = few-in u in
    (omega arith, omega (arith, h.1, k.1), omega (arith, h.2, k.2))
few-in (bound v t) = let h = few-in t in (omega arith, omega (arith, h.1), omega (arith, h.2))
few-in (variable v) = omega arith
few-in (bracket t) = let h = few-in t in (omega arith, omega (arith, h.1), omega (arith, h.2))

pub wrong-inside : (t : Tree) (recs prefixed : List ℕ) (i k : ℕ) → wrong_at recs prefixed i t ≡ some k → k < i + width_of t
unfolding wrong_at width_of
wrong-inside nought recs prefixed i k e = absurd (none-ne-some k e)
wrong-inside (bare j) recs prefixed i k e = absurd (none-ne-some k e)
wrong-inside (dotted j t) recs prefixed i k e = omega (arith, wrong-inside t recs recs (i + suc (action_width j)) k e)
wrong-inside (summed t u) recs prefixed i k e =
    ⊎_elim (λ h. omega (arith, wrong-inside t recs prefixed i k h))
    (λ h. omega (arith, wrong-inside u recs prefixed (i + suc (width_of t)) k h.1))
    (either-found (wrong_at recs prefixed i t) (wrong_at recs prefixed (i + suc (width_of t)) u) k e)
wrong-inside (chosen t u) recs prefixed i k e =
    ⊎_elim (λ h. omega (arith, wrong-inside t recs prefixed i k h))
    (λ h. omega (arith, wrong-inside u recs prefixed (i + (3 + width_of t)) k h.1))
    (either-found (wrong_at recs prefixed i t) (wrong_at recs prefixed (i + (3 + width_of t)) u) k e)
wrong-inside (bound v t) recs prefixed i k e =
    omega (arith, wrong-inside t (v ∷ recs) (keep (λ w. not (eqb v w)) prefixed) (i + 5) k e)
wrong-inside (variable v) recs prefixed i k e = go (any (eqb v) prefixed) e
  where
    go : (b : Bool) → cond b none (some i) ≡ some k → k < i + 1
    go true q = absurd (none-ne-some k q)
    go false q = omega (arith, some-injective i k q)
wrong-inside (bracket t) recs prefixed i k e = omega (arith, wrong-inside t recs prefixed (suc i) k e)
