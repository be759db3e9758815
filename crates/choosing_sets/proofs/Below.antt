-- A number, if it is below a limit.
-- Assumes nothing.
use mathlib.Core.Path.{◌≡◌, refl, subst}
use mathlib.Core.Bool.{Bool, true, false}
use Prim.Native.Nat.{ℕ, ◌≤◌, ◌<◌}
use lib.Dec.{ltb}
use borrow.Author.Tests.{lt-ltb, le-ltb, ltb-true, ltb-false}
use Rattle.std.specs.Prelude.{Some, None, is_some}
use Rattle.std.specs.Bool.{then_some}
use Rattle.choosing_sets.specs.Ready.{if_below}

module _ {limit n : ℕ} where
  pub below-some : {m : ℕ} → m ≡ n → m < limit → Some m ≡ if_below limit n
  unfolding if_below
  below-some {m} e h = subst (λ (k : ℕ). Some m ≡ if_below limit k) e (rw (lt-ltb m limit h) refl)

  pub below-none : limit ≤ n → None ≡ if_below limit n
  unfolding if_below
  below-none h = rw (le-ltb n limit h) refl

  pub below-is : {m : ℕ} → if_below limit n ≡ Some m → (m ≡ n) × (m < limit)
  unfolding if_below
  below-is {m} e = go (ltb n limit) (ltb-true n limit) e
    where
      go : (b : Bool) → (b ≡ true → n < limit) → then_some b n ≡ Some m → (m ≡ n) × (m < limit)
      go true low e = let same : m ≡ n = cc in (same, rw same (low refl))
      go false low e = cc

  pub not-below : if_below limit n ≡ None → limit ≤ n
  unfolding if_below
  not-below e = go (ltb n limit) (ltb-false n limit) e
    where
      go : (b : Bool) → (b ≡ false → limit ≤ n) → then_some b n ≡ None → limit ≤ n
      go true high e = cc
      go false high e = high refl

pub is-below : (limit n : ℕ) → is_some (if_below limit n) ≡ ltb n limit
unfolding if_below
is-below limit n = go (ltb n limit)
  where
    go : (b : Bool) → is_some (then_some b n) ≡ b
    go true = refl
    go false = refl
