-- Links that can be followed to their ends: where they lead, and that every step along one is a step down.
-- Assumes nothing.
use mathlib.Core.Path.{◌≡◌, refl, subst}
use mathlib.Core.Bool.{Bool, true, false, cond}
use mathlib.Core.Logic.{◌⊎◌, inl, inr, ⊎_elim}
use mathlib.Core.List.{List}
use Prim.Native.Nat.{ℕ, suc, ◌+◌, ◌%◌, ◌<◌, ◌≤◌}
use native.Mathlib.Omega.{arith}
use native.Mathlib.Nat.{eq-or-lt_of_le}
use lib.ListN.{length, get_or}
use lib.Dec.{ltb}
use borrow.Author.Tests.{lt-ltb, le-ltb, ltb-true, ltb-false}
use Rattle.text.specs.Cells.{Ends, at_end, at_prefix, at_choice, at_variable, cell_at, unpacked}

-- ---- steps down

-- a link within one rec: a place by its number, a body below all of them
unfoldable pub weight : ℕ → ℕ
weight link = cond (ltb link 256) (suc link) 0

pub weight-place : (link : ℕ) → link < 256 → weight link ≡ suc link
unfolding weight
weight-place link h = rw (lt-ltb link 256 h) refl

pub weight-body : (link : ℕ) → 256 ≤ link → weight link ≡ 0
unfolding weight
weight-body link h = rw (le-ltb link 256 h) refl

-- a link leads to a place or to a body
pub place-or-body : (link : ℕ) → (link < 256) ⊎ (256 ≤ link)
place-or-body link = go (ltb link 256) (ltb-true link 256) (ltb-false link 256)
  where
    go : (t : Bool) → (t ≡ true → link < 256) → (t ≡ false → 256 ≤ link) → (link < 256) ⊎ (256 ≤ link)
    go true a b = inl (a refl)
    go false a b = inr (b refl)

-- a place leads to places below itself
pub lighter : (p link : ℕ) → p < 256 → (link < 256 → link < p) → weight link < weight p
lighter p link small falls =
    ⊎_elim
    (λ h. omega (arith, weight-place link h, weight-place p small, falls h))
    (λ h. omega (arith, weight-body link h, weight-place p small))
    (place-or-body link)

-- what weighs no more than a place and is another link weighs less
pub lighter-other : (p link : ℕ) → p < 256 → weight link ≤ weight p → (link ≡ p → ⊥) → weight link < weight p
lighter-other p link small most other =
    ⊎_elim (λ e. absurd (other (same e))) (λ h. h) (eq-or-lt_of_le most)
  where
    same : weight link ≡ weight p → link ≡ p
    same e =
        ⊎_elim
        (λ h. omega (arith, e, weight-place link h, weight-place p small))
        (λ h. absurd (omega (arith, e, weight-body link h, weight-place p small)))
        (place-or-body link)

pub weight-most : (link : ℕ) → weight link ≤ 256
weight-most link = ⊎_elim (λ h. omega (arith, h, weight-place link h)) (λ h. omega (arith, weight-body link h)) (place-or-body link)

-- ---- where links lead

module _ (cells bodies : List ℕ) where
  -- the body of a rec that is led to
  pub record Body (b r : ℕ) : Type 0 where
    pub below : r < b
    pub inside : r < length bodies
    pub place : get_or bodies r 0 < 256
    pub ends : Ends cells bodies r (get_or bodies r 0)

  -- the parts of a choice
  pub record Parts (b p : ℕ) : Type 0 where
    pub left-falls : (unpacked (get_or cells p 0)).left < 256 → (unpacked (get_or cells p 0)).left < p
    pub right-falls : (unpacked (get_or cells p 0)).right < 256 → (unpacked (get_or cells p 0)).right < p
    pub left-ends : Ends cells bodies b (unpacked (get_or cells p 0)).left
    pub right-ends : Ends cells bodies b (unpacked (get_or cells p 0)).right

  pub to-body : (b r : ℕ) {link : ℕ} → Ends cells bodies b link → link ≡ 256 + r → Body b r
  to-body b r (at_end _) e = absurd (omega arith)
  to-body b r (at_prefix _ p h k i small) e = absurd (omega arith)
  to-body b r (at_choice _ p h k i great lf rf le re) e = absurd (omega arith)
  to-body b r (at_variable _ q h i k d) e =
      subst (λ (x : ℕ). Body b x) (omega (arith, e)) (record { below = h; inside = i; place = k; ends = d })

  pub inside-cells : {b link : ℕ} → Ends cells bodies b link → 0 < link → link < 256 → link < length cells
  inside-cells (at_end _) h k = absurd (omega arith)
  inside-cells (at_prefix _ p _ _ i small) h k = i
  inside-cells (at_choice _ p _ _ i great lf rf le re) h k = i
  inside-cells (at_variable _ q _ _ _ d) h k = absurd (omega arith)

  pub to-parts : {b link : ℕ} → Ends cells bodies b link → 0 < link → link < 256 → 14 ≤ (unpacked (get_or cells link 0)).kind → Parts b link
  unfolding cell_at
  to-parts (at_end _) h k g = absurd (omega arith)
  to-parts (at_prefix _ p _ _ i small) h k g = absurd (omega (arith, small))
  to-parts (at_choice _ p _ _ i great lf rf le re) h k g = record { left-falls = lf; right-falls = rf; left-ends = le; right-ends = re }
  to-parts (at_variable _ q _ _ _ d) h k g = absurd (omega arith)

  -- links are small
  pub link-small : {b link : ℕ} → Ends cells bodies b link → length bodies ≤ 64 → link < 320
  link-small (at_end _) h = omega arith
  link-small (at_prefix _ p _ k i small) h = omega (arith, k)
  link-small (at_choice _ p _ k i great lf rf le re) h = omega (arith, k)
  link-small (at_variable _ q _ i _ d) h = omega (arith, i)

  -- so each is told from its cell as it is
  pub told-link : {b link told : ℕ} → Ends cells bodies b link → length bodies ≤ 64 → told ≡ link % 512 → told ≡ link
  told-link ends few told = omega (arith, link-small ends few)

  -- a rec that is led to can be led to from anywhere above it
  pub rec-ends : {b r : ℕ} → Body b r → Ends cells bodies (r + 1) (256 + r)
  rec-ends {b} {r} y = at_variable (r + 1) r (omega arith) y.inside y.place y.ends
