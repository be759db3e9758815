-- Bits counted from the lowest up: the lowest bit, then those of the mask's half. A count of the bits below an action
-- is the place of the action's successor. Assumes nothing.
use mathlib.Core.Path.{◌≡◌, refl, sym, ap, ◌∙◌}
use mathlib.Core.Bool.{Bool, true, false, cond, ◌&&◌}
use mathlib.Core.List.{List, [], ◌∷◌}
use Prim.Native.Nat.{ℕ, zero, suc, ◌+◌, ◌*◌, ◌/◌, ◌%◌, ◌^◌, ◌<◌, ◌≤◌}
use native.Mathlib.Nat.{mod-eq_of_lt, one-mul, pow-suc, pow-le-pow_right}
use native.Mathlib.Omega.{arith}
use lib.Dec.{eqb, ltb, leb-suc-suc}
use lib.ListN.{length}
use lib.Arith.{mod-mul}
use lib.Pow.{pow_pos}
use lib.Count.{ones, ones-ones}
use lib.Count.{ones_step as digits_step}
use borrow.Author.Tests.{lt-ltb, le-ltb, eqb-true}
use Rattle.model.specs.Lists.{keep, upto}
use Rattle.model.specs.Contract.{State, has, actions, offers_in, offers, offered_below}
use Rattle.model.proofs.Masks.{has-zero, has-suc}
use Rattle.sheet.specs.Union.{union_of, ones_below}
use Rattle.sheet.proofs.Union.{has-union}

-- the lowest bits of a mask: those of its half, and the lowest
pub low_bits : (mask c : ℕ) → mask % 2 ^ suc c ≡ 2 * (mask / 2 % 2 ^ c) + mask % 2
low_bits mask c =
    omega (arith, ap (λ (p : ℕ). mask % p) (pow-suc 2 c) ∙ mod-mul mask (pow_pos c) (omega arith))

-- 1 shifted to the left by n stays within a width
pub one_shifted : (n most : ℕ) {width : ℕ} → n ≤ most → 2 ^ most < width → 1 * 2 ^ n % width ≡ 2 ^ n
one_shifted n most {width} h l =
    ap (λ (x : ℕ). x % width) (one-mul (2 ^ n)) ∙ mod-eq_of_lt (omega (arith, pow-le-pow_right {n = 2} (omega arith) h))

-- ---- counts of what passes a test
module _ {p q : ℕ → Bool} (same : (i : ℕ) → p i ≡ q i) where
  pub keep_same : (xs : List ℕ) → keep p xs ≡ keep q xs
  unfolding keep
  keep_same [] = refl
  keep_same (x ∷ xs) = simp (same x, keep_same xs)

keep-none : (p : ℕ → Bool) → ((i : ℕ) → p i ≡ false) → (xs : List ℕ) → length (keep p xs) ≡ 0
unfolding keep
keep-none p none [] = refl
keep-none p none (x ∷ xs) = simp (none x) (keep-none p none xs)

count-cond : (x y : ℕ) (xs ys : List ℕ) (t : Bool) → length xs ≡ length ys
    → length (cond t (x ∷ xs) xs) ≡ length (cond t (y ∷ ys) ys)
count-cond x y xs ys true e = ap suc e
count-cond x y xs ys false e = e

count_next : (p : ℕ → Bool) (first count : ℕ)
    → length (keep p (upto (suc first) count)) ≡ length (keep (λ i. p (suc i)) (upto first count))
unfolding keep upto
count_next p first zero = refl
count_next p first (suc count) = count-cond _ _ _ _ (p (suc first)) (count_next p (suc first) count)

-- those below j, counted among more
pub count-below : (p : ℕ → Bool) (count j : ℕ) → j ≤ count
    → length (keep (λ i. ltb i j && p i) (upto 0 count)) ≡ length (keep p (upto 0 j))
unfolding keep upto
count-below p count zero h =
    keep-none (λ i. ltb i 0 && p i) (λ i. ap (λ (t : Bool). t && p i) (le-ltb i 0 (omega arith))) (upto 0 count)
count-below p zero (suc j) h = absurd (omega arith)
count-below p (suc count) (suc j) h =
    let next : ℕ → Bool = λ i. p (suc i) in
    let rest =
    count_next (λ i. ltb i (suc j) && p i) 0 count
    ∙ ap length (keep_same (λ i. ap (λ (t : Bool). t && next i) (leb-suc-suc (suc i) j)) (upto 0 count))
    ∙ count-below next count j (omega arith)
    ∙ sym (count_next p 0 j) in
    simp (lt-ltb 0 (suc j) (omega arith)) (count-cond 0 0 _ _ (p 0) rest)

-- ---- counts of bits
count-bit : (bit : ℕ) (xs : List ℕ) → bit < 2 → length (cond (eqb bit 1) (0 ∷ xs) xs) ≡ bit + length xs
count-bit zero xs h = omega arith
count-bit (suc zero) xs h = omega arith
count-bit (suc (suc bit)) xs h = absurd (omega arith)

ones_step : (mask j : ℕ) → ones_below mask (suc j) ≡ mask % 2 + ones_below (mask / 2) j
unfolding ones_below keep upto
ones_step mask j =
    let rest = keep (has mask) (upto 1 j) in
    ap (λ (t : Bool). length (cond t (0 ∷ rest) rest)) (has-zero mask)
    ∙ count-bit (mask % 2) rest (omega arith)
    ∙ ap (λ (n : ℕ). mask % 2 + n) (count_next (has mask) 0 j ∙ ap length (keep_same (has-suc mask) (upto 0 j)))

ones_none : (mask j : ℕ) → j ≤ 0 → ones_below mask j ≡ 0
unfolding ones_below keep upto
ones_none mask zero h = refl
ones_none mask (suc j) h = absurd (omega arith)

pub ones-few : (mask j : ℕ) → ones_below mask j ≤ j
ones-few mask zero = omega (arith, ones_none mask 0 (omega arith))
ones-few mask (suc j) = omega (arith, ones_step mask j, ones-few (mask / 2) j)

-- the bits below j are all bits of a number of j digits
pub ones_low : (mask j : ℕ) → ones (mask % 2 ^ j) ≡ ones_below mask j
ones_low mask zero =
    let e : mask % 2 ^ 0 ≡ 0 = omega arith in
    ap ones e ∙ ones-ones 0 ∙ sym (ones_none mask 0 (omega arith))
ones_low mask (suc j) =
    let rest : ℕ = mask / 2 % 2 ^ j in
    let low : (2 * rest + mask % 2) % 2 ≡ mask % 2 = omega arith in
    let high : (2 * rest + mask % 2) / 2 ≡ rest = omega arith in
    ap ones (low_bits mask j)
    ∙ digits_step (2 * rest + mask % 2)
    ∙ (λ i. low i + ones (high i))
    ∙ ap (λ (n : ℕ). mask % 2 + n) (ones_low (mask / 2) j)
    ∙ sym (ones_step mask j)

-- a bit that a mask has is not counted among those below it
pub ones-less : (mask j k : ℕ) → has mask j ≡ true → j < k → ones_below mask j < ones_below mask k
ones-less mask j zero h l = absurd (omega arith)
ones-less mask zero (suc k) h l =
    omega (arith, ones_none mask 0 (omega arith), ones_step mask k, eqb-true (mask % 2) 1 (sym (has-zero mask) ∙ h))
ones-less mask (suc j) (suc k) h l =
    omega (
      arith,
      ones_step mask j,
      ones_step mask k,
      ones-less (mask / 2) j k (sym (has-suc mask j) ∙ h)
          (omega arith),
    )

-- the actions that ready sets offer are the bits of their union
pub ones-offered : (masks : List ℕ) → length (keep (offers_in masks) actions) ≡ ones_below (union_of masks) 14
unfolding ones_below actions
ones-offered masks = ap length (sym (keep_same (has-union masks) actions))

-- the place of an action's successor
pub ones-place : (s : State) (j : ℕ) → j ≤ 14 → offered_below s j ≡ ones_below (union_of s.ready) j
unfolding offered_below ones_below offers actions
ones-place s j h =
    count-below (offers s) 14 j h ∙ ap length (sym (keep_same (has-union s.ready) (upto 0 j)))
