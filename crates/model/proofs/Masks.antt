-- Whole masks for their bits: the low n bits agree, lie within, or meet, by halving. What holds of each action.
-- Assumes nothing.
use mathlib.Core.Path.{◌≡◌, refl, sym, ap, ◌∙◌}
use mathlib.Core.Bool.{Bool, true, false, not, ◌&&◌, ◌||◌, cond}
use mathlib.Core.List.{List, [], ◌∷◌}
use Prim.Native.Nat.{ℕ, zero, suc, ◌+◌, ◌*◌, ◌/◌, ◌%◌, ◌^◌, ◌<◌}
use native.Mathlib.Omega.{arith}
use native.Mathlib.Nat.{pow-suc, zero-div, zero-mod}
use lib.Dec.{T, eqb, eqb→eq, eqb_refl}
use lib.Arith.{mod-mul}
use lib.Bits.{bit_and, bit_or}
use lib.Pow.{pow_pos, shr-shr}
use borrow.Author.Tests.{eq-eqb, ne_eqb, eqb-true, eqb-false}
use Rattle.model.specs.Lists.{any, all, upto}
use Rattle.model.specs.Contract.{has}
use Rattle.model.proofs.Bits.{has-and, has-or}
use Rattle.model.proofs.Lists.{test-alike}

-- ---- tests of a range of numbers

module _ (p q : ℕ → Bool) where
  pub all_same : (first count : ℕ) → ((j : ℕ) → j < first + count → p j ≡ q j) → all p (upto first count) ≡ all q (upto first count)
  unfolding all upto
  all_same first zero f = refl
  all_same first (suc count) f = rw (f first (omega arith), all_same (suc first) count (λ j h. f j (omega arith)))

  pub any_same : (first count : ℕ) → ((j : ℕ) → j < first + count → p j ≡ q j) → any p (upto first count) ≡ any q (upto first count)
  unfolding any upto
  any_same first zero f = refl
  any_same first (suc count) f = rw (f first (omega arith), any_same (suc first) count (λ j h. f j (omega arith)))

-- a range that begins one later
all-later : (p : ℕ → Bool) (first count : ℕ) → all p (upto (suc first) count) ≡ all (λ j. p (suc j)) (upto first count)
unfolding all upto
all-later p first zero = refl
all-later p first (suc count) = ap (λ (t : Bool). p (suc first) && t) (all-later p (suc first) count)

-- some number passes unless all fail
any-not-all : (p : ℕ → Bool) (l : List ℕ) → any p l ≡ not (all (λ j. not (p j)) l)
unfolding any all
any-not-all p [] = refl
any-not-all p (j ∷ l) = rw (any-not-all p l) (go (p j) (all (λ j. not (p j)) l))
  where
    go : (t u : Bool) → (t || not u) ≡ not (not t && u)
    go true u = refl
    go false u = refl

-- ---- the low bits of two masks

unfoldable pub same_bit : Bool → Bool → Bool
same_bit true t = t
same_bit false t = not t

pub has-zero : (a : ℕ) → has a 0 ≡ eqb (a % 2) 1
unfolding has
has-zero a = let e : a / 1 ≡ a = omega arith in rw e

pub has-suc : (a j : ℕ) → has a (suc j) ≡ has (a / 2) j
unfolding has
has-suc a j = let e : 1 + j ≡ suc j = omega arith in rw (← e, ← shr-shr a 1 j)

pub has-none : (j : ℕ) → has 0 j ≡ false
unfolding has
has-none j = rw (zero-div (2 ^ j))

-- a power of two has one bit
half-power : (i : ℕ) → 2 ^ suc i / 2 ≡ 2 ^ i
half-power i = omega (arith, pow-suc 2 i)

even_power : (i : ℕ) → 2 ^ suc i % 2 ≡ 0
even_power i = omega (arith, pow-suc 2 i)

pub has-power : (i : ℕ) → T (has (2 ^ i) i)
has-power zero = rw (has-zero 1) tt
has-power (suc i) = rw (has-suc (2 ^ suc i) i, half-power i) (has-power i)

pub power-has : (i j : ℕ) → T (has (2 ^ i) j) → j ≡ i
power-has zero zero t = refl
power-has zero (suc j) t = absurd (rw (has-suc 1 j, has-none j) at t)
power-has (suc i) zero t =
    let u : T (eqb 0 1) = rw (has-zero (2 ^ suc i), even_power i) at t in
    absurd u
power-has (suc i) (suc j) t = ap suc (power-has i j (rw (has-suc (2 ^ suc i) j, half-power i) at t))

-- a mask with one bit more
pub has_more : (mask i : ℕ) {bit : ℕ} → bit ≡ 2 ^ i → (j : ℕ) → has (bit_or mask bit) j ≡ (has mask j || eqb j i)
has_more mask i e j =
    ap (λ (x : ℕ). has (bit_or mask x) j) e
    ∙ has-or mask (2 ^ i) j
    ∙ ap (λ (t : Bool). has mask j || t) (test-alike (has (2 ^ i) j) (eqb j i) there back)
  where
    there : T (has (2 ^ i) j) → T (eqb j i)
    there t = rw (power-has i j t) (eqb_refl i)

    back : T (eqb j i) → T (has (2 ^ i) j)
    back t = rw (eqb→eq j i t) (has-power i)

low_step : (n a : ℕ) → a % 2 ^ suc n ≡ (a / 2 % 2 ^ n) * 2 + a % 2
low_step n a = ap (λ (m : ℕ). a % m) (pow-suc 2 n) ∙ mod-mul a (pow_pos n) (omega arith)

-- two numbers by their last bit and the rest
digits-agree : (u v r s : ℕ) → r < 2 → s < 2 → eqb (u * 2 + r) (v * 2 + s) ≡ (same_bit (eqb r 1) (eqb s 1) && eqb u v)
unfolding same_bit
digits-agree u v zero zero h l = go (eqb u v) refl
  where
    go : (t : Bool) → eqb u v ≡ t → eqb (u * 2 + 0) (v * 2 + 0) ≡ t
    go true e = eq-eqb (u * 2 + 0) (v * 2 + 0) (omega (arith, eqb-true u v e))
    go false e = ne_eqb (u * 2 + 0) (v * 2 + 0) (λ d. eqb-false u v e (omega arith))
digits-agree u v (suc zero) (suc zero) h l = go (eqb u v) refl
  where
    go : (t : Bool) → eqb u v ≡ t → eqb (u * 2 + 1) (v * 2 + 1) ≡ t
    go true e = eq-eqb (u * 2 + 1) (v * 2 + 1) (omega (arith, eqb-true u v e))
    go false e = ne_eqb (u * 2 + 1) (v * 2 + 1) (λ d. eqb-false u v e (omega arith))
digits-agree u v zero (suc zero) h l = ne_eqb (u * 2 + 0) (v * 2 + 1) (λ d. omega arith)
digits-agree u v (suc zero) zero h l = ne_eqb (u * 2 + 1) (v * 2 + 0) (λ d. omega arith)
digits-agree u v zero (suc (suc s)) h l = absurd (omega arith)
digits-agree u v (suc zero) (suc (suc s)) h l = absurd (omega arith)
digits-agree u v (suc (suc r)) s h l = absurd (omega arith)

-- the low n bits make the same number when each of them agrees
pub low-bits-agree : (n a b : ℕ) → eqb (a % 2 ^ n) (b % 2 ^ n) ≡ all (λ j. same_bit (has a j) (has b j)) (upto 0 n)
unfolding all upto
low-bits-agree zero a b = eq-eqb (a % 1) (b % 1) (omega arith)
low-bits-agree (suc n) a b =
    rw (low_step n a, low_step n b)
    (digits-agree (a / 2 % 2 ^ n) (b / 2 % 2 ^ n) (a % 2) (b % 2) (omega arith) (omega arith)
    ∙ rw (low-bits-agree n (a / 2) (b / 2), ← has-zero a, ← has-zero b)
    (ap (λ (t : Bool). same_bit (has a 0) (has b 0) && t)
    (all_same (λ j. same_bit (has (a / 2) j) (has (b / 2) j)) (λ j. same_bit (has a (suc j)) (has b (suc j))) 0 n
    (λ j h. rw (has-suc a j, has-suc b j))
    ∙ sym (all-later (λ j. same_bit (has a j) (has b j)) 0 n))))

-- the low bits of a lie within those of b
pub low-bits-within : (n a b : ℕ) → eqb (bit_and a b % 2 ^ n) (a % 2 ^ n) ≡ all (λ j. cond (has a j) (has b j) true) (upto 0 n)
unfolding same_bit
low-bits-within n a b =
    low-bits-agree n (bit_and a b) a
    ∙ all_same (λ j. same_bit (has (bit_and a b) j) (has a j)) (λ j. cond (has a j) (has b j) true) 0 n
    (λ j h. rw (has-and a b j) (go (has a j) (has b j)))
  where
    go : (t u : Bool) → same_bit (t && u) t ≡ cond t u true
    go true true = refl
    go true false = refl
    go false u = refl

-- a and b have one of the low bits in common
pub low-bits-meet : (n a b : ℕ) → not (eqb (bit_and a b % 2 ^ n) 0) ≡ any (λ j. has a j && has b j) (upto 0 n)
unfolding same_bit
low-bits-meet n a b =
    ap not
    (ap (λ (m : ℕ). eqb (bit_and a b % 2 ^ n) m) (sym (zero-mod (2 ^ n)))
    ∙ low-bits-agree n (bit_and a b) 0
    ∙ all_same (λ j. same_bit (has (bit_and a b) j) (has 0 j)) (λ j. not (has a j && has b j)) 0 n
    (λ j h. rw (has-and a b j, has-none j) (go (has a j && has b j))))
    ∙ sym (any-not-all (λ j. has a j && has b j) (upto 0 n))
  where
    go : (t : Bool) → same_bit t false ≡ not t
    go true = refl
    go false = refl
