-- The bits of a mask under the operations on masks, and those of two masks, one above the other.
-- Assumes nothing.
use mathlib.Core.Path.{◌≡◌, refl, sym, ap, ◌∙◌}
use mathlib.Core.Bool.{◌&&◌, ◌||◌}
use mathlib.Core.Logic.{◌⊎◌}
use Prim.Native.Nat.{ℕ, zero, suc, ◌+◌, ◌-◌, ◌*◌, ◌/◌, ◌%◌, ◌^◌, ◌<◌, min, max}
use native.Mathlib.Omega.{arith}
use lib.Dec.{T, eqb}
use lib.Bits.{bit_and, bit_or, and_shr, or_shr, and_step, or_step}
use lib.Pow.{shr-shr, low, high, field, mod-mod-pow}
use Rattle.model.specs.Contract.{has}
use Rattle.model.proofs.Lists.{or_cases, or_left, or_right}

-- two bits, both or one of which are set
both_bits : (u v : ℕ) → u < 2 → v < 2 → eqb (min u v) 1 ≡ (eqb u 1 && eqb v 1)
both_bits zero zero h l = refl
both_bits zero (suc zero) h l = refl
both_bits (suc zero) zero h l = refl
both_bits (suc zero) (suc zero) h l = refl
both_bits zero (suc (suc v)) h l = absurd (omega arith)
both_bits (suc zero) (suc (suc v)) h l = absurd (omega arith)
both_bits (suc (suc u)) v h l = absurd (omega arith)

one_bit : (u v : ℕ) → u < 2 → v < 2 → eqb (max u v) 1 ≡ (eqb u 1 || eqb v 1)
one_bit zero zero h l = refl
one_bit zero (suc zero) h l = refl
one_bit (suc zero) zero h l = refl
one_bit (suc zero) (suc zero) h l = refl
one_bit zero (suc (suc v)) h l = absurd (omega arith)
one_bit (suc zero) (suc (suc v)) h l = absurd (omega arith)
one_bit (suc (suc u)) v h l = absurd (omega arith)

pub has-and : (a b j : ℕ) → has (bit_and a b) j ≡ (has a j && has b j)
unfolding has
has-and a b j =
    let x = a / 2 ^ j in
    let y = b / 2 ^ j in
    let e : bit_and a b / 2 ^ j % 2 ≡ min (x % 2) (y % 2) = omega (arith, and_shr a b j, and_step x y) in
    ap (λ (u : ℕ). eqb u 1) e ∙ both_bits (x % 2) (y % 2) (omega arith) (omega arith)

pub has-or : (a b j : ℕ) → has (bit_or a b) j ≡ (has a j || has b j)
unfolding has
has-or a b j =
    let x = a / 2 ^ j in
    let y = b / 2 ^ j in
    let e : bit_or a b / 2 ^ j % 2 ≡ max (x % 2) (y % 2) = omega (arith, or_shr a b j, or_step x y) in
    ap (λ (u : ℕ). eqb u 1) e ∙ one_bit (x % 2) (y % 2) (omega arith) (omega arith)

pub has-or-left : (a b j : ℕ) → T (has a j) → T (has (bit_or a b) j)
has-or-left a b j t = rw (has-or a b j) (or_left (has a j) (has b j) t)

pub has-or-right : (a b j : ℕ) → T (has b j) → T (has (bit_or a b) j)
has-or-right a b j t = rw (has-or a b j) (or_right (has a j) (has b j) t)

pub has-or-cases : (a b j : ℕ) → T (has (bit_or a b) j) → T (has a j) ⊎ T (has b j)
has-or-cases a b j t = or_cases (has a j) (has b j) (rw (has-or a b j) at t)

-- ---- two masks, one above the other

pub has-shift : (n k j : ℕ) → has n (k + j) ≡ has (n / 2 ^ k) j
unfolding has
has-shift n k j = ap (λ (x : ℕ). eqb (x % 2) 1) (sym (shr-shr n k j))

pub has-mod : (n k j : ℕ) → j < k → has (n % 2 ^ k) j ≡ has n j
unfolding has
has-mod n k j h =
    let d : ℕ = k - (1 + j) in
    let e : k ≡ d + 1 + j = omega arith in
    ap (λ (x : ℕ). eqb (x % 2) 1) (ap (λ (x : ℕ). n % 2 ^ x / 2 ^ j) e ∙ field n (d + 1) j)
    ∙ ap (λ (x : ℕ). eqb x 1) (mod-mod-pow (n / 2 ^ j) d 1)

module _ (a b k : ℕ) (small : a < 2 ^ k) where
  pub has-below : (j : ℕ) → j < k → has (b * 2 ^ k + a) j ≡ has a j
  has-below j h = sym (has-mod (b * 2 ^ k + a) k j h) ∙ ap (λ (x : ℕ). has x j) (low b k small)

  pub has_above : (j : ℕ) → has (b * 2 ^ k + a) (k + j) ≡ has b j
  has_above j = has-shift (b * 2 ^ k + a) k j ∙ ap (λ (x : ℕ). has x j) (high b k small)
