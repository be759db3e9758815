-- Stray bits by arithmetic: the bits of names taken and of names sent are two numbers of seven bits, the marks a number
-- of two, and a bit from n on makes its number 2 to the power n or more. Assumes nothing.
use mathlib.Core.Path.{◌≡◌, refl, sym, ap, ap₂, ◌∙◌}
use mathlib.Core.Bool.{Bool, true, false, ◌&&◌, ◌||◌, and-false, or_assoc}
use mathlib.Core.List.{List, [], ◌∷◌}
use Prim.Native.Nat.{ℕ, zero, suc, ◌+◌, ◌*◌, ◌/◌, ◌%◌, ◌^◌, ◌<◌, ◌≤◌}
use native.Mathlib.Nat.{div-div-eq-div-mul, pow-succ'}
use native.Mathlib.Omega.{arith}
use lib.Dec.{eqb, ltb, leb, leb-zero, leb-suc-zero, leb-suc-suc}
use lib.Pow.{pow_pos}
use borrow.Author.Tests.{le-ltb, le-leb, lt-leb, leb-true, leb-false}
use Rattle.model.specs.Lists.{any, upto}
use Rattle.model.specs.Contract.{has, name, takes, actions}
use Rattle.model.specs.Sheet.{stray_bit}
use Rattle.model.proofs.Bits.{has-shift}
use Rattle.model.proofs.Masks.{has-zero, has-suc}
use Rattle.sheet.proofs.Ones.{low_bits}

any_same : {p q : ℕ → Bool} → ((i : ℕ) → p i ≡ q i) → (xs : List ℕ) → any p xs ≡ any q xs
unfolding any
any_same same [] = refl
any_same same (x ∷ xs) = ap₂ ◌||◌ (same x) (any_same same xs)

any_next : (p : ℕ → Bool) (first count : ℕ)
    → any p (upto (suc first) count) ≡ any (λ i. p (suc i)) (upto first count)
unfolding any upto
any_next p first zero = refl
any_next p first (suc count) = ap (λ (x : Bool). p (suc first) || x) (any_next p (suc first) count)

-- ---- bits as numbers
leb-same : (a b c d : ℕ) → (a ≤ b → c ≤ d) → (b < a → d < c) → leb a b ≡ leb c d
leb-same a b c d f g = go (leb a b) refl where
  go : (t : Bool) → leb a b ≡ t → leb a b ≡ leb c d
  go true e = e ∙ sym (le-leb c d (f (leb-true a b e)))
  go false e = e ∙ sym (lt-leb c d (g (leb-false a b e)))

some-bit : (bit rest : ℕ) → bit < 2 → ((eqb bit 1 && true) || leb 1 rest) ≡ leb 1 (2 * rest + bit)
some-bit zero rest h = leb-same 1 rest 1 (2 * rest + 0) (λ l. omega arith) (λ l. omega arith)
some-bit (suc zero) rest h = sym (le-leb 1 (2 * rest + 1) (omega arith))
some-bit (suc (suc bit)) rest h = absurd (omega arith)

-- a bit from n on among the c lowest
bits-from : (c n mask : ℕ) → any (λ i. has mask i && leb n i) (upto 0 c) ≡ leb (2 ^ n) (mask % 2 ^ c)
unfolding any upto
bits-from zero n mask = sym (lt-leb (2 ^ n) (mask % 1) (omega (arith, pow_pos n)))
bits-from (suc c) zero mask =
    let rest =
    any_next (λ i. has mask i && leb 0 i) 0 c
    ∙ any_same (λ i. ap₂ ◌&&◌ (has-suc mask i) (leb-zero (suc i) ∙ sym (leb-zero i))) (upto 0 c)
    ∙ bits-from c 0 (mask / 2) in
    ap₂ (λ (x y : Bool). x && true || y) (has-zero mask) rest
    ∙ some-bit (mask % 2) (mask / 2 % 2 ^ c) (omega arith)
    ∙ ap (leb 1) (sym (low_bits mask c))
bits-from (suc c) (suc n) mask =
    let none : (has mask 0 && leb (suc n) 0) ≡ false =
    ap (λ (t : Bool). has mask 0 && t) (leb-suc-zero n) ∙ and-false (has mask 0) in
    let rest =
    any_next (λ i. has mask i && leb (suc n) i) 0 c
    ∙ any_same (λ i. ap₂ ◌&&◌ (has-suc mask i) (leb-suc-suc n i)) (upto 0 c)
    ∙ bits-from c n (mask / 2) in
    ap₂ ◌||◌ none rest
    ∙ leb-same (2 ^ n) (mask / 2 % 2 ^ c) (2 ^ suc n) (mask % 2 ^ suc c)
    (λ l. omega (arith, low_bits mask c, pow-succ' 2 n))
    (λ l. omega (arith, low_bits mask c, pow-succ' 2 n))

-- ---- the three parts of a mask
any-halves : (p : ℕ → Bool) → any p actions ≡ (any p (upto 0 7) || any (λ i. p (7 + i)) (upto 0 7))
unfolding any upto actions
any-halves p = simp or_assoc

name-sent : (i : ℕ) → name (7 + i) ≡ i
unfolding name takes
name-sent i = simp (le-ltb (7 + i) 7 (omega arith)) (omega arith)

has-sent : (mask i : ℕ) → has mask (7 + i) ≡ has (mask / 128) i
has-sent mask i = has-shift mask 7 i

module _ (n mask : ℕ) where
  any-taken : any (λ j. has mask j && leb n (name j)) (upto 0 7) ≡ leb (2 ^ n) (mask % 128)
  unfolding any upto name takes
  any-taken = bits-from 7 n mask

  any-sent : any (λ i. has mask (7 + i) && leb n (name (7 + i))) (upto 0 7) ≡ leb (2 ^ n) (mask / 128 % 128)
  any-sent =
      any_same (λ i. ap₂ (λ (t : Bool) (a : ℕ). t && leb n a) (has-sent mask i) (name-sent i)) (upto 0 7)
      ∙ bits-from 7 n (mask / 128)

-- bits 15 and 14 as a number of two bits
marks : (role y : ℕ) → role ≤ 1 → y < 4 → (eqb (y / 2 % 2) 1 || (eqb (y % 2) 1 && eqb role 0)) ≡ ltb role y
marks zero zero l h = refl
marks zero (suc zero) l h = refl
marks zero (suc (suc zero)) l h = refl
marks zero (suc (suc (suc zero))) l h = refl
marks zero (suc (suc (suc (suc y)))) l h = absurd (omega arith)
marks (suc zero) zero l h = refl
marks (suc zero) (suc zero) l h = refl
marks (suc zero) (suc (suc zero)) l h = refl
marks (suc zero) (suc (suc (suc zero))) l h = refl
marks (suc zero) (suc (suc (suc (suc y)))) l h = absurd (omega arith)
marks (suc (suc role)) y l h = absurd (omega arith)

has-marks : (mask role : ℕ) → mask < 65536 → role ≤ 1
    → (has mask 15 || (has mask 14 && eqb role 0)) ≡ ltb role (mask / 16384)
unfolding has
has-marks mask role h l =
    ap (λ (x : ℕ). eqb (x % 2) 1 || (eqb (mask / 16384 % 2) 1 && eqb role 0)) (sym (div-div-eq-div-mul mask 16384 2))
    ∙ marks role (mask / 16384) l (omega arith)

-- ---- a stray bit by three tests, `limit` being the first number past the names' bits
module _ (n role mask limit : ℕ) (l : role ≤ 1) (h : mask < 65536) (e : limit ≡ 2 ^ n) where
  pub stray-tests : stray_bit n role mask
      ≡ ((leb limit (mask % 128) || leb limit (mask / 128 % 128)) || ltb role (mask / 16384))
  unfolding stray_bit
  stray-tests =
      let stray : ℕ → Bool = λ j. has mask j && leb n (name j) in
      rw e
      (or_assoc (any stray actions) (has mask 15) (has mask 14 && eqb role 0)
      ∙ ap₂ ◌||◌ (any-halves stray ∙ ap₂ ◌||◌ (any-taken n mask) (any-sent n mask)) (has-marks mask role h l))
