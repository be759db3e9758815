-- Unions by halves: numbers are parted by a bit, which their union has if one of them has it.
-- Assumes nothing.
use mathlib.Core.Path.{◌≡◌, refl, sym, ap, subst, ◌∙◌}
use mathlib.Core.Bool.{Bool, true, false, ◌&&◌, ◌||◌}
use mathlib.Core.Logic.{◌⊎◌, inl, inr, ⊎_elim}
use Prim.Native.Nat.{ℕ, ◌+◌, ◌-◌, ◌*◌, ◌/◌, ◌%◌, ◌^◌, ◌≤◌, ◌<◌}
use native.Mathlib.Omega.{arith}
use native.Mathlib.Nat.{mod-lt}
use lib.Dec.{T, ltb}
use lib.Bits.{bit_and, bit_or, or_zero_r, or_lt, or_block, and_mask}
use lib.Pow.{pow_pos, pow-lt, pow-add, split}
use borrow.Author.Tests.{ltb-true, ltb-false, ne_eqb}
use Rattle.model.specs.Contract.{has}
use Rattle.model.proofs.Lists.{or_cases, or_left, or_right}
use Rattle.model.proofs.Bits.{has-or, has-mod, has-shift}
use Rattle.model.proofs.Masks.{has-none, has-zero}
use Rattle.families.specs.Joining.{Taken, Union, Joined}
use Rattle.families.proofs.Gaining.{gained-comes, gained-there}

-- ---- one bit

-- the union of two numbers, by what is above bit k and what is below
or_parts : (k a b : ℕ) {f g x y : ℕ} → f < 2 ^ k → g < 2 ^ k → x ≡ a * 2 ^ k + f → y ≡ b * 2 ^ k + g
    → bit_or x y ≡ bit_or a b * 2 ^ k + bit_or f g
or_parts k a b {f} {g} h l d e = rw (d, e) (or_block k a b f g h l)

-- a bit of the second number may be given to the first one before
or-gained : (k a g : ℕ) → g < 2 ^ k → bit_or a (2 ^ k + g) ≡ bit_or (bit_or a (2 ^ k)) g
or-gained k a g h =
    let low : a % 2 ^ k < 2 ^ k = mod-lt a (pow_pos k) in
    let is : a ≡ a / 2 ^ k * 2 ^ k + a % 2 ^ k = sym (split a k) in
    let with-bit : bit_or a (2 ^ k) ≡ bit_or (a / 2 ^ k) 1 * 2 ^ k + a % 2 ^ k =
    or_parts k (a / 2 ^ k) 1 {g = 0} low (pow_pos k) is (omega arith)
    ∙ ap (λ (x : ℕ). bit_or (a / 2 ^ k) 1 * 2 ^ k + x) (or_zero_r (a % 2 ^ k)) in
    or_parts k (a / 2 ^ k) 1 {g = g} low h is (omega arith)
    ∙ ap (λ (x : ℕ). x * 2 ^ k + bit_or (a % 2 ^ k) g) (sym (or_zero_r (bit_or (a / 2 ^ k) 1)))
    ∙ sym (or_parts k (bit_or (a / 2 ^ k) 1) 0 {g = g} low h with-bit (omega arith))

-- a number below twice another is in the lower half or in the upper one
halved : (part m : ℕ) → m < part + part → (m < part) ⊎ ((p : ℕ) × (p < part) × (m ≡ part + p))
halved part m h = go (ltb m part) refl
  where
    go : (t : Bool) → ltb m part ≡ t → (m < part) ⊎ ((p : ℕ) × (p < part) × (m ≡ part + p))
    go true e = inl (ltb-true m part e)
    go false e = let l = ltb-false m part e in inr (m - part, omega arith, omega arith)

-- what a test takes in the lower half, and in the upper one
pub record Halves (part : ℕ) (whole low high : ℕ → Bool) : Type 0 where
  pub lower : (m : ℕ) → m < part → whole m ≡ low m
  pub upper : (m : ℕ) → m < part → whole (part + m) ≡ high m

module _ {part : ℕ} {whole low high : ℕ → Bool} (is : Halves part whole low high) {most : ℕ} (double : most ≡ part + part) where
  low-in : {m : ℕ} → Taken low part m → Taken whole most m
  low-in {m} t = (omega arith, subst T (sym (is.lower m t.0)) t.1)

  high-in : {m : ℕ} → Taken high part m → Taken whole most (part + m)
  high-in {m} t = (omega arith, subst T (sym (is.upper m t.0)) t.1)

  in-half : (m : ℕ) → Taken whole most m → Taken low part m ⊎ ((p : ℕ) × Taken high part p × (m ≡ part + p))
  in-half m t =
      ⊎_elim (λ (l : m < part). inl (l, subst T (is.lower m l) t.1))
      (λ (u : (p : ℕ) × (p < part) × (m ≡ part + p)).
      inr (u.0, (u.1, subst T (ap whole u.2 ∙ is.upper u.0 u.1) t.1), u.2))
      (halved part m (omega arith))

-- ---- nothing to join

pub joined-none : {was one other : ℕ → Bool} {most few : ℕ}
    → ((f : ℕ) → Taken one most f → ⊥) ⊎ ((g : ℕ) → Taken other few g → ⊥) → Joined was one other most few was
joined-none {was} {one} {other} {most} {few} n =
    record { comes = λ m h t. inl t; keeps = λ m h t. t; gives = λ m h u. absurd (never u) }
  where
    never : {m : ℕ} → Union one other most few m → ⊥
    never u = ⊎_elim (λ n. n u.f u.f_in) (λ n. n u.g u.g_in) n

-- ---- both families parted by a bit

module _ (k most : ℕ) (double : most ≡ 2 ^ k + 2 ^ k)
    {was was₀ was₁ one one₀ one₁ other other₀ other₁ both now now₀ between now₁ : ℕ → Bool}
    (was-is : Halves (2 ^ k) was was₀ was₁) (one-is : Halves (2 ^ k) one one₀ one₁) (other-is : Halves (2 ^ k) other other₀ other₁)
    (both_is : (m : ℕ) → m < 2 ^ k → both m ≡ (other₀ m || other₁ m)) (now-is : Halves (2 ^ k) now now₀ now₁)
    (first : Joined was₀ one₀ other₀ (2 ^ k) (2 ^ k) now₀) (second : Joined was₁ one₀ other₁ (2 ^ k) (2 ^ k) between)
    (third : Joined between one₁ both (2 ^ k) (2 ^ k) now₁) where
  -- the union of two numbers of which one is in its upper half
  above : (a b : ℕ) → bit_or a b ≡ 1 → (x y : ℕ) {f g : ℕ} → f < 2 ^ k → g < 2 ^ k → x ≡ a * 2 ^ k + f → y ≡ b * 2 ^ k + g
      → bit_or x y ≡ 2 ^ k + bit_or f g
  above a b one x y h l d e = let o = rw one at (or_parts k a b h l d e) in omega arith

  -- what comes in the upper half
  high-comes : (m : ℕ) → Taken now₁ (2 ^ k) m → T (was (2 ^ k + m)) ⊎ Union one other most most (2 ^ k + m)
  high-comes m t = ⊎_elim from_second from-third (third.comes m t.0 t.1)
    where
      from_second : T (between m) → T (was (2 ^ k + m)) ⊎ Union one other most most (2 ^ k + m)
      from_second u =
          ⊎_elim (λ (v : T (was₁ m)). inl (high-in was-is double (t.0, v)).1)
          (λ (v : Union one₀ other₁ (2 ^ k) (2 ^ k) m). inr record {
            f = v.f;
            g = 2 ^ k + v.g;
            f_in = low-in one-is double v.f_in;
            g_in = high-in other-is double v.g_in;
            is =
                ap (λ (x : ℕ). 2 ^ k + x) v.is
                ∙ sym (above 0 1 refl v.f (2 ^ k + v.g) v.f_in.0 v.g_in.0 (omega arith) (omega arith));
          })
          (second.comes m t.0 u)

      from-third : Union one₁ both (2 ^ k) (2 ^ k) m → T (was (2 ^ k + m)) ⊎ Union one other most most (2 ^ k + m)
      from-third u =
          ⊎_elim
          (λ (v : T (other₀ u.g)). inr record {
            f = 2 ^ k + u.f;
            g = u.g;
            f_in = high-in one-is double u.f_in;
            g_in = low-in other-is double (u.g_in.0, v);
            is =
                ap (λ (x : ℕ). 2 ^ k + x) u.is
                ∙ sym (above 1 0 refl (2 ^ k + u.f) u.g u.f_in.0 u.g_in.0 (omega arith) (omega arith));
          })
          (λ (v : T (other₁ u.g)). inr record {
            f = 2 ^ k + u.f;
            g = 2 ^ k + u.g;
            f_in = high-in one-is double u.f_in;
            g_in = high-in other-is double (u.g_in.0, v);
            is =
                ap (λ (x : ℕ). 2 ^ k + x) u.is
                ∙ sym (above 1 1 refl (2 ^ k + u.f) (2 ^ k + u.g) u.f_in.0 u.g_in.0 (omega arith) (omega arith));
          })
          (or_cases (other₀ u.g) (other₁ u.g) (subst T (both_is u.g u.g_in.0) u.g_in.1))

  comes : (m : ℕ) → m < most → T (now m) → T (was m) ⊎ Union one other most most m
  comes m h t = ⊎_elim low high (in-half now-is double m (h, t))
    where
      low : Taken now₀ (2 ^ k) m → T (was m) ⊎ Union one other most most m
      low u =
          ⊎_elim (λ (v : T (was₀ m)). inl (low-in was-is double (u.0, v)).1)
          (λ (v : Union one₀ other₀ (2 ^ k) (2 ^ k) m). inr record {
            f = v.f;
            g = v.g;
            f_in = low-in one-is double v.f_in;
            g_in = low-in other-is double v.g_in;
            is = v.is;
          })
          (first.comes m u.0 u.1)

      high : (p : ℕ) × Taken now₁ (2 ^ k) p × (m ≡ 2 ^ k + p) → T (was m) ⊎ Union one other most most m
      high u =
          subst (λ (x : ℕ). T (was x) ⊎ Union one other most most x) (sym u.2) (high-comes u.0 u.1)

  -- what is given to the upper half
  high-gives : {m p : ℕ} → m ≡ 2 ^ k + p → Taken now₁ (2 ^ k) p → T (now m)
  high-gives e t = subst (λ (x : ℕ). T (now x)) (sym e) (high-in now-is double t).1

  keeps : (m : ℕ) → m < most → T (was m) → T (now m)
  keeps m h t =
      ⊎_elim (λ (u : Taken was₀ (2 ^ k) m). (low-in now-is double (u.0, first.keeps m u.0 u.1)).1)
      (λ (u : (p : ℕ) × Taken was₁ (2 ^ k) p × (m ≡ 2 ^ k + p)).
      high-gives u.2
      (u.1.0, third.keeps u.0 u.1.0 (second.keeps u.0 u.1.0 u.1.1)))
      (in-half was-is double m (h, t))

  gives : (m : ℕ) → m < most → Union one other most most m → T (now m)
  gives m h u = ⊎_elim low high (in-half one-is double u.f u.f_in)
    where
      low : Taken one₀ (2 ^ k) u.f → T (now m)
      low a =
          ⊎_elim
          (λ (b : Taken other₀ (2 ^ k) u.g).
          let l : m < 2 ^ k = subst (λ (x : ℕ). x < 2 ^ k) (sym u.is) (or_lt k u.f u.g a.0 b.0) in
          (low-in now-is double (l, first.gives m l record { f = u.f; g = u.g; f_in = a; g_in = b; is = u.is })).1)
          (λ (b : (p : ℕ) × Taken other₁ (2 ^ k) p × (u.g ≡ 2 ^ k + p)).
          let l = or_lt k u.f b.0 a.0 b.1.0 in
          high-gives (u.is ∙ above 0 1 refl u.f u.g a.0 b.1.0 (omega arith) (omega (arith, b.2)))
          (l, third.keeps _ l (second.gives _ l record { f = u.f; g = b.0; f_in = a; g_in = b.1; is = refl })))
          (in-half other-is double u.g u.g_in)

      -- the first one is in its upper half, and the second one in any
      given : (p q : ℕ) → Taken one₁ (2 ^ k) p → q < 2 ^ k → T (other₀ q || other₁ q) → m ≡ 2 ^ k + bit_or p q → T (now m)
      given p q a l t e =
          let small = or_lt k p q a.0 l in
          high-gives e
          (small, third.gives _ small record { f = p; g = q; f_in = a; g_in = (l, subst T (sym (both_is q l)) t); is = refl })

      high : (p : ℕ) × Taken one₁ (2 ^ k) p × (u.f ≡ 2 ^ k + p) → T (now m)
      high a =
          ⊎_elim
          (λ (b : Taken other₀ (2 ^ k) u.g).
          given a.0 u.g a.1 b.0 (or_left (other₀ u.g) (other₁ u.g) b.1)
          (u.is ∙ above 1 0 refl u.f u.g a.1.0 b.0 (omega (arith, a.2)) (omega arith)))
          (λ (b : (p : ℕ) × Taken other₁ (2 ^ k) p × (u.g ≡ 2 ^ k + p)).
          given a.0 b.0 a.1 b.1.0 (or_right (other₀ b.0) (other₁ b.0) b.1.1)
          (u.is ∙ above 1 1 refl u.f u.g a.1.0 b.1.0 (omega (arith, a.2)) (omega (arith, b.2))))
          (in-half other-is double u.g u.g_in)

  pub joined-halves : Joined was one other most most now
  joined-halves = record { comes = comes; keeps = keeps; gives = gives }

-- ---- one number parted by a bit, which the other one gains

module _ (k few : ℕ) (double : few ≡ 2 ^ k + 2 ^ k) {most : ℕ} (closed : (f : ℕ) → f < most → bit_or f (2 ^ k) < most)
    {was one gained other low high first second now : ℕ → Bool} (other-is : Halves (2 ^ k) other low high)
    (gained-is : (m : ℕ) → m < most → gained m ≡ (has m k && (one m || one (m - 2 ^ k))))
    (now-is : (m : ℕ) → m < most → now m ≡ (first m || second m)) (without : Joined was one low most (2 ^ k) first)
    (with_it : Joined was gained high most (2 ^ k) second) where
  gained-union : (m : ℕ) → Union gained high most (2 ^ k) m → Union one other most few m
  gained-union m u =
      let from = gained-comes most k one gained gained-is u.f u.f_in.0 u.f_in.1 in record {
        f = from.0;
        g = 2 ^ k + u.g;
        f_in = (from.1, from.2);
        g_in = high-in other-is double u.g_in;
        is = u.is ∙ ap (λ (x : ℕ). bit_or x u.g) from.3 ∙ sym (or-gained k from.0 u.g u.g_in.0);
      }

  gained-joins : (m : ℕ) → m < most → T (now m) → T (was m) ⊎ Union one other most few m
  gained-joins m h t =
      ⊎_elim
      (λ (v : T (first m)). ⊎_elim inl
      (λ (u : Union one low most (2 ^ k) m). inr record {
        f = u.f;
        g = u.g;
        f_in = u.f_in;
        g_in = low-in other-is double u.g_in;
        is = u.is;
      })
      (without.comes m h v))
      (λ (v : T (second m)). ⊎_elim inl (λ (u : Union gained high most (2 ^ k) m). inr (gained-union m u)) (with_it.comes m h v))
      (or_cases (first m) (second m) (subst T (now-is m h) t))

  gained-gives : (m : ℕ) → m < most → Union one other most few m → T (now m)
  gained-gives m h u = subst T (sym (now-is m h)) (⊎_elim lower upper (in-half other-is double u.g u.g_in))
    where
      lower : Taken low (2 ^ k) u.g → T (first m || second m)
      lower b =
          or_left (first m) (second m) (without.gives m h record { f = u.f; g = u.g; f_in = u.f_in; g_in = b; is = u.is })

      upper : (p : ℕ) × Taken high (2 ^ k) p × (u.g ≡ 2 ^ k + p) → T (first m || second m)
      upper b =
          let l = closed u.f u.f_in.0 in
          or_right (first m) (second m)
          (with_it.gives m h record {
            f = bit_or u.f (2 ^ k);
            g = b.0;
            f_in = (l, gained-there most k one gained gained-is (bit_or u.f (2 ^ k)) u.f l u.f_in.1 refl);
            g_in = b.1;
            is = u.is ∙ ap (bit_or u.f) b.2 ∙ or-gained k u.f b.0 b.1.0;
          })

  pub joined-gained : Joined was one other most few now
  joined-gained = record {
    comes = gained-joins;
    keeps = λ m h t. subst T (sym (now-is m h)) (or_left (first m) (second m) (without.keeps m h t));
    gives = gained-gives;
  }

-- ---- the bits of one number

-- the unions with no bit
pub none_within : (word few : ℕ) {other : ℕ} → other ≡ 0 → Joined (has 0) (has word) (has other) 64 few (has 0)
none_within word few e = joined-none (inr (λ g t. absurd (rw (e, has-none g) at t.1)))

-- the unions with the first place, the empty mask
pub first-there : (word other : ℕ) → T (has other 0) → Joined (has 0) (has word) (has other) 64 1 (has word)
first-there word other there = record {
  comes = λ m h t. inr record { f = m; g = 0; f_in = (h, t); g_in = (omega arith, there); is = sym (or_zero_r m) };
  keeps = λ m h t. absurd (rw (has-none m) at t);
  gives = λ m h u.
      let none : u.g ≡ 0 = omega (arith, u.g_in.0) in
      subst (λ (x : ℕ). T (has word x)) (sym (u.is ∙ ap (bit_or u.f) none ∙ or_zero_r u.f)) u.f_in.1;
}

-- the unions with the lower half of some places, and with the upper one, that a number gains bit j for
pub halves-within : (j few : ℕ) → j < 6 → few ≡ 2 ^ j + 2 ^ j → (other low high : ℕ) → ((m : ℕ) → m < 2 ^ j → has other m ≡ has low m)
    → high ≡ other / 2 ^ (2 ^ j) → (word gained first second : ℕ)
    → ((p : ℕ) → p < 64 → has gained p ≡ (has p j && (has word p || has word (p - 2 ^ j))))
    → Joined (has 0) (has word) (has low) 64 (2 ^ j) (has first) → Joined (has 0) (has gained) (has high) 64 (2 ^ j) (has second)
    → Joined (has 0) (has word) (has other) 64 few (has (bit_or first second))
halves-within j few small double other low high low-is high_is word gained first second is =
    joined-gained j few double (λ f h. or_lt 6 f (2 ^ j) h (pow-lt {j = 6} small))
    (record { lower = low-is; upper = λ m h. rw high_is (has-shift other (2 ^ j) m) }) is (λ m h. has-or first second m)

-- the numbers that the code makes: how many places a half has, and the lower half
abbrev places_of : (j : ℕ) → ℕ
places_of j = 1 * 2 ^ j % 2 ^ 64

abbrev low_of : (other j : ℕ) → ℕ
low_of other j = bit_and other (1 * 2 ^ places_of j % 2 ^ 64 - 1)

module _ (j : ℕ) (given : j < 6) where
  few : 2 ^ j < 2 ^ 6
  few = pow-lt {j = 6} given

  places_is : places_of j ≡ 2 ^ j
  places_is = omega (arith, few)

  power-is : 1 * 2 ^ places_of j % 2 ^ 64 ≡ 2 ^ (2 ^ j)
  power-is = let wide : 2 ^ (2 ^ j) < 2 ^ 64 = pow-lt {j = 64} (omega (arith, few)) in rw places_is (omega arith)

  pub places-fit : places_of j < 64
  places-fit = omega (arith, places_is, few)

  pub power-some : 1 ≤ 1 * 2 ^ places_of j % 2 ^ 64
  power-some = omega (arith, power-is, pow_pos (2 ^ j))

  pub more_within : (other word gained first second : ℕ)
      → ((p : ℕ) → p < 64 → has gained p ≡ (has p j && (has word p || has word (p - 2 ^ j))))
      → Joined (has 0) (has word) (has (low_of other j)) 64 (2 ^ j) (has first)
      → Joined (has 0) (has gained) (has (other / 2 ^ places_of j)) 64 (2 ^ j) (has second)
      → Joined (has 0) (has word) (has other) 64 (2 ^ (j + 1)) (has (bit_or first second))
  more_within other =
      let double : 2 ^ (j + 1) ≡ 2 ^ j + 2 ^ j = omega (arith, pow-add 2 j 1) in
      let low-is : low_of other j ≡ other % 2 ^ (2 ^ j) = rw power-is (and_mask other (2 ^ j)) in
      halves-within j (2 ^ (j + 1)) given double other (low_of other j) (other / 2 ^ places_of j)
      (λ m h. rw low-is (sym (has-mod other (2 ^ j) m h))) (ap (λ (x : ℕ). other / 2 ^ x) places_is)
