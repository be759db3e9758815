-- An action gained by every mask: one bit of a mask set or not, the places in a number that have it, numbers gone through one by one.
-- Assumes nothing.
use mathlib.Core.Path.{◌≡◌, refl, sym, ap, subst, ◌∙◌}
use mathlib.Core.Bool.{Bool, true, false, ◌&&◌, ◌||◌, cond}
use mathlib.Core.Logic.{⊎_elim}
use mathlib.Core.List.{List}
use Prim.Native.Nat.{ℕ, zero, suc, ◌+◌, ◌-◌, ◌*◌, ◌/◌, ◌%◌, ◌^◌, ◌≤◌, ◌<◌}
use native.Mathlib.Omega.{arith}
use native.Mathlib.Nat.{div-eq_of_lt, lt_of_not-le, mod-lt}
use lib.ListN.{length, get_or}
use lib.Dec.{T, eqb, eqb→eq}
use lib.Bits.{bit_and, bit_or, or_add_and, and_high}
use lib.Pow.{pow-add, pow_pos, split, high}
use borrow.Author.Tests.{ne_eqb}
use Rattle.model.specs.Lists.{all, upto}
use Rattle.model.specs.Contract.{has}
use Rattle.model.proofs.Lists.{or_cases, or_left, or_right, and_both, and-of, dec-T, all-elim}
use Rattle.model.proofs.Actions.{mem-upto}
use Rattle.model.proofs.Bits.{has-and, has-or, has-or-right, has-mod, has-below, has_above}
use Rattle.model.proofs.Masks.{same_bit, has-none, has-power}
use Rattle.families.specs.Families.{in_family, Forced}
use Rattle.families.proofs.Families.{in-number}

-- ---- tests

-- two tests that need agree only if a third one passes
and-when : (t a b : Bool) → (T t → a ≡ b) → (t && a) ≡ (t && b)
and-when true a b f = f tt
and-when false a b f = refl

and-behind : (t a b : Bool) → (T t → a ≡ b) → (a && t) ≡ (t && b)
and-behind true true b f = f tt
and-behind true false b f = f tt
and-behind false true b f = refl
and-behind false false b f = refl

same_bits : (a b : Bool) → T (same_bit a b) → a ≡ b
unfolding same_bit
same_bits true true t = refl
same_bits true false t = absurd t
same_bits false true t = absurd t
same_bits false false t = refl

-- ---- a mask with one bit

bit-set : (m j : ℕ) → T (has m j) → m / 2 ^ j % 2 ≡ 1
unfolding has
bit-set m j t = eqb→eq (m / 2 ^ j % 2) 1 t

bit-clear : (m j : ℕ) → (T (has m j) → ⊥) → m / 2 ^ j % 2 ≡ 0
unfolding has
bit-clear m j n = go (m / 2 ^ j % 2) (omega arith) n
  where
    go : (x : ℕ) → x < 2 → (T (eqb x 1) → ⊥) → x ≡ 0
    go zero h n = refl
    go (suc zero) h n = absurd (n tt)
    go (suc (suc x)) h n = absurd (omega arith)

pub step_fits : (m j : ℕ) → m / 2 ^ j % 2 ≡ 1 → 2 ^ j ≤ m
step_fits m j e =
    let below : 2 ^ j < suc m =
    lt_of_not-le (λ (less : suc m ≤ 2 ^ j). let z : m / 2 ^ j ≡ 0 = div-eq_of_lt (omega arith) in omega arith) in
    omega arith

pub bit-fits : (m j : ℕ) → T (has m j) → 2 ^ j ≤ m
bit-fits m j t = step_fits m j (bit-set m j t)

or-power : (m j : ℕ) → bit_or m (2 ^ j) + (m / 2 ^ j % 2) * 2 ^ j ≡ m + 2 ^ j
or-power m j =
    let e : 2 ^ (1 + j) - 2 ^ j ≡ 2 ^ j = omega (arith, pow-add 2 1 j) in
    let a : bit_and m (2 ^ j) ≡ (m / 2 ^ j % 2) * 2 ^ j = subst (λ (x : ℕ). bit_and m x ≡ (m / 2 ^ j % 2) * 2 ^ j) e (and_high m 1 j) in
    subst (λ (x : ℕ). bit_or m (2 ^ j) + x ≡ m + 2 ^ j) a (or_add_and m (2 ^ j))

-- a mask that has the bit stays as it is
gains-none : (m j : ℕ) → T (has m j) → bit_or m (2 ^ j) ≡ m
gains-none m j t = let o = rw (bit-set m j t) at (or-power m j) in omega arith

gains-one : (m j : ℕ) → (T (has m j) → ⊥) → bit_or m (2 ^ j) ≡ m + 2 ^ j
gains-one m j n = let o = rw (bit-clear m j n) at (or-power m j) in omega arith

-- without its bit it gains it again
gains-back : (m j : ℕ) → T (has m j) → bit_or (m - 2 ^ j) (2 ^ j) ≡ m
gains-back m j t = go (m / 2 ^ j) (split m j) (bit-set m j t)
  where
    go : (h : ℕ) → h * 2 ^ j + m % 2 ^ j ≡ m → h % 2 ≡ 1 → bit_or (m - 2 ^ j) (2 ^ j) ≡ m
    go zero e odd = absurd (omega arith)
    go (suc h) e odd =
        let less : m - 2 ^ j ≡ h * 2 ^ j + m % 2 ^ j = omega arith in
        let up : (m - 2 ^ j) / 2 ^ j % 2 ≡ 0 = rw (less, high h j (mod-lt m (pow_pos j))) (omega arith) in
        let o = rw up at (or-power (m - 2 ^ j) j) in
        omega (arith, bit-fits m j t)

-- ---- what has gained an action, by tests

-- below `most`, a test takes what another one took, with bit j: a number that has the bit, and was taken with it or without
module _ (most j : ℕ) (was now : ℕ → Bool) (same : (m : ℕ) → m < most → now m ≡ (has m j && (was m || was (m - 2 ^ j)))) where
  pub gained-comes : (m : ℕ) → m < most → T (now m) → (f : ℕ) × (f < most) × T (was f) × (m ≡ bit_or f (2 ^ j))
  gained-comes m h t =
      let both = and_both (has m j) (was m || was (m - 2 ^ j)) (subst T (same m h) t) in
      ⊎_elim (λ (u : T (was m)). (m, h, u, sym (gains-none m j both.0)))
      (λ (u : T (was (m - 2 ^ j))). (m - 2 ^ j, omega arith, u, sym (gains-back m j both.0)))
      (or_cases (was m) (was (m - 2 ^ j)) both.1)

  pub gained-there : (m f : ℕ) → m < most → T (was f) → m ≡ bit_or f (2 ^ j) → T (now m)
  gained-there m f h t e =
      subst T (sym (same m h))
      (and-of (has m j) (was m || was (m - 2 ^ j)) (subst (λ (x : ℕ). T (has x j)) (sym e) (has-or-right f (2 ^ j) j (has-power j)))
      (⊎_elim with_it without (dec-T (has f j))))
    where
      with_it : T (has f j) → T (was m || was (m - 2 ^ j))
      with_it u = or_left (was m) (was (m - 2 ^ j)) (subst (λ (x : ℕ). T (was x)) (sym (e ∙ gains-none f j u)) t)

      without : (T (has f j) → ⊥) → T (was m || was (m - 2 ^ j))
      without n =
          let less : f ≡ m - 2 ^ j = omega (arith, gains-one f j n) in
          or_right (was m) (was (m - 2 ^ j)) (subst (λ (x : ℕ). T (was x)) less t)

-- mask m is there: it has the action, and was there with it or without
abbrev pub gained_bit : (l : List ℕ) (j m : ℕ) → Bool
gained_bit l j m = has m j && (in_family l m || in_family l (m - 2 ^ j))

forced : (l now : List ℕ) (j : ℕ) → ((m : ℕ) → m < 16384 → in_family now m ≡ gained_bit l j m) → Forced j l now
forced l now j same = record {
  comes = gained-comes 16384 j (in_family l) (in_family now) same;
  gains = λ m f h k t e. gained-there 16384 j (in_family l) (in_family now) same m f h t e;
}

-- ---- number by number

-- number i of the family afterwards
abbrev pub GainedWord : (l : List ℕ) (j i x : ℕ) → Type 0
GainedWord l j i x = (p : ℕ) → p < 64 → has x p ≡ gained_bit l j (64 * i + p)

-- all numbers are gone through
pub gained-all : (l : List ℕ) (j : ℕ) (now : List ℕ) → length now ≡ 256 → ((i : ℕ) → i < 256 → GainedWord l j i (get_or now i 0))
    → (length now ≡ 256) × Forced j l now
unfolding in_family
gained-all l j now long done = (long, forced l now j all_same)
  where
    all_same : (m : ℕ) → m < 16384 → in_family now m ≡ gained_bit l j m
    all_same m h =
        let e : 64 * (m / 64) + m % 64 ≡ m = omega arith in
        subst (λ (x : ℕ). has (get_or now (m / 64) 0) (m % 64) ≡ gained_bit l j x) e
        (done (m / 64) (omega arith) (m % 64) (omega arith))

module _ (l : List ℕ) (i p : ℕ) (h : p < 64) where
  turned : i * 2 ^ 6 + p ≡ 64 * i + p
  turned = omega arith

  low_bit : (j : ℕ) → j < 6 → has (64 * i + p) j ≡ has p j
  low_bit j k = subst (λ (x : ℕ). has x j ≡ has p j) turned (has-below p i 6 h j k)

  high_bit : (b : ℕ) → has (64 * i + p) (6 + b) ≡ has i b
  high_bit b = subst (λ (x : ℕ). has x (6 + b) ≡ has i b) turned (has_above p i 6 h b)

  low-there : (j : ℕ) → T (has p j)
      → (has (get_or l i 0) p || has (get_or l i 0) (p - 2 ^ j)) ≡ (in_family l (64 * i + p) || in_family l (64 * i + p - 2 ^ j))
  low-there j t =
      let fits = bit-fits p j t in
      rw (in-number l i p (64 * i + p) h refl, in-number l i (p - 2 ^ j) (64 * i + p - 2 ^ j) (omega arith) (omega arith)) refl

  high-there : (b : ℕ) → T (has i b)
      → has (bit_or (get_or l i 0) (get_or l (i - 2 ^ b) 0)) p ≡ (in_family l (64 * i + p) || in_family l (64 * i + p - 2 ^ (6 + b)))
  high-there b t =
      let fits = bit-fits i b t in
      let e : 2 ^ (6 + b) ≡ 64 * 2 ^ b = pow-add 2 6 b in
      rw (in-number l i p (64 * i + p) h refl, in-number l (i - 2 ^ b) p (64 * i + p - 2 ^ (6 + b)) h (omega arith))
      (has-or (get_or l i 0) (get_or l (i - 2 ^ b) 0) p)

-- an action below 6, within a number
pub gained-low : (l : List ℕ) (j i x : ℕ) {word : ℕ} → j < 6 → word ≡ get_or l i 0
    → ((p : ℕ) → p < 64 → has x p ≡ (has p j && (has word p || has word (p - 2 ^ j)))) → GainedWord l j i x
gained-low l j i x k e f p h =
    f p h
    ∙ rw (e, low_bit l i p h j k) (and-when (has p j) _ _ (low-there l i p h j))

-- one above, from number to number
pub gained-high : (l now : List ℕ) (b i : ℕ) {x : ℕ} → ((k : ℕ) → k ≤ i → get_or now k 0 ≡ get_or l k 0)
    → x ≡ cond (has i b) (bit_or (get_or now i 0) (get_or now (i - 2 ^ b) 0)) 0 → GainedWord l (6 + b) i x
gained-high l now b i kept e p h =
    let from = rw (kept i (omega arith), kept (i - 2 ^ b) (omega arith)) at e in
    ap (λ (x : ℕ). has x p) from
    ∙ rw (high_bit l i p h b) (go (has i b) (bit_or (get_or l i 0) (get_or l (i - 2 ^ b) 0)) _ (high-there l i p h b))
  where
    go : (t : Bool) (x : ℕ) (u : Bool) → (T t → has x p ≡ u) → has (cond t x 0) p ≡ (t && u)
    go true x u f = f tt
    go false x u f = has-none p

-- ---- one number

-- a table of 64 bits: those of the places that have bit j
pub table_is : (k j : ℕ) → T (all (λ p. same_bit (has k p) (has p j)) (upto 0 64)) → (p : ℕ) → p < 64 → has k p ≡ has p j
table_is k j t p h =
    same_bits (has k p) (has p j) (all-elim (λ p. same_bit (has k p) (has p j)) (mem-upto 64 0 p (omega arith) (omega arith)) t)

-- the number shifted by 2 ^ j places, where its places have bit j
pub shifted-or : (word j table step : ℕ) → step ≡ 2 ^ j → ((p : ℕ) → p < 64 → has table p ≡ has p j) → (p : ℕ) → p < 64
    → has (bit_and (bit_or word (word * 2 ^ step % 2 ^ 64)) table) p ≡ (has p j && (has word p || has word (p - 2 ^ j)))
shifted-or word j table step s f p h =
    has-and (bit_or word (word * 2 ^ step % 2 ^ 64)) table p
    ∙ rw (f p h) (and-behind (has p j) _ _ moved)
  where
    moved : T (has p j) → has (bit_or word (word * 2 ^ step % 2 ^ 64)) p ≡ (has word p || has word (p - 2 ^ j))
    moved t =
        let fits = bit-fits p j t in
        let e : step + (p - step) ≡ p = omega arith in
        let none : word * 2 ^ step + 0 ≡ word * 2 ^ step = omega arith in
        let there : has (word * 2 ^ step) p ≡ has word (p - step) = rw (none, e) at (has_above 0 word step (pow_pos step) (p - step)) in
        has-or word (word * 2 ^ step % 2 ^ 64) p
        ∙ rw (has-mod (word * 2 ^ step) 64 p h, there, s) refl
