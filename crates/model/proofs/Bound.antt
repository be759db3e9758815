-- What is left for the service alone: waiting messages for it and free places for the client. Each service-alone move uses
-- one up, and there are never more than the limits of the used names allow.
-- Assumes nothing.
use mathlib.Core.Path.{◌≡◌, refl, sym, ap, subst, subst⁻¹, ◌∙◌}
use mathlib.Core.Bool.{Bool, true, false, cond}
use mathlib.Core.Logic.{⊎_elim, ◌≢◌}
use mathlib.Core.Option.{some, some-injective}
use mathlib.Core.List.{List}
use Prim.Native.Nat.{ℕ, zero, suc, ◌+◌, ◌-◌, ◌*◌, ◌≤◌, ◌<◌}
use native.Mathlib.Omega.{arith}
use native.Mathlib.Nat.{suc-mul, mul_comm, mul_assoc, eq-or-lt_of_le}
use lib.ListN.{length, get_or, set, replicate, get_or-replicate}
use lib.Seq.{get_or-set_other, get_or-set_same}
use lib.Dec.{ltb, ltb→lt}
use borrow.Author.Tests.{ltb-true, ltb-false}
use Rattle.model.specs.Contract.{takes, name}
use Rattle.model.specs.Situation.{alike, service, buffer_after, raised, lowered}
use Rattle.model.specs.Weak.{Rank}
use Rattle.model.proofs.Lists.{cond-some}

-- ---- sums

unfoldable pub sum : ℕ → (ℕ → ℕ) → ℕ
sum zero f = 0
sum (suc n) f = sum n f + f n

sum_same : (n : ℕ) (f g : ℕ → ℕ) → ((i : ℕ) → i < n → f i ≡ g i) → sum n f ≡ sum n g
unfolding sum
sum_same zero f g h = refl
sum_same (suc n) f g h = omega (arith, h n (omega arith), sum_same n f g (λ i l. h i (omega arith)))

sum_less : (n j : ℕ) (f g : ℕ → ℕ) → j < n → ((i : ℕ) → i ≢ j → f i ≡ g i) → f j ≡ suc (g j) → sum n f ≡ suc (sum n g)
unfolding sum
sum_less zero j f g h e q = absurd (omega arith)
sum_less (suc n) j f g h e q =
    ⊎_elim
    (λ (z : suc j ≡ suc n).
    let y : n ≡ j = omega arith in
    let s : sum n f ≡ sum n g = sum_same n f g (λ i l. e i (omega arith)) in
    let q' : f n ≡ suc (g n) = subst⁻¹ (λ (x : ℕ). f x ≡ suc (g x)) y q in
    omega arith)
    (λ (z : suc j < suc n). omega (arith, sum_less n j f g (omega arith) e q, e n (omega arith)))
    (eq-or-lt_of_le h)

sum-le : (n : ℕ) (f g : ℕ → ℕ) → ((i : ℕ) → f i ≤ g i) → sum n f ≤ sum n g
unfolding sum
sum-le zero f g h = omega arith
sum-le (suc n) f g h = omega (arith, sum-le n f g h, h n)

sum-const : (n k : ℕ) (f : ℕ → ℕ) → ((i : ℕ) → i < n → f i ≡ k) → sum n f ≡ n * k
unfolding sum
sum-const zero k f h = omega arith
sum-const (suc n) k f h = omega (arith, sum-const n k f (λ i l. h i (omega arith)), h n (omega arith), suc-mul n k)

-- ---- what is left for the service alone

waiting : List ℕ → ℕ → ℕ
waiting b i = get_or b i 0

free : List ℕ → List ℕ → ℕ → ℕ
free limits b i = get_or limits (7 + i) 0 - get_or b (7 + i) 0

unfoldable pub left : ℕ → List ℕ → List ℕ → ℕ
unfolding sum waiting free
left n limits b = sum n (waiting b) + sum n (free limits b)

-- the limits of the used names, in both directions
unfoldable pub allowed : ℕ → List ℕ → ℕ
unfolding sum waiting
allowed n limits = sum n (waiting limits) + sum n (λ i. get_or limits (7 + i) 0)

pub left-allowed : (n : ℕ) (limits b : List ℕ) → Rank limits b → left n limits b ≤ allowed n limits
unfolding left allowed waiting free
left-allowed n limits b r =
    omega (arith, sum-le n (waiting b) (waiting limits) r.bounded, sum-le n (free limits b) (λ i. get_or limits (7 + i) 0) (λ i. omega arith))

pub allowed-alike : (n k : ℕ) → n ≤ 7 → allowed n (alike k) ≡ 2 * k * n
unfolding allowed waiting alike
allowed-alike n k few =
    omega (
      arith,
      sum-const n k (λ i. get_or (replicate 14 k) i 0) (λ i h. get_or-replicate 14 i k 0 (omega arith)),
      sum-const n k (λ i. get_or (replicate 14 k) (7 + i) 0) (λ i h. get_or-replicate 14 (7 + i) k 0 (omega arith)),
      mul_assoc 2 k n,
      mul_comm n k,
    )

module _ (n : ℕ) (limits b : List ℕ) (few : n ≤ 7) where
  left-taken : (j x : ℕ) → j < length b → j < n → get_or b j 0 ≡ suc x → left n limits b ≡ suc (left n limits (set b j x))
  unfolding left waiting free
  left-taken j x h l e =
      let w : sum n (waiting b) ≡ suc (sum n (waiting (set b j x))) =
      sum_less n j (waiting b) (waiting (set b j x)) l (λ i z. sym (get_or-set_other b j i x 0 z)) (e ∙ ap suc (sym (get_or-set_same b j x 0 h))) in
      let f : sum n (free limits b) ≡ sum n (free limits (set b j x)) =
      sum_same n (free limits b) (free limits (set b j x))
      (λ i z. ap (λ (y : ℕ). get_or limits (7 + i) 0 - y) (sym (get_or-set_other b j (7 + i) x 0 (omega arith)))) in
      omega arith

  left-filled : (i x : ℕ) → 7 + i < length b → i < n → get_or b (7 + i) 0 ≡ x → x < get_or limits (7 + i) 0
      → left n limits b ≡ suc (left n limits (set b (7 + i) (suc x)))
  unfolding left waiting free
  left-filled i x h l e u =
      let w : sum n (waiting b) ≡ sum n (waiting (set b (7 + i) (suc x))) =
      sum_same n (waiting b) (waiting (set b (7 + i) (suc x))) (λ a z. sym (get_or-set_other b (7 + i) a (suc x) 0 (omega arith))) in
      let f : sum n (free limits b) ≡ suc (sum n (free limits (set b (7 + i) (suc x)))) =
      sum_less n i (free limits b) (free limits (set b (7 + i) (suc x))) l
      (λ a z. ap (λ (y : ℕ). get_or limits (7 + a) 0 - y) (sym (get_or-set_other b (7 + i) (7 + a) (suc x) 0 (omega arith))))
      (omega (arith, get_or-set_same b (7 + i) (suc x) 0 h)) in
      omega arith

  -- a service-alone move uses one up
  pub left_less : (j : ℕ) (b' : List ℕ) → j < 14 → name j < n → Rank limits b → buffer_after limits b (service j) ≡ some b'
      → left n limits b ≡ suc (left n limits b')
  unfolding buffer_after name takes lowered raised
  left_less j b' h l r = go (ltb j 7) (ltb-true j 7) (ltb-false j 7) l
    where
      size : j < length b
      size = omega (arith, r.size)

      go : (t : Bool) → (t ≡ true → j < 7) → (t ≡ false → 7 ≤ j) → cond t j (j - 7) < n
          → cond t (lowered b j) (raised limits b j) ≡ some b' → left n limits b ≡ suc (left n limits b')
      go true x y l e =
          let w = cond-some (ltb 0 (get_or b j 0)) (some (set b j (get_or b j 0 - 1))) b' e in
          let p : 0 < get_or b j 0 = ltb→lt 0 (get_or b j 0) w.0 in
          subst (λ (b' : List ℕ). left n limits b ≡ suc (left n limits b')) (some-injective (set b j (get_or b j 0 - 1)) b' w.1)
          (left-taken j (get_or b j 0 - 1) size l (omega arith))
      go false x y l e =
          let w = cond-some (ltb (get_or b j 0) (get_or limits j 0)) (some (set b j (suc (get_or b j 0)))) b' e in
          let p : get_or b j 0 < get_or limits j 0 = ltb→lt (get_or b j 0) (get_or limits j 0) w.0 in
          let q : 7 + (j - 7) ≡ j = omega (arith, y refl) in
          subst (λ (b' : List ℕ). left n limits b ≡ suc (left n limits b')) (some-injective (set b j (suc (get_or b j 0))) b' w.1)
          (subst (λ (c : ℕ). left n limits b ≡ suc (left n limits (set b c (suc (get_or b j 0))))) q
          (left-filled (j - 7) (get_or b j 0) (omega (arith, size)) l (ap (λ (c : ℕ). get_or b c 0) q)
          (subst⁻¹ (λ (c : ℕ). get_or b j 0 < get_or limits c 0) q p)))
