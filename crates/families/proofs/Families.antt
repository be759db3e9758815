-- What numbers say of a family, one by one: which masks they have, all of them 0 but the first, united with others, copied, compared.
-- Assumes nothing.
use mathlib.Core.Path.{◌≡◌, refl, sym, ap, subst, ◌∙◌}
use mathlib.Core.Bool.{Bool, true, false, ◌||◌}
use mathlib.Core.Logic.{⊎_elim}
use mathlib.Core.List.{List}
use Prim.Native.Nat.{ℕ, zero, suc, ◌+◌, ◌*◌, ◌-◌, ◌/◌, ◌%◌, ◌^◌, ◌≤◌, ◌<◌}
use native.Mathlib.Omega.{arith}
use native.Mathlib.Nat.{eq-or-lt_of_le}
use lib.ListN.{length, get_or, set, length-set}
use lib.Seq.{get_or-set_same, get_or-set_other, ext_get_or}
use lib.Dec.{eqb}
use lib.Bits.{bit_or}
use borrow.Author.Tests.{eq-eqb, ne_eqb, eqb-true, eqb-false}
use Rattle.model.specs.Contract.{has}
use Rattle.model.proofs.Bits.{has-or}
use Rattle.model.proofs.Masks.{has-none, has-zero, has-suc, has_more}
use Rattle.families.specs.Families.{in_family}

-- a mask by its number and its place there
pub in-number : (l : List ℕ) (i p m : ℕ) → p < 64 → m ≡ 64 * i + p → in_family l m ≡ has (get_or l i 0) p
unfolding in_family
in-number l i p m h e =
    let number : m / 64 ≡ i = omega arith in
    let place : m % 64 ≡ p = omega arith in
    rw (number, place) refl

-- ---- the empty mask alone

-- the number 1 has bit 0 alone
one_has : (p : ℕ) → has 1 p ≡ eqb p 0
one_has zero = has-zero 1
one_has (suc p) = has-suc 1 p ∙ has-none p ∙ sym (ne_eqb (suc p) 0 (λ e. omega arith))

pub empty-only : (now : List ℕ) → length now ≡ 256 → ((i : ℕ) → i < 256 → get_or now i 0 ≡ 0)
    → (length (set now 0 1) ≡ 256) × ((m : ℕ) → m < 16384 → in_family (set now 0 1) m ≡ eqb m 0)
unfolding in_family
empty-only now long none = (
  length-set now 0 1 ∙ long,
  λ m h. ⊎_elim (first m) (λ (k : 0 < m / 64). later m h k) (eq-or-lt_of_le (omega arith)),
)
  where
    first : (m : ℕ) → 0 ≡ m / 64 → has (get_or (set now 0 1) (m / 64) 0) (m % 64) ≡ eqb m 0
    first m e =
        let small : m % 64 ≡ m = omega arith in
        rw (← e, small, get_or-set_same now 0 1 0 (omega arith)) (one_has m)

    later : (m : ℕ) → m < 16384 → 0 < m / 64 → has (get_or (set now 0 1) (m / 64) 0) (m % 64) ≡ eqb m 0
    later m h k =
        rw (get_or-set_other now 0 (m / 64) 1 0 (λ e. omega arith), none (m / 64) (omega arith))
        (has-none (m % 64) ∙ sym (ne_eqb m 0 (λ e. omega arith)))

-- ---- one mask more

or-false : (t : Bool) → (t || false) ≡ t
or-false true = refl
or-false false = refl

pub one_more : (l : List ℕ) (mask : ℕ) → length l ≡ 256 → mask < 16384 → {b : ℕ} → b ≡ 2 ^ (mask % 64) → (m : ℕ) → m < 16384
    → in_family (set l (mask / 64) (bit_or (get_or l (mask / 64) 0) b)) m ≡ (in_family l m || eqb m mask)
unfolding in_family
one_more l mask long small {b} bit m h = go (eqb (m / 64) (mask / 64)) refl
  where
    places : m / 64 ≡ mask / 64 → (t : Bool) → eqb (m % 64) (mask % 64) ≡ t → eqb m mask ≡ t
    places e true d = eq-eqb m mask (omega (arith, e, eqb-true (m % 64) (mask % 64) d))
    places e false d = ne_eqb m mask (λ f. eqb-false (m % 64) (mask % 64) d (omega (arith, f)))

    go : (t : Bool) → eqb (m / 64) (mask / 64) ≡ t
        → has (get_or (set l (mask / 64) (bit_or (get_or l (mask / 64) 0) b)) (m / 64) 0) (m % 64)
        ≡ (has (get_or l (m / 64) 0) (m % 64) || eqb m mask)
    go true e =
        let same = eqb-true (m / 64) (mask / 64) e in
        rw (
          same,
          get_or-set_same l (mask / 64) (bit_or (get_or l (mask / 64) 0) b) 0 (omega arith),
          places same (eqb (m % 64) (mask % 64)) refl,
        )
        (has_more (get_or l (mask / 64) 0) (mask % 64) bit (m % 64))
    go false e =
        let ne = eqb-false (m / 64) (mask / 64) e in
        rw (
          get_or-set_other l (mask / 64) (m / 64) (bit_or (get_or l (mask / 64) 0) b) 0 ne,
          ne_eqb m mask (λ f. ne (ap (λ (n : ℕ). n / 64) f)),
        )
        (sym (or-false (has (get_or l (m / 64) 0) (m % 64))))

-- ---- two families

pub united : (l other now : List ℕ) → length now ≡ 256
    → ((i : ℕ) → i < 256 → get_or now i 0 ≡ bit_or (get_or l i 0) (get_or other i 0))
    → (length now ≡ 256) × ((m : ℕ) → m < 16384 → in_family now m ≡ (in_family l m || in_family other m))
unfolding in_family
united l other now long is = (
  long,
  λ m h. rw (is (m / 64) (omega arith)) (has-or (get_or l (m / 64) 0) (get_or other (m / 64) 0) (m % 64)),
)
