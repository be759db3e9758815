-- The numbers of a part of a family in two halves, the second of them lent and written twice: how many they are and which masks they have.
-- Assumes nothing.
use mathlib.Core.Path.{◌≡◌, refl, sym, ap, subst, ◌∙◌}
use mathlib.Core.Bool.{Bool, true, false, ◌||◌}
use mathlib.Core.List.{List, ◌++◌}
use mathlib.Core.Logic.{inl, inr, ⊎_elim}
use Prim.Native.Nat.{ℕ, ◌+◌, ◌-◌, ◌*◌, ◌/◌, ◌%◌, ◌^◌, ◌≤◌, ◌<◌}
use native.Mathlib.Omega.{arith}
use lib.ListN.{
  length,
  get_or,
  take,
  drop,
  set,
  replicate,
  length-append,
  length-drop,
  get_or-replicate,
  get_or-append,
  get_or-eq_default,
}
use lib.Seq.{get_or-take, get_or-drop, get_or-append-add, get_or-set_same, ext_get_or, length-take-le}
use lib.Dec.{T, ltb}
use lib.Bits.{bit_or}
use lib.Pow.{pow-add}
use borrow.Author.Tests.{ltb-true, ltb-false}
use borrow.Rule.Slice.PartMut.{mid_of, put_mid, mid_len, same_len_mid}
use Rattle.model.specs.Contract.{has}
use Rattle.model.proofs.Lists.{or_cases, or_left, or_right}
use Rattle.model.proofs.Bits.{has-or}
use Rattle.model.proofs.Masks.{has-none}
use Rattle.families.specs.Families.{in_family, Unions}
use Rattle.families.specs.Joining.{Union, Joined, Sizes}
use Rattle.families.proofs.Families.{in-number}
use Rattle.families.proofs.Halving.{Halves, joined-halves}

-- ---- a list in two halves

-- the second half, as it is lent
abbrev back_of : (h : ℕ) (l : List ℕ) → List ℕ
back_of h l = mid_of h (length l - h) l

-- the list, with the second half as it comes back
abbrev with_back : (h : ℕ) (l zs : List ℕ) → List ℕ
with_back h l zs = put_mid h (length l - h) l zs

module _ (h : ℕ) (l : List ℕ) (long : length l ≡ h + h) where
  back-length : length (back_of h l) ≡ h
  back-length = mid_len h (length l) l (omega arith) ∙ omega arith

  back_at : (i : ℕ) → i < h → get_or (back_of h l) i 0 ≡ get_or l (h + i) 0
  back_at i k = get_or-take (length l - h) (drop h l) i 0 (omega arith) ∙ get_or-drop h l i 0

  module _ (zs : List ℕ) (many : length zs ≡ h) where
    with-length : length (with_back h l zs) ≡ h + h
    with-length = same_len_mid h (length l - h) l zs (many ∙ sym back-length) ∙ long

    with-low : (i : ℕ) → i < h → get_or (with_back h l zs) i 0 ≡ get_or l i 0
    with-low i k =
        let e : length (take h l) ≡ h = length-take-le h l (omega arith) in
        get_or-append (take h l) _ 0 i (omega arith) ∙ get_or-take h l i 0 k

    with-high : (i : ℕ) → i < h → get_or (with_back h l zs) (h + i) 0 ≡ get_or zs i 0
    with-high i k =
        let e : length (take h l) ≡ h = length-take-le h l (omega arith) in
        ap (λ (n : ℕ). get_or (with_back h l zs) (n + i) 0) (sym e)
        ∙ get_or-append-add (take h l) _ i 0
        ∙ get_or-append zs _ 0 i (omega arith)

-- the second half is what came back
with-back : (h : ℕ) (l zs : List ℕ) → length l ≡ h + h → length zs ≡ h → back_of h (with_back h l zs) ≡ zs
with-back h l zs long many =
    let w = with-length h l long zs many in
    let b = back-length h (with_back h l zs) w in
    ext_get_or 0 (back_of h (with_back h l zs)) zs (b ∙ sym many)
    (λ i k. back_at h (with_back h l zs) w i (omega arith) ∙ with-high h l long zs many i (omega arith))

-- the masks that a list has, by what its halves have
halves-by : (h k : ℕ) → 2 ^ k ≡ 64 * h → (l low high : List ℕ) → ((i : ℕ) → i < h → get_or l i 0 ≡ get_or low i 0)
    → ((i : ℕ) → i < h → get_or l (h + i) 0 ≡ get_or high i 0) → Halves (2 ^ k) (in_family l) (in_family low) (in_family high)
unfolding in_family
halves-by h k e l low high f g = record {
  lower = λ m less. ap (λ (x : ℕ). has x (m % 64)) (f (m / 64) (omega arith));
  upper = λ m less.
      let number : (2 ^ k + m) / 64 ≡ h + m / 64 = omega arith in
      let place : (2 ^ k + m) % 64 ≡ m % 64 = omega arith in
      rw (number, place) (ap (λ (x : ℕ). has x (m % 64)) (g (m / 64) (omega arith)));
}

halves_of : (h k : ℕ) → 2 ^ k ≡ 64 * h → (l : List ℕ) → length l ≡ h + h
    → Halves (2 ^ k) (in_family l) (in_family (take h l)) (in_family (back_of h l))
halves_of h k e l long =
    halves-by h k e l (take h l) (back_of h l) (λ i less. sym (get_or-take h l i 0 less)) (λ i less. sym (back_at h l long i less))

-- numbers with the unions of two masks put to them
abbrev pub JoinedNumbers : (bits : ℕ) (was one other now : List ℕ) → Type 0
JoinedNumbers bits was one other now =
    Joined (in_family was) (in_family one) (in_family other) (2 ^ (6 + bits)) (2 ^ (6 + bits)) (in_family now)

-- ---- nothing to join

-- numbers that are 0 have no mask
pub no-masks : (l : List ℕ) → ((i : ℕ) → i < length l → get_or l i 0 ≡ 0) → (m : ℕ) → T (in_family l m) → ⊥
unfolding in_family
no-masks l f m t = go (ltb (m / 64) (length l)) refl
  where
    none : get_or l (m / 64) 0 ≡ 0 → ⊥
    none e = absurd (rw (e, has-none (m % 64)) at t)

    go : (b : Bool) → ltb (m / 64) (length l) ≡ b → ⊥
    go true e = none (f (m / 64) (ltb-true (m / 64) (length l) e))
    go false e = none (get_or-eq_default l 0 (ltb-false (m / 64) (length l) e))

-- ---- the halves joined

module _ {bits : ℕ} {one other out : List ℕ} (given : Sizes bits one other out) (some : bits ≡ 0 → ⊥) where
  abbrev h : ℕ
  h = length out / 2

  abbrev j : ℕ
  j = bits - 1

  double : 2 ^ bits ≡ 2 ^ j + 2 ^ j
  double = let e : bits ≡ j + 1 = omega arith in ap (λ (n : ℕ). 2 ^ n) e ∙ omega (arith, pow-add 2 j 1)

  -- half the length is a power of 2 again
  half_is : h ≡ 2 ^ j
  half_is = omega (arith, double)

  out-whole : length out ≡ h + h
  out-whole = omega (arith, half_is, double)

  other-whole : length other ≡ h + h
  other-whole = omega (arith, out-whole)

  one-whole : length one ≡ h + h
  one-whole = omega (arith, out-whole)

  masks-in-half : 2 ^ (6 + j) ≡ 64 * h
  masks-in-half = pow-add 2 6 j ∙ omega (arith, half_is)

  masks-double : 2 ^ (6 + bits) ≡ 2 ^ (6 + j) + 2 ^ (6 + j)
  masks-double = pow-add 2 6 bits ∙ omega (arith, double, masks-in-half, half_is)

  -- how many numbers are lent
  low-lent : (l : List ℕ) → h ≤ length l → length (take h l) ≡ 2 ^ j
  low-lent l long = length-take-le h l long ∙ half_is

  high-lent : (l : List ℕ) → length l ≡ h + h → length (back_of h l) ≡ 2 ^ j
  high-lent l long = back-length h l long ∙ half_is

  pub first-sizes : Sizes j (take h one) (take h other) (take h out)
  first-sizes = record {
    few = omega (arith, given);
    one_long = low-lent one (omega (arith, one-whole));
    other_long = low-lent other (omega (arith, other-whole));
    out_long = low-lent out (omega (arith, out-whole));
  }

  -- after the first call
  module _ (xs : List ℕ) (xs-many : length xs ≡ 2 ^ j) where
    abbrev out₁ : List ℕ
    out₁ = xs ++ drop h out

    length₁ : length out₁ ≡ h + h
    length₁ = length-append xs (drop h out) ∙ omega (arith, length-drop h out, half_is, out-whole)

    pub second-sizes : Sizes j (take h one) (back_of h other) (back_of h out₁)
    second-sizes = record {
      few = omega (arith, given);
      one_long = low-lent one (omega (arith, one-whole));
      other_long = high-lent other other-whole;
      out_long = high-lent out₁ length₁;
    }

    high-begun : (i : ℕ) → i < h → get_or (back_of h out₁) i 0 ≡ get_or out (h + i) 0
    high-begun i k =
        back_at h out₁ length₁ i k
        ∙ ap (λ (n : ℕ). get_or out₁ (n + i) 0) (half_is ∙ sym xs-many)
        ∙ get_or-append-add xs (drop h out) i 0
        ∙ get_or-drop h out i 0

    -- after the second
    module _ (ys : List ℕ) (ys-many : length ys ≡ 2 ^ j) where
      abbrev out₂ : List ℕ
      out₂ = with_back h out₁ ys

      length₂ : length out₂ ≡ h + h
      length₂ = with-length h out₁ length₁ ys (ys-many ∙ sym half_is)

      -- after the third
      module _ (zs : List ℕ) (zs-many : length zs ≡ 2 ^ j) where
        abbrev out₃ : List ℕ
        out₃ = with_back h out₂ zs

        pub length₃ : length out₃ ≡ 2 ^ bits
        length₃ = with-length h out₂ length₂ zs (zs-many ∙ sym half_is) ∙ omega (arith, half_is, double)

        low_end : (i : ℕ) → i < h → get_or out₃ i 0 ≡ get_or xs i 0
        low_end i k =
            with-low h out₂ length₂ zs (zs-many ∙ sym half_is) i k
            ∙ with-low h out₁ length₁ ys (ys-many ∙ sym half_is) i k
            ∙ get_or-append xs (drop h out) 0 i (omega (arith, half_is))

        module _ (both : List ℕ) (either : (i : ℕ) → i < h → get_or both i 0 ≡ bit_or (get_or other i 0) (get_or other (h + i) 0)) where
          both_is : (m : ℕ) → m < 2 ^ (6 + j) → in_family (take h both) m ≡ (in_family (take h other) m || in_family (back_of h other) m)
          unfolding in_family
          both_is m less =
              let k : m / 64 < h = omega (arith, masks-in-half) in
              rw (
                get_or-take h both (m / 64) 0 k,
                get_or-take h other (m / 64) 0 k,
                back_at h other other-whole (m / 64) k,
                either (m / 64) k,
              )
              (has-or (get_or other (m / 64) 0) (get_or other (h + m / 64) 0) (m % 64))

          -- the three calls, each of which joins two halves, have joined the whole
          pub numbers-joined : JoinedNumbers j (take h out) (take h one) (take h other) xs
              → JoinedNumbers j (back_of h out₁) (take h one) (back_of h other) ys
              → JoinedNumbers j (back_of h out₂) (back_of h one) (take h both) zs
              → JoinedNumbers bits out one other out₃
          numbers-joined first second third =
              let e = masks-in-half in
              joined-halves (6 + j) (2 ^ (6 + bits)) masks-double
              (halves-by h (6 + j) e out (take h out) (back_of h out₁) (λ i k. sym (get_or-take h out i 0 k)) (λ i k. sym (high-begun i k)))
              (halves_of h (6 + j) e one one-whole) (halves_of h (6 + j) e other other-whole) both_is
              (halves-by h (6 + j) e out₃ xs zs low_end (with-high h out₂ length₂ zs (zs-many ∙ sym half_is))) first second
              (subst
              (λ (l : List ℕ). JoinedNumbers j l (back_of h one) (take h both) zs)
              (with-back h out₁ ys length₁ (ys-many ∙ sym half_is)) third)

-- ---- one number

-- the unions within the first number, put to those that are there
pub number-joined : (one other out : List ℕ) (r : ℕ) → 0 < length out
    → Joined (has 0) (has (get_or one 0 0)) (has (get_or other 0 0)) 64 64 (has r)
    → Joined (in_family out) (in_family one) (in_family other) 64 64 (in_family (set out 0 (bit_or (get_or out 0 0) r)))
number-joined one other out r some is = record {
  comes = λ m h t.
      ⊎_elim (λ (u : T (has (get_or out 0 0) m)). inl (subst T (sym (first out m h)) u))
      (λ (u : T (has r m)). ⊎_elim (λ (v : T (has 0 m)). absurd (rw (has-none m) at v)) (λ v. inr (record {
        f = v.f;
        g = v.g;
        f_in = (v.f_in.0, subst T (sym (first one v.f v.f_in.0)) v.f_in.1);
        g_in = (v.g_in.0, subst T (sym (first other v.g v.g_in.0)) v.g_in.1);
        is = v.is;
      }))
      (is.comes m h u))
      (or_cases (has (get_or out 0 0) m) (has r m) (subst T (now m h) t));
  keeps = λ m h t. subst T (sym (now m h)) (or_left (has (get_or out 0 0) m) (has r m) (subst T (first out m h) t));
  gives = λ m h u.
      subst T (sym (now m h))
      (or_right (has (get_or out 0 0) m) (has r m)
      (is.gives m h record {
        f = u.f;
        g = u.g;
        f_in = (u.f_in.0, subst T (first one u.f u.f_in.0) u.f_in.1);
        g_in = (u.g_in.0, subst T (first other u.g u.g_in.0) u.g_in.1);
        is = u.is;
      }));
}
  where
    first : (l : List ℕ) (m : ℕ) → m < 64 → in_family l m ≡ has (get_or l 0 0) m
    first l m h = in-number l 0 m m h (omega arith)

    now : (m : ℕ) → m < 64 → in_family (set out 0 (bit_or (get_or out 0 0) r)) m ≡ (has (get_or out 0 0) m || has r m)
    now m h = first _ m h ∙ rw (get_or-set_same out 0 (bit_or (get_or out 0 0) r) 0 some) (has-or (get_or out 0 0) r m)

-- ---- whole families

-- a family with no mask
nothing : List ℕ
nothing = replicate 256 0

nothing-in : (m : ℕ) → T (in_family nothing m) → ⊥
unfolding nothing
nothing-in = no-masks nothing (λ i k. get_or-replicate 256 i 0 0 k)

-- where nothing was before
pub unions-all : (one other all : List ℕ) → Joined (in_family (replicate 256 0)) (in_family one) (in_family other) 16384 16384 (in_family all)
    → Unions one other all
unfolding nothing
unions-all one other all is = record {
  comes = λ m h t.
      ⊎_elim (λ (u : T (in_family nothing m)). absurd (nothing-in m u))
      (λ (u : Union (in_family one) (in_family other) 16384 16384 m). (u.f, u.g, u.f_in.0, u.f_in.1, u.g_in.0, u.g_in.1, u.is))
      (is.comes m h t);
  gives = λ m f g h k l t u e. is.gives m h record { f = f; g = g; f_in = (k, t); g_in = (l, u); is = e };
}
