-- Laws of joining: one list behind the other is all unions of both, two lists side by side are both families in one; and what joining does
-- not change it does not change later, since unions can be taken in any order.
-- Assumes nothing.
use mathlib.Core.Path.{◌≡◌, refl, ap, sym, subst, subst⁻¹, ◌∙◌}
use mathlib.Core.Logic.{◌⊎◌, inl, inr, ⊎_elim}
use mathlib.Core.List.Memᴰ
use mathlib.Core.List.{List, [], ◌∷◌, ◌++◌}
use Prim.Native.Nat.{ℕ, ◌<◌}
use native.Mathlib.Omega.{arith}
use lib.Dec.{T}
use lib.Bits.{bit_or, or_comm, or_zero_r, or_lt, or_add_and, and_le_r}
use Rattle.model.specs.Lists.{combine}
use Rattle.model.specs.Contract.{has}
use Rattle.model.proofs.Lists.{or_cases, or_left, or_right, combine-intro, combine-elim}
use Rattle.model.proofs.Bits.{has-or-left, has-or-right, has-or-cases}
use Rattle.nodes.proofs.Sets.{mask-same}
use Rattle.text_ready.specs.Joined.{Family, Union, Joined, Absorbs, United}

-- ---- unions of masks

-- a part of a mask is a mask
left-small : (a b m : ℕ) → m < 16384 → m ≡ bit_or a b → a < 16384
left-small a b m h e = let k = or_add_and a b in let l = and_le_r a b in omega (arith, e, k, l, h)

pub right-small : (a b m : ℕ) → m < 16384 → m ≡ bit_or a b → b < 16384
right-small a b m h e = left-small b a m h (e ∙ or_comm a b)

or-of : (a b c j : ℕ) → T (has a j) ⊎ (T (has b j) ⊎ T (has c j)) → T (has (bit_or (bit_or a b) c) j)
or-of a b c j (inl t) = has-or-left (bit_or a b) c j (has-or-left a b j t)
or-of a b c j (inr (inl t)) = has-or-left (bit_or a b) c j (has-or-right a b j t)
or-of a b c j (inr (inr t)) = has-or-right (bit_or a b) c j t

of_or : (a b c j : ℕ) → T (has (bit_or (bit_or a b) c) j) → T (has a j) ⊎ (T (has b j) ⊎ T (has c j))
of_or a b c j t =
    ⊎_elim {C = T (has a j) ⊎ (T (has b j) ⊎ T (has c j))}
    (λ u. ⊎_elim {C = T (has a j) ⊎ (T (has b j) ⊎ T (has c j))} (λ w. inl w) (λ w. inr (inl w)) (has-or-cases a b j u))
    (λ u. inr (inr u))
    (has-or-cases (bit_or a b) c j t)

-- three masks in one, the last two changing places
pub or_swap : (a b c : ℕ) → a < 16384 → b < 16384 → c < 16384 → bit_or (bit_or a b) c ≡ bit_or (bit_or a c) b
or_swap a b c ha hb hc =
    mask-same (bit_or (bit_or a b) c) (bit_or (bit_or a c) b) (or_lt 14 (bit_or a b) c (or_lt 14 a b ha hb) hc)
    (or_lt 14 (bit_or a c) b (or_lt 14 a c ha hc) hb) (λ j h t. or-of a c b j (swapped (of_or a b c j t)))
    (λ j h t. or-of a b c j (swapped (of_or a c b j t)))
  where
    swapped : {A B C : Type 0} → A ⊎ (B ⊎ C) → A ⊎ (C ⊎ B)
    swapped (inl x) = inl x
    swapped (inr (inl x)) = inr (inr x)
    swapped (inr (inr x)) = inr (inl x)

pub or_assoc : (a b c : ℕ) → a < 16384 → b < 16384 → c < 16384 → bit_or (bit_or a b) c ≡ bit_or a (bit_or b c)
or_assoc a b c ha hb hc =
    ap (λ (x : ℕ). bit_or x c) (or_comm a b) ∙ or_swap b a c hb ha hc ∙ or_comm (bit_or b c) a

-- ---- joining

-- the end adds nothing
pub joined_end : (F : Family) → Joined F (0 ∷ []) F
joined_end F m h = (
  (λ t. (m, 0, h, t, Memᴰ.head refl, sym (or_zero_r m))),
  (λ u.
      let g : m ≡ u.0 = u.5 ∙ ap (bit_or u.0) (Memᴰ.eq_of_singleton u.4) ∙ or_zero_r u.0 in
      subst⁻¹ (λ (x : ℕ). T (F x)) g u.3),
)

-- one list and then another: all unions of both
pub joined-then : (F G H : Family) (l r : List ℕ) → Joined F l G → Joined G r H → Joined F (combine bit_or l r) H
joined-then F G H l r a b m h = (there, back)
  where
    there : T (H m) → Union F (combine bit_or l r) m
    there t =
        let u = (b m h).0 t in
        let v = (a u.0 u.2).0 u.3 in
        let small-g = right-small v.0 v.1 u.0 u.2 v.5 in
        let small-k = right-small u.0 u.1 m h u.5 in (
          v.0,
          bit_or v.1 u.1,
          v.2,
          v.3,
          combine-intro bit_or v.4 u.4,
          u.5 ∙ ap (λ (x : ℕ). bit_or x u.1) v.5 ∙ or_assoc v.0 v.1 u.1 v.2 small-g small-k,
        )

    back : Union F (combine bit_or l r) m → T (H m)
    back u =
        let c = combine-elim bit_or u.1 l r u.4 in
        let e : m ≡ bit_or u.0 (bit_or c.0 c.1) = u.5 ∙ ap (bit_or u.0) (sym c.4) in
        let both = right-small u.0 (bit_or c.0 c.1) m h e in
        let small-g = left-small c.0 c.1 (bit_or c.0 c.1) both refl in
        let small-k = right-small c.0 c.1 (bit_or c.0 c.1) both refl in
        let first = or_lt 14 u.0 c.0 u.2 small-g in
        let in_g = (a (bit_or u.0 c.0) first).1 (u.0, c.0, u.2, u.3, c.2, refl) in
        (b m h).1 (bit_or u.0 c.0, c.1, first, in_g, c.3, e ∙ sym (or_assoc u.0 c.0 c.1 u.2 small-g small-k))

-- either of two lists
pub joined-either : (F G H K : Family) (l r : List ℕ) → Joined F l G → Joined F r H → United G H K → Joined F (l ++ r) K
joined-either F G H K l r a b k m h = (there, back)
  where
    there : T (K m) → Union F (l ++ r) m
    there t =
        ⊎_elim {C = Union F (l ++ r) m}
        (λ x. let u = (a m h).0 x in (u.0, u.1, u.2, u.3, Memᴰ.append_left r u.4, u.5))
        (λ x. let u = (b m h).0 x in (u.0, u.1, u.2, u.3, Memᴰ.append_right l u.4, u.5))
        (or_cases (G m) (H m) (subst T (k m h) t))

    back : Union F (l ++ r) m → T (K m)
    back u =
        subst⁻¹ T (k m h)
        (⊎_elim
        (λ i. or_left (G m) (H m) ((a m h).1 (u.0, u.1, u.2, u.3, i, u.5)))
        (λ i. or_right (G m) (H m) ((b m h).1 (u.0, u.1, u.2, u.3, i, u.5)))
        (Memᴰ.append_cases l u.4))

-- what a family absorbs is absorbed after it was joined with something else
pub absorbs-on : (F G : Family) (a l : List ℕ) → Absorbs F a → Joined F l G → Absorbs G a
absorbs-on F G a l s j m h = (there, back)
  where
    there : T (G m) → Union G a m
    there t =
        let u = (j m h).0 t in
        let v = (s u.0 u.2).0 u.3 in
        let small-g = right-small u.0 u.1 m h u.5 in
        let small-k = right-small v.0 v.1 u.0 u.2 v.5 in
        let first = or_lt 14 v.0 u.1 v.2 small-g in (
          bit_or v.0 u.1,
          v.1,
          first,
          (j (bit_or v.0 u.1) first).1 (v.0, u.1, v.2, v.3, u.4, refl),
          v.4,
          u.5 ∙ ap (λ (x : ℕ). bit_or x u.1) v.5 ∙ or_swap v.0 v.1 u.1 v.2 small-k small-g,
        )

    back : Union G a m → T (G m)
    back u =
        let v = (j u.0 u.2).0 u.3 in
        let small-k = right-small u.0 u.1 m h u.5 in
        let small-g = right-small v.0 v.1 u.0 u.2 v.5 in
        let first = or_lt 14 v.0 u.1 v.2 small-k in
        (j m h).1 (
          bit_or v.0 u.1,
          v.1,
          first,
          (s (bit_or v.0 u.1) first).1 (v.0, u.1, v.2, v.3, u.4, refl),
          v.4,
          u.5 ∙ ap (λ (x : ℕ). bit_or x u.1) v.5 ∙ or_swap v.0 v.1 u.1 v.2 small-g small-k,
        )

-- what two families absorb, both in one absorb
pub absorbs-either : (F G H : Family) (a : List ℕ) → Absorbs F a → Absorbs G a → United F G H → Absorbs H a
absorbs-either F G H a s r k m h = (there, back)
  where
    there : T (H m) → Union H a m
    there t =
        ⊎_elim {C = Union H a m}
        (λ x. let u = (s m h).0 x in (u.0, u.1, u.2, subst⁻¹ T (k u.0 u.2) (or_left (F u.0) (G u.0) u.3), u.4, u.5))
        (λ x. let u = (r m h).0 x in (u.0, u.1, u.2, subst⁻¹ T (k u.0 u.2) (or_right (F u.0) (G u.0) u.3), u.4, u.5))
        (or_cases (F m) (G m) (subst T (k m h) t))

    back : Union H a m → T (H m)
    back u =
        subst⁻¹ T (k m h)
        (⊎_elim
        (λ x. or_left (F m) (G m) ((s m h).1 (u.0, u.1, u.2, x, u.4, u.5)))
        (λ x. or_right (F m) (G m) ((r m h).1 (u.0, u.1, u.2, x, u.4, u.5)))
        (or_cases (F u.0) (G u.0) (subst T (k u.0 u.2) u.3)))
