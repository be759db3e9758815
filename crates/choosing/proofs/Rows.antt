-- Rows of the right form: they stay within the sheet, an open row's mask is what it does at first, and without a circle every row comes to
-- rest at an open one, as each internal move leaves fewer rows to lead to.
-- Assumes nothing.
use mathlib.Core.Path.{◌≡◌, refl, sym, subst, subst⁻¹, ◌∙◌}
use mathlib.Core.Bool.{Bool, true, false, cond, ◌&&◌}
use mathlib.Core.Logic.{◌⊎◌, inl, inr, ⊎_elim}
use mathlib.Core.List.Memᴰ
use mathlib.Core.List.{List, [], ◌∷◌, Memᴰ}
use Prim.Native.Nat.{ℕ, zero, suc, ◌≤◌, ◌<◌}
use native.Mathlib.Omega.{arith}
use lib.ListN.{length, get_or}
use lib.Dec.{T, ltb, ltb→lt}
use Rattle.model.specs.Lists.{keep, upto}
use Rattle.model.specs.Contract.{actions, has, name}
use Rattle.model.proofs.Lists.{and_both, is_true, keep-grows-strictly, get_d_mem}
use Rattle.model.proofs.Actions.{action, mem-upto}
use Rattle.model.proofs.Masks.{has-none}
use Rattle.nodes.proofs.Sets.{mask-same}
use Rattle.choosing.specs.Rows.{ChoosingRow, hides, opens, Choosing, row_in, hidden_of, mask_of, targets_of, OpenFormed, RowFormed, Formed}
use Rattle.nodes.specs.Transitions.{Silently, rests, goes_on, Stable, Initial}
use Rattle.choosing.specs.Transitions.{Hides, Does, Circle}
use Rattle.choosing.specs.Convert.{row_numbers, leads_of}
use Rattle.choosing.proofs.Leads.{leads-intro, leads-elim}

-- the first of a list that is not empty
some_first : {A : Type 0} (l : List A) → 1 ≤ length l → (x : A) × Memᴰ x l
some_first [] h = absurd (omega arith)
some_first (x ∷ l) h = (x, Memᴰ.head refl)

-- ---- what rows do

-- where an action leads somewhere, the row is open and its mask has it
pub does-has : (x : ChoosingRow) (j t : ℕ) → Memᴰ t (targets_of x j) → (mask : ℕ) × Memᴰ mask (mask_of x) × T (has mask j)
unfolding targets_of mask_of
does-has (hides l) j t m = absurd (Memᴰ.not-nil m)
does-has (opens mask l) j t m = (mask, Memᴰ.head refl, go (has mask j) m)
  where
    go : (b : Bool) → Memᴰ t (cond b (get_or l (length (keep (λ i. ltb i j && has mask i) actions)) []) []) → T b
    go true m = tt
    go false m = Memᴰ.not-nil m

module _ (n count : ℕ) where
  -- the successors of an action of an open row of the right form
  group-place : (mask : ℕ) (l : List (List ℕ)) → OpenFormed n count mask l → (j : ℕ) → j < 14 → T (has mask j)
      → Memᴰ (get_or l (length (keep (λ i. ltb i j && has mask i) actions)) []) l
  group-place mask l f j h t =
      let p : ℕ → Bool = λ i. ltb i j && has mask i in
      let below : length (keep p actions) < length (keep (has mask) actions) =
      keep-grows-strictly p (has mask) (λ i v. (and_both (ltb i j) (has mask i) v).1) (action j h)
      (λ v. omega (arith, ltb→lt j j (and_both (ltb j j) (has mask j) v).0)) t in
      get_d_mem l (length (keep p actions)) [] (omega (arith, f.each_action))

  -- an action of the mask of a row of the right form leads somewhere
  pub has-does : (x : ChoosingRow) → RowFormed n count x → (mask j : ℕ) → Memᴰ mask (mask_of x) → j < 14 → T (has mask j)
      → (t : ℕ) × Memᴰ t (targets_of x j)
  unfolding targets_of mask_of
  has-does (hides l) f mask j m h t = absurd (Memᴰ.not-nil m)
  has-does (opens own l) f mask j m h t =
      let u : T (has own j) = subst (λ (z : ℕ). T (has z j)) (Memᴰ.eq_of_singleton m) t in
      let k : List ℕ = get_or l (length (keep (λ i. ltb i j && has own i) actions)) [] in
      let w = some_first k (f.each k (group-place own l f j h u)).some_row in
      (w.0, subst⁻¹ (λ (b : Bool). Memᴰ w.0 (cond b k [])) (is_true (has own j) u) w.1)

  -- what a row of the right form leads to is within the sheet
  hidden-below : (x : ChoosingRow) → RowFormed n count x → (s : ℕ) → Memᴰ s (hidden_of x) → s < count
  unfolding hidden_of
  hidden-below (hides l) f s m = f.below s m
  hidden-below (opens mask l) f s m = absurd (Memᴰ.not-nil m)

  targets-below : (x : ChoosingRow) → RowFormed n count x → (j s : ℕ) → j < 14 → Memᴰ s (targets_of x j) → s < count
  unfolding targets_of
  targets-below (hides l) f j s h m = absurd (Memᴰ.not-nil m)
  targets-below (opens mask l) f j s h m = go (has mask j) (group-place mask l f j h) m
    where
      k : List ℕ
      k = get_or l (length (keep (λ i. ltb i j && has mask i) actions)) []

      go : (b : Bool) → (T b → Memᴰ k l) → Memᴰ s (cond b k []) → s < count
      go true g m = (f.each k (g tt)).below s m
      go false g m = absurd (Memᴰ.not-nil m)

  -- a row of the right form is open, or has an internal move
  open-or-hides : (x : ChoosingRow) → RowFormed n count x → ((mask : ℕ) × Memᴰ mask (mask_of x)) ⊎ ((s : ℕ) × Memᴰ s (hidden_of x))
  unfolding mask_of hidden_of
  open-or-hides (hides l) f = inr (some_first l f.some_row)
  open-or-hides (opens mask l) f = inl (mask, Memᴰ.head refl)

  pub mask-bits : (x : ChoosingRow) → RowFormed n count x → (R : ℕ) → Memᴰ R (mask_of x) → R < 16384
  unfolding mask_of
  mask-bits (hides l) f R m = absurd (Memᴰ.not-nil m)
  mask-bits (opens mask l) f R m = subst⁻¹ (λ (z : ℕ). z < 16384) (Memᴰ.eq_of_singleton m) f.bits

  pub mask-named : (x : ChoosingRow) → RowFormed n count x → (R j : ℕ) → Memᴰ R (mask_of x) → j < 14 → T (has R j) → name j < n
  unfolding mask_of
  mask-named (hides l) f R j m h t = absurd (Memᴰ.not-nil m)
  mask-named (opens mask l) f R j m h t = f.named j h (subst (λ (z : ℕ). T (has z j)) (Memᴰ.eq_of_singleton m) t)

open-stable : (x : ChoosingRow) (R s : ℕ) → Memᴰ R (mask_of x) → Memᴰ s (hidden_of x) → ⊥
unfolding mask_of hidden_of
open-stable (hides l) R s m k = Memᴰ.not-nil m
open-stable (opens mask l) R s m k = Memᴰ.not-nil k

one-mask : (x : ChoosingRow) (a b : ℕ) → Memᴰ a (mask_of x) → Memᴰ b (mask_of x) → a ≡ b
unfolding mask_of
one-mask (hides l) a b m k = absurd (Memᴰ.not-nil m)
one-mask (opens mask l) a b m k = Memᴰ.eq_of_singleton m ∙ sym (Memᴰ.eq_of_singleton k)

-- ---- every row of a sheet has the right form

end-formed : (n count : ℕ) → OpenFormed n count 0 []
unfolding has keep actions upto
end-formed n count =
    record {
      bits = omega arith;
      named = λ j h t. absurd (rw (has-none j) at t);
      each_action = refl;
      each = λ k m. absurd (Memᴰ.not-nil m);
    }

module _ (c : Choosing) (formed : Formed c) where
  abbrev count : ℕ
  count = length c.rows

  pub row-formed : (r : ℕ) → RowFormed c.n count (row_in c r)
  unfolding row_in
  row-formed r = go c.rows r formed.each
    where
      go : (l : List ChoosingRow) (r : ℕ) → ((x : ChoosingRow) → Memᴰ x l → RowFormed c.n (length c.rows) x)
          → RowFormed c.n (length c.rows) (get_or l r (opens 0 []))
      go [] r f = end-formed c.n (length c.rows)
      go (x ∷ l) zero f = f x (Memᴰ.head refl)
      go (x ∷ l) (suc r) f = go l r (λ y m. f y (Memᴰ.tail m))

  pub silently-within : {r s : ℕ} → r < count → Silently (Hides c) r s → s < count
  silently-within h (rests e) = subst (λ (x : ℕ). x < count) e h
  silently-within {r = r} h (goes_on {s = s} k w) = silently-within (hidden-below c.n count (row_in c r) (row-formed r) s k) w

  pub does-within : (r j s : ℕ) → j < 14 → Does c r j s → s < count
  does-within r j s h d = targets-below c.n count (row_in c r) (row-formed r) j s h d

  -- the rows that a row leads to
  abbrev led : ℕ → List ℕ
  led r = keep (has (get_or (leads_of c) r 0)) (row_numbers c)

  -- behind an internal move there are fewer
  fewer-led : (Circle c → ⊥) → (r s : ℕ) → Hides c r s → length (led s) < length (led r)
  unfolding row_numbers
  fewer-led calm r s h =
      keep-grows-strictly (has (get_or (leads_of c) s 0)) (has (get_or (leads_of c) r 0))
      (λ t u. let w = leads-elim c s t u in leads-intro c r s t h (goes_on w.1 w.2))
      (mem-upto count 0 s (omega arith) (omega (arith, hidden-below c.n count (row_in c r) (row-formed r) s h)))
      (λ u. let w = leads-elim c s s u in calm (s, w.0, w.1, w.2))
      (leads-intro c r s s h (rests refl))

  -- without a circle a row comes to rest at an open row
  comes-to-rest : (Circle c → ⊥) → (k r : ℕ) → length (led r) < k → (s mask : ℕ) × Silently (Hides c) r s × Memᴰ mask (mask_of (row_in c s))
  comes-to-rest calm zero r h = absurd (omega arith)
  comes-to-rest calm (suc k) r h =
      ⊎_elim (λ w. (r, w.0, rests refl, w.1))
      (λ w.
      let v = comes-to-rest calm k w.0 (omega (arith, fewer-led calm r w.0 w.1)) in
      (v.0, v.1, goes_on w.1 v.2, v.3))
      (open-or-hides c.n count (row_in c r) (row-formed r))

  pub rests-open : (Circle c → ⊥) → (r : ℕ) → (s mask : ℕ) × Silently (Hides c) r s × Memᴰ mask (mask_of (row_in c s))
  rests-open calm r = comes-to-rest calm (suc (length (led r))) r (omega arith)

  -- definition 2.5 of a row: it is stable and has this ready set exactly if it is open with this mask
  pub mask-initial : (s R : ℕ) → Memᴰ R (mask_of (row_in c s)) → Stable (Hides c) s × Initial (Hides c) (Does c) s R
  mask-initial s R m = (
    (λ t. open-stable (row_in c s) R t m),
    (
      mask-bits c.n count (row_in c s) (row-formed s) R m,
      λ j h. (
        (λ t. has-does c.n count (row_in c s) (row-formed s) R j m h t),
        (λ w.
            let v = does-has (row_in c s) j w.0 w.1 in
            subst (λ (z : ℕ). T (has z j)) (one-mask (row_in c s) v.0 R v.1 m) v.2),
      ),
    ),
  )

  pub initial-mask : (s R : ℕ) → Stable (Hides c) s → Initial (Hides c) (Does c) s R → Memᴰ R (mask_of (row_in c s))
  initial-mask s R st i =
      ⊎_elim
      (λ w.
      let v = (mask-initial s w.0 w.1).1 in
      subst⁻¹ (λ (z : ℕ). Memᴰ z (mask_of (row_in c s)))
      (mask-same R w.0 i.0 v.0 (λ j h t. (v.1 j h).1 ((i.1 j h).0 t)) (λ j h t. (i.1 j h).1 ((v.1 j h).0 t))) w.1)
      (λ w. absurd (st w.0 w.1))
      (open-or-hides c.n count (row_in c s) (row-formed s))
