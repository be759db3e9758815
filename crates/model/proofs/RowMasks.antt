-- The masks of a row, one at a time: what reading gives where the first of them has a stray bit, where it is out of order, and where it is
-- neither. By cases on the tests. And which of them the first one out of order is.
-- Assumes nothing.
use mathlib.Core.Path.{◌≡◌, refl, ap, ◌∙◌}
use mathlib.Core.Bool.{Bool, true, false, cond}
use mathlib.Core.List.{List, [], ◌∷◌}
use Prim.Native.Nat.{ℕ, zero, suc, ◌+◌, ◌*◌, ◌≤◌, ◌<◌}
use native.Mathlib.Omega.{arith}
use lib.ListN.{length, get_or}
use lib.Dec.{leb, leb-suc-zero, leb-suc-suc}
use borrow.Author.Tests.{leb-true, leb-false, le-leb, lt-leb}
use Rattle.model.specs.Lists.{place}
use Rattle.model.specs.Bytes.{word}
use Rattle.model.specs.Sheet.{Reading, good, refusal, check, then, Fault, Trailer, stray_bit, out_of_order, words_from, masks_from}

pub length-words : (b : List ℕ) (count i : ℕ) → length (words_from b count i) ≡ count
unfolding words_from
length-words b zero i = refl
length-words b (suc count) i = ap suc (length-words b count (i + 2))

pub words-place : (b : List ℕ) (count i k : ℕ) → k < count → get_or (words_from b count i) k 0 ≡ word b (i + 2 * k)
unfolding words_from
words-place b zero i k h = absurd (omega arith)
words-place b (suc count) i zero h = ap (word b) (omega arith)
words-place b (suc count) i (suc k) h = words-place b count (i + 2) k (omega arith) ∙ ap (word b) (omega arith)

-- the first of the masks that passes a test: the first one of all, or one behind it
module _ (b : List ℕ) (p : ℕ → Bool) (i left : ℕ) where
  pub first-here : p (word b i) ≡ true → place p (words_from b (suc left) i) ≡ 0
  unfolding place words_from
  first-here h = rw h refl

  pub first-later : p (word b i) ≡ false → place p (words_from b (suc left) i) ≡ suc (place p (words_from b left (i + 2)))
  unfolding place words_from
  first-later h = rw h refl

-- the first that is out of order, in the same way
module _ (b : List ℕ) (least i left : ℕ) where
  pub low-here : word b i < least → out_of_order least (words_from b (suc left) i) ≡ 0
  unfolding out_of_order words_from
  low-here h = rw (lt-leb least (word b i) h) refl

  pub low-later : least ≤ word b i
      → out_of_order least (words_from b (suc left) i) ≡ suc (out_of_order (suc (word b i)) (words_from b left (i + 2)))
  unfolding out_of_order words_from
  low-later h = rw (le-leb least (word b i) h) refl

-- a test that fails
check-fails : {E A : Type 0} (ok : Bool) (e : E) (r : Reading E A) → ok ≡ false → check ok e r ≡ refusal e
unfolding check
check-fails ok e r h = rw h refl

-- two tests one behind the other, of all masks and of all but the first
one-mask-more : {A : Type 0} (f g : Bool) (e₁ e₂ d₁ d₂ : Fault) (x : A) (l : List A) → e₁ ≡ d₁ → e₂ ≡ d₂
    → check f e₁ (check g e₂ (good (x ∷ l))) ≡ then (check f d₁ (check g d₂ (good l))) (λ rest. good (x ∷ rest))
unfolding check then
one-mask-more true true e₁ e₂ d₁ d₂ x l p r = refl
one-mask-more true false e₁ e₂ d₁ d₂ x l p r = ap refusal r
one-mask-more false g e₁ e₂ d₁ d₂ x l p r = ap refusal p

-- no masks
pub masks-end : (b : List ℕ) (t : Trailer) (q least i : ℕ) → masks_from b t q zero least i ≡ good []
unfolding masks_from words_from place out_of_order check
masks-end b t q least i = refl

module _ (b : List ℕ) (t : Trailer) (q least i left : ℕ) where
  -- the first mask has a stray bit: 6, and nothing else counts
  pub masks-stray : stray_bit t.n t.role (word b i) ≡ true
      → masks_from b t q (suc left) least i ≡ refusal (record { number = 6; state = q; offset = i })
  unfolding masks_from
  masks-stray h =
      let stray : ℕ = place (stray_bit t.n t.role) (words_from b (suc left) i) in
      let here : i + 2 * stray ≡ i = omega (arith, first-here b (stray_bit t.n t.role) i left h) in
      check-fails _ _ _ (lt-leb (suc left) stray (omega arith)) ∙ ap (λ o. refusal (record { number = 6; state = q; offset = o })) here

  -- the first mask is out of order: 6 at the first mask with a stray bit, or 5
  pub masks-low : word b i < least
      → masks_from b t q (suc left) least i
      ≡ (let stray = place (stray_bit t.n t.role) (words_from b (suc left) i) in
      check (leb (suc left) stray) (record { number = 6; state = q; offset = i + 2 * stray })
      (refusal (record { number = 5; state = q; offset = i })))
  unfolding masks_from words_from out_of_order check
  masks-low h =
      let here : i + 2 * 0 ≡ i = omega arith in
      rw (lt-leb least (word b i) h, leb-suc-zero left, here) refl

  -- it is neither: as the others say
  pub masks-more : stray_bit t.n t.role (word b i) ≡ false → least ≤ word b i
      → masks_from b t q (suc left) least i ≡ then (masks_from b t q left (suc (word b i)) (i + 2)) (λ masks. good (word b i ∷ masks))
  unfolding masks_from words_from out_of_order place
  masks-more clean up =
      let stray = place (stray_bit t.n t.role) (words_from b left (i + 2)) in
      let low = out_of_order (suc (word b i)) (words_from b left (i + 2)) in
      rw (clean, le-leb least (word b i) up, leb-suc-suc left stray, leb-suc-suc left low)
      (one-mask-more (leb left stray) (leb left low) _ _ _ _ (word b i) (words_from b left (i + 2))
      (ap (λ o. record { number = 6; state = q; offset = o }) (omega arith))
      (ap (λ o. record { number = 5; state = q; offset = o }) (omega arith)))

-- the first number out of order is not above the one before it
pub order-breaks : (least : ℕ) (l : List ℕ) (m : ℕ) → out_of_order least l ≡ suc m → suc m < length l → get_or l (suc m) 0 ≤ get_or l m 0
unfolding out_of_order
order-breaks least [] m e h = absurd (omega arith)
order-breaks least (x ∷ []) m e h = absurd (omega arith)
order-breaks least (x ∷ y ∷ l) zero e h = go (leb least x) (leb (suc x) y) refl e
  where
    go : (first second : Bool) → leb (suc x) y ≡ second → cond first (suc (cond second (suc (out_of_order (suc y) l)) zero)) zero ≡ 1 → y ≤ x
    go true true q e = absurd (omega arith)
    go true false q e = omega (arith, leb-false (suc x) y q)
    go false second q e = absurd (omega arith)
order-breaks least (x ∷ y ∷ l) (suc m) e h = go (leb least x) e (λ d. order-breaks (suc x) (y ∷ l) m d (omega arith))
  where
    go : (first : Bool) → cond first (suc (out_of_order (suc x) (y ∷ l))) zero ≡ suc (suc m)
        → (out_of_order (suc x) (y ∷ l) ≡ suc m → get_or (y ∷ l) (suc m) 0 ≤ get_or (y ∷ l) m 0) → get_or (y ∷ l) (suc m) 0 ≤ get_or (y ∷ l) m 0
    go true e rest = rest (omega arith)
    go false e rest = absurd (omega arith)

-- and those before it ascend
pub order-holds : (least : ℕ) (l : List ℕ) (m : ℕ) → suc m < out_of_order least l → get_or l m 0 < get_or l (suc m) 0
unfolding out_of_order
order-holds least [] m h = absurd (omega arith)
order-holds least (x ∷ []) m h = go (leb least x) h
  where
    go : (first : Bool) → suc m < cond first (suc zero) zero → get_or (x ∷ []) m 0 < get_or (x ∷ []) (suc m) 0
    go true h = absurd (omega arith)
    go false h = absurd (omega arith)
order-holds least (x ∷ y ∷ l) zero h = go (leb least x) (leb (suc x) y) refl h
  where
    go : (first second : Bool) → leb (suc x) y ≡ second → 1 < cond first (suc (cond second (suc (out_of_order (suc y) l)) zero)) zero → x < y
    go true true q h = omega (arith, leb-true (suc x) y q)
    go true false q h = absurd (omega arith)
    go false second q h = absurd (omega arith)
order-holds least (x ∷ y ∷ l) (suc m) h = go (leb least x) h (order-holds (suc x) (y ∷ l) m)
  where
    go : (first : Bool) → suc (suc m) < cond first (suc (out_of_order (suc x) (y ∷ l))) zero
        → (suc m < out_of_order (suc x) (y ∷ l) → get_or (y ∷ l) m 0 < get_or (y ∷ l) (suc m) 0) → get_or (y ∷ l) m 0 < get_or (y ∷ l) (suc m) 0
    go true h rest = rest (omega arith)
    go false h rest = absurd (omega arith)

-- the first of all is never out of order
pub order-begins : (l : List ℕ) → 0 < length l → 0 < out_of_order 0 l
unfolding out_of_order
order-begins [] h = absurd (omega arith)
order-begins (x ∷ l) h = rw (le-leb 0 x (omega arith)) (omega arith)
