-- The rows of a plan, place by place: what each test of `read_rows` decides, and where row p stands in bytes that pass.
-- Assumes nothing.
use mathlib.Core.Path.{◌≡◌, sym, ap, ◌∙◌}
use mathlib.Core.Bool.{Bool, true, false, cond, ◌&&◌, and-true}
use mathlib.Core.List.{List, []}
use mathlib.Core.Option.{some}
use Prim.Native.Nat.{ℕ, suc, ◌+◌, ◌-◌, ◌*◌, ◌<◌, ◌≤◌}
use native.Mathlib.Omega.{arith}
use native.Mathlib.Numerals.{add-one}
use lib.Dec.{eqb, leb}
use borrow.Author.Tests.{le-leb, lt-leb, eq-eqb, ne_eqb, eqb-true, leb-true}
use Rattle.model.specs.Bytes.{byte, dword}
use Rattle.model.specs.Plan.{good_row, read_moves, read_rows}
use Rattle.model.proofs.Lists.{both_true}
use Rattle.plan.specs.Layout.{is_some, good_place}
use Rattle.plan.proofs.Answers.{is_some_cond, is-some-map}

module _ (b : List ℕ) (index count n : ℕ) where
  module _ (p i : ℕ) where
    pub place-elsewhere : (dword b (index + 4 * p) ≡ i → ⊥) → false ≡ good_place b index count n p i
    unfolding good_place
    place-elsewhere h = simp (ne_eqb _ _ h)

    pub place-past : dword b (index + 4 * p) ≡ i → index < i + 1 + 3 * byte b i → false ≡ good_place b index count n p i
    unfolding good_place
    place-past h l = simp (eq-eqb _ _ h, lt-leb _ _ l)

    pub place-row : dword b (index + 4 * p) ≡ i → i + 1 + 3 * byte b i ≤ index
        → good_row n count (read_moves b (i + 1) (byte b i)) ≡ good_place b index count n p i
    unfolding good_place
    place-row h l = simp (eq-eqb _ _ h, le-leb _ _ l)

    -- a good place is the one that the index says, and its row ends before the index
    pub place-within : good_place b index count n p i ≡ true → (dword b (index + 4 * p) ≡ i) × (i + 1 + 3 * byte b i ≤ index)
    unfolding good_place
    place-within e =
        let says = eqb (dword b (index + 4 * p)) i in
        let ends = leb (i + 1 + 3 * byte b i) index in
        let w = both_true says ends (both_true (says && ends) (good_row n count (read_moves b (i + 1) (byte b i))) e).0 in
        (eqb-true _ _ w.0, leb-true _ _ w.1)

  rows_left : (left p i : ℕ) (good : Bool) → good_place b index count n p i ≡ good
      → is_some (read_rows b index count n (suc left) p i) ≡ cond good
      (is_some (read_rows b index count n left (suc p) (i + 1 + 3 * byte b i))) false
  unfolding read_rows good_place is_some
  rows_left left p i true e = rw e (is-some-map _ (read_rows b index count n left (suc p) (i + 1 + 3 * byte b i)))
  rows_left left p i false e = rw e

  module _ (rows p i : ℕ) where
    pub rows_end : rows ≤ p → is_some (read_rows b index count n (rows - p) p i) ≡ eqb i index
    unfolding read_rows is_some
    rows_end h = let e : rows - p ≡ 0 = omega arith in rw e (is_some_cond (eqb i index) (some []) ∙ and-true (eqb i index))

    pub rows-bad : p < rows → good_place b index count n p i ≡ false → is_some (read_rows b index count n (rows - p) p i) ≡ false
    rows-bad h g = let e : rows - p ≡ suc (rows - (p + 1)) = omega arith in rw e (rows_left (rows - (p + 1)) p i false g)

    pub rows_more : p < rows → good_place b index count n p i ≡ true
        → is_some (read_rows b index count n (rows - p) p i) ≡ is_some
        (read_rows b index count n (rows - (p + 1)) (p + 1) (i + 1 + 3 * byte b i))
    rows_more h g =
        let e : rows - p ≡ suc (rows - (p + 1)) = omega arith in
        rw e (rows_left (rows - (p + 1)) p i true g
        ∙ ap (λ (q : ℕ). is_some (read_rows b index count n (rows - (p + 1)) q (i + 1 + 3 * byte b i))) (sym (add-one p)))
