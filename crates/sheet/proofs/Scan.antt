-- Masks from place to place, as a loop over them sees it: the first that passes a test and the first out of order, with none left and with
-- one mask passed. Each is one step of a definition. Assumes nothing.
use mathlib.Core.Path.{◌≡◌, refl, sym, ap, ◌∙◌}
use mathlib.Core.Bool.{Bool, true, false, ◌&&◌}
use mathlib.Core.List.{List}
use Prim.Native.Nat.{ℕ, ◌+◌, ◌<◌, ◌≤◌}
use native.Mathlib.Omega.{arith}
use native.Mathlib.Numerals.{add-one}
use Rattle.std.specs.Prelude.{Option, Some, None}
use Rattle.std.specs.Bool.{then_some}
use Rattle.std.specs.Option.{MatchOption, option_or}
use lib.Dec.{ltb, leb}
use lib.ListN.{length, get_or, drop, drop_of_length-le}
use lib.Seq.{drop-cons}
use borrow.Author.Tests.{lt-ltb, le-ltb, ltb-true, ltb-false, lt-leb, le-leb, leb-true, leb-false}
use mir.Val.{bool_byte}
use Rattle.model.specs.Lists.{place}
use Rattle.model.specs.Sheet.{out_of_order}
use Rattle.sheet.specs.Answers.{found}

module _ (masks : List ℕ) (i : ℕ) where
  -- none left
  pub low-last : length masks ≤ i → (least : ℕ) → out_of_order least (drop i masks) ≡ 0
  unfolding out_of_order
  low-last h least = ap (out_of_order least) (drop_of_length-le masks h)

  -- one passed
  module _ (mask : ℕ) (m : mask ≡ get_or masks i 0) (h : i < length masks) where
    pub first-now : (p : ℕ → Bool) → p mask ≡ true → place p (drop i masks) ≡ 0
    unfolding place
    first-now p e = ap (place p) (drop-cons masks i 0 h) ∙ rw (← m, e) refl

    pub first-behind : (p : ℕ → Bool) → p mask ≡ false → place p (drop i masks) ≡ 1 + place p (drop (i + 1) masks)
    unfolding place
    first-behind p e = rw (add-one i) (ap (place p) (drop-cons masks i 0 h) ∙ rw (← m, e) (omega arith))

    pub low-now : (least : ℕ) → mask < least → out_of_order least (drop i masks) ≡ 0
    unfolding out_of_order
    low-now least l = ap (out_of_order least) (drop-cons masks i 0 h) ∙ rw (← m, lt-leb least mask l) refl

    pub low-behind : (least : ℕ) → least ≤ mask → out_of_order least (drop i masks) ≡ 1 + out_of_order (mask + 1) (drop (i + 1) masks)
    unfolding out_of_order
    low-behind least l =
        rw (add-one i, add-one mask) (ap (out_of_order least) (drop-cons masks i 0 h) ∙ rw (← m, le-leb least mask l) (omega arith))

-- ---- a place among so many
pub found-within : (count i : ℕ) → i < count → found count i ≡ Some i
found-within count i h = rw (lt-ltb i count h) refl

pub found-past : (count i : ℕ) → count ≤ i → found count i ≡ None
found-past count i h = rw (le-ltb i count h) refl

pub found-some : (count i k : ℕ) → found count i ≡ Some k → (k ≡ i) × (i < count)
found-some count i k e = go (ltb i count) refl e
  where
    go : (t : Bool) → ltb i count ≡ t → then_some t i ≡ Some k → (k ≡ i) × (i < count)
    go true h e = ((cc), ltb-true i count h)
    go false h e = cc

pub found-none : (count i : ℕ) → found count i ≡ None → count ≤ i
found-none count i e = go (ltb i count) refl e
  where
    go : (t : Bool) → ltb i count ≡ t → then_some t i ≡ None → count ≤ i
    go true h e = cc
    go false h e = ltb-false i count h

-- ---- the first mask out of order, as a loop has met it or not
-- where it was met, if the masks do not rise any more
abbrev pub met : Bool → ℕ → Option ℕ
met true low = None
met false low = Some low

-- with one mask passed: one more rises if it is not below the least number above the one before
pub met-on : (rising : Bool) (low i least mask more : ℕ) → (rising ≡ true → low ≡ i) → more ≡ bool_byte (rising && leb least mask)
    → met (rising && leb least mask) (low + more) ≡ option_or (met rising low) (then_some (ltb mask least) i)
met-on false low i least mask more all is = let none : more ≡ 0 = is in ap (λ (n : ℕ). Some n) (omega (arith, none))
met-on true low i least mask more all is = go (leb least mask) refl is
  where
    go : (t : Bool) → leb least mask ≡ t → more ≡ bool_byte t → met t (low + more) ≡ then_some (ltb mask least) i
    go true e is = rw (le-ltb mask least (leb-true least mask e)) refl
    go false e is =
        let none : more ≡ 0 = is in
        rw (lt-ltb mask least (leb-false least mask e)) (ap (λ (n : ℕ). Some n) (omega (arith, none, all refl)))

pub met-count : (rising t : Bool) (low i more : ℕ) → low ≤ i → (rising ≡ true → low ≡ i) → more ≡ bool_byte (rising && t)
    → (low + more ≤ i + 1) × (rising && t ≡ true → low + more ≡ i + 1)
met-count true true low i more few all is = let one : more ≡ 1 = is in (omega (arith, one, all refl), λ e. omega (arith, one, all refl))
met-count true false low i more few all is = let none : more ≡ 0 = is in (omega (arith, none), λ e. cc)
met-count false t low i more few all is = let none : more ≡ 0 = is in (omega (arith, none), λ e. cc)

module _ (masks : List ℕ) where
  -- it was met, or it is as far on as `least`, the least number above the mask before, says
  abbrev pub LowAt : (i least : ℕ) → Option ℕ → Type 0
  LowAt i least low =
      MatchOption low (out_of_order 0 masks ≡ i + out_of_order least (drop i masks)) (λ k. (k < length masks) × (out_of_order 0 masks ≡ k))

  pub low-on : (i least : ℕ) (low : Option ℕ) → LowAt i least low → (mask : ℕ) → mask ≡ get_or masks i 0 → i < length masks
      → LowAt (i + 1) (mask + 1) (option_or low (then_some (ltb mask least) i))
  low-on i least (Some k) at mask m h = at
  low-on i least None at mask m h = go (ltb mask least) refl
    where
      go : (t : Bool) → ltb mask least ≡ t → LowAt (i + 1) (mask + 1) (then_some t i)
      go true l = (h, omega (arith, low-now masks i mask m h least (ltb-true mask least l)))
      go false l = omega (arith, low-behind masks i mask m h least (ltb-false mask least l))

  pub low-ends : (i least : ℕ) (low : Option ℕ) → LowAt i least low → (count : ℕ) → length masks ≡ count → i ≡ count
      → low ≡ found count (out_of_order 0 masks)
  low-ends i least (Some k) at count n e = sym (found-within count (out_of_order 0 masks) (omega arith) ∙ ap (λ (n : ℕ). Some n) at.1)
  low-ends i least None at count n e = sym (found-past count (out_of_order 0 masks) (omega (arith, low-last masks i (omega arith) least)))
