-- A row is good if its codes ascend from 0 on and each move is good: one test after the other, move by move.
-- Assumes nothing.
use mathlib.Core.Path.{◌≡◌, refl, sym, ap, ◌∙◌}
use mathlib.Core.Bool.{Bool, true, false, ◌&&◌, and_assoc, and-false}
use mathlib.Core.List.{List, [], ◌∷◌}
use mathlib.Core.Option.{some, none}
use Prim.Native.Nat.{ℕ, zero, suc, ◌+◌, ◌-◌, ◌*◌, ◌<◌, ◌≤◌}
use native.Mathlib.Nat.{add-zero, sub-zero}
use native.Mathlib.Omega.{arith}
use native.Mathlib.Numerals.{add-one}
use lib.ListN.{length}
use lib.Dec.{ltb, leb, leb-zero}
use borrow.Author.Tests.{le-leb, lt-leb, eq-eqb, ne_eqb}
use Rattle.model.specs.Lists.{all}
use Rattle.model.specs.Bytes.{byte, word}
use Rattle.model.specs.Plan.{Move, held, ascending, good_row, read_moves}
use Rattle.plan.specs.Layout.{move_at, good_move}

pub length-read : (b : List ℕ) (i left : ℕ) → length (read_moves b i left) ≡ left
unfolding read_moves
length-read b i zero = refl
length-read b i (suc left) = ap suc (length-read b (i + 3) left)

-- the moves of a row from the i-th on, where all of them stand from `first` on, `size` of them
module _ (b : List ℕ) (first size : ℕ) where
  abbrev pub moves_from : ℕ → List Move
  moves_from i = read_moves b (first + 3 * i) (size - i)

  pub moves-all : read_moves b first size ≡ moves_from 0
  moves-all = rw (add-zero, sub-zero) refl

  pub moves-on : (i : ℕ) → i < size → moves_from i ≡ move_at b (first + 3 * i) ∷ moves_from (i + 1)
  unfolding read_moves move_at
  moves-on i h =
      let one : size - i ≡ suc (size - (i + 1)) = omega arith in
      let on : first + 3 * i + 3 ≡ first + 3 * (i + 1) = omega arith in
      rw (one, ← on) refl

  pub moves-end : (i : ℕ) → size ≤ i → moves_from i ≡ []
  unfolding read_moves
  moves-end i h = let none-left : size - i ≡ 0 = omega arith in rw none-left refl

regroup : (a g s t u : Bool) → (a && (g && (s && (t && u)))) ≡ (a && (s && t && (g && u)))
regroup false g s t u = refl
regroup true true s t u = sym (and_assoc s t u)
regroup true false s t u = sym (and-false (s && t))

module _ (n count : ℕ) where
  -- codes ascend from `low` on, and each move is good
  unfoldable pub good_from : ℕ → List Move → Bool
  good_from low [] = true
  good_from low (m ∷ row) = leb low m.code && (good_move n count m && good_from (suc m.code) row)

  -- the same with the three tests of `good_row` apart
  from_is : (low : ℕ) (m : Move) (row : List Move)
      → good_from low (m ∷ row) ≡ (leb low m.code && (ascending (m ∷ row) && all (good_move n count) (m ∷ row)))
  unfolding good_from ascending all
  from_is low m [] = refl
  from_is low m (l ∷ row) =
      rw (from_is (suc m.code) l row)
      (regroup (leb low m.code) (good_move n count m) (ltb m.code l.code) (ascending (l ∷ row)) (all (good_move n count) (l ∷ row)))

  good-is : (row : List Move) → (ascending row && all (good_move n count) row) ≡ good_from 0 row
  unfolding good_from ascending all
  good-is [] = refl
  good-is (m ∷ row) = sym (from_is 0 m row
      ∙ ap (λ (t : Bool). t && (ascending (m ∷ row) && all (good_move n count) (m ∷ row))) (leb-zero m.code))

  module _ (b : List ℕ) (i : ℕ) where
    pub good-long : (size : ℕ) → 42 < size → false ≡ good_row n count (read_moves b i size)
    unfolding good_row
    good-long size h = simp (length-read b i size, lt-leb _ _ h)

    pub good-short : (size : ℕ) → size ≤ 42 → good_row n count (read_moves b i size) ≡ good_from 0 (read_moves b i size)
    unfolding good_row good_move
    good-short size h = simp (length-read b i size, le-leb _ _ h) (good-is (read_moves b i size))

  -- move by move: the moves from the i-th on
  module _ (b : List ℕ) (first size : ℕ) where
    pub good_none : (low i : ℕ) → size ≤ i → good_from low (moves_from b first size i) ≡ true
    unfolding good_from
    good_none low i h = rw (moves-end b first size i h)

    pub good-low : (low i : ℕ) → i < size → byte b (first + 3 * i) < low → good_from low (moves_from b first size i) ≡ false
    unfolding good_from move_at
    good-low low i h l = rw (moves-on b first size i h) (simp (lt-leb _ _ l))

    pub good-bad : (low i : ℕ) → i < size → low ≤ byte b (first + 3 * i) → good_move n count (move_at b (first + 3 * i)) ≡ false
        → good_from low (moves_from b first size i) ≡ false
    unfolding good_from move_at
    good-bad low i h l g = rw (moves-on b first size i h) (simp (le-leb _ _ l, g))

    pub good_more : (low i : ℕ) → i < size → low ≤ byte b (first + 3 * i) → good_move n count (move_at b (first + 3 * i)) ≡ true
        → good_from low (moves_from b first size i) ≡ good_from (byte b (first + 3 * i) + 1) (moves_from b first size (i + 1))
    unfolding good_from move_at
    good_more low i h l g = rw (moves-on b first size i h, add-one (byte b (first + 3 * i))) (simp (le-leb _ _ l, g))

-- ---- the move with a code

module _ (b : List ℕ) (first size code : ℕ) where
  pub held_none : (i : ℕ) → size ≤ i → held (moves_from b first size i) code ≡ none
  unfolding held
  held_none i h = rw (moves-end b first size i h)

  pub held-here : (i : ℕ) → i < size → byte b (first + 3 * i) ≡ code
      → held (moves_from b first size i) code ≡ some (word b (first + 3 * i + 1))
  unfolding held move_at
  held-here i h e = rw (moves-on b first size i h) (simp (eq-eqb _ _ e))

  pub held_more : (i : ℕ) → i < size → (byte b (first + 3 * i) ≡ code → ⊥)
      → held (moves_from b first size i) code ≡ held (moves_from b first size (i + 1)) code
  unfolding held move_at
  held_more i h e = rw (moves-on b first size i h) (simp (ne_eqb _ _ e))
