-- A part of a list was lent and came back with other numbers: what stands there then, and what stands before and behind it.
-- Assumes nothing.
use mathlib.Core.Path.{◌≡◌, refl, ap, ◌∙◌}
use mathlib.Core.List.{List, [], ◌∷◌, ◌++◌}
use Prim.Native.Nat.{ℕ, zero, suc, ◌+◌, ◌-◌, ◌*◌, ◌≤◌}
use native.Mathlib.Omega.{arith}
use lib.ListN.{length, get_or, take, drop}
use lib.Seq.{take-append-le, take_at, get_or-drop, take_all}
use borrow.Rule.Slice.PartMut.{put_mid, mid_of, post_of}
use Rattle.little_endian.specs.Front.{front}
use Rattle.place_sets.specs.PlaceSets.{set_at}
use Rattle.place_sets.proofs.Numbers.{number-none}
use Rattle.text_ready.proofs.Slots.{put-here}

-- ---- masks: eight numbers for each place, and the rest of the list is lent

module _ (p : ℕ) (xs zs l : List ℕ) (fits : 8 * p ≤ length xs)
    (e : zs ≡ front (take 8 l) (mid_of (8 * p) (length xs - 8 * p) xs)) where
  -- up to eight numbers that are written
  pub masks-here : length l ≤ 8 → take (length l) (drop (8 * p) (put_mid (8 * p) (length xs - 8 * p) xs zs)) ≡ l
  unfolding front
  masks-here few =
      let k = length xs - 8 * p in
      let rest = drop (length l) (mid_of (8 * p) k xs) in
      let is : zs ≡ l ++ rest = e ∙ ap (λ (w : List ℕ). w ++ drop (length w) (mid_of (8 * p) k xs)) (take_all 8 l few) in
      ap (take (length l)) (put-here (8 * p) k xs zs fits ∙ ap (λ (w : List ℕ). w ++ post_of (8 * p) k xs) is)
      ∙ take-append-le (length l) (l ++ rest) (post_of (8 * p) k xs) (omega (arith, length-append-le l rest))
      ∙ take_at l rest (length l) refl
    where
      length-append-le : (v w : List ℕ) → length v ≤ length (v ++ w)
      length-append-le [] w = omega arith
      length-append-le (x ∷ v) w = omega (arith, length-append-le v w)

-- numbers that are all 0 hold empty sets
zero-front : (n : ℕ) (l : List ℕ) → ((i : ℕ) → get_or l i 0 ≡ 0) → (i : ℕ) → get_or (take n l) i 0 ≡ 0
zero-front zero l f i = refl
zero-front (suc n) [] f i = refl
zero-front (suc n) (x ∷ l) f zero = f 0
zero-front (suc n) (x ∷ l) f (suc i) = zero-front n l (λ j. f (suc j)) i

pub sets-empty : (l : List ℕ) → ((i : ℕ) → get_or l i 0 ≡ 0) → (p : ℕ) → set_at l p ≡ 0
unfolding set_at
sets-empty l f p =
    number-none (take 4 (drop (4 * p) l)) (zero-front 4 (drop (4 * p) l) (λ i. get_or-drop (4 * p) l i 0 ∙ f (4 * p + i)))
