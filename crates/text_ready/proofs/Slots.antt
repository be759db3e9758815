-- Parts of a list: some of its numbers, before and after a part was lent and came back with others; and the families of bodies, 256
-- numbers each, one behind the other.
-- Assumes nothing.
use mathlib.Core.Path.{◌≡◌, sym, ap, ◌∙◌}
use mathlib.Core.List.{List, ◌++◌}
use Prim.Native.Nat.{ℕ, ◌+◌, ◌-◌, ◌*◌, ◌≤◌}
use native.Mathlib.Omega.{arith}
use lib.ListN.{length, take, drop, length-drop, take-append-drop}
use lib.Seq.{length-take-le, take-append-le, drop-append-le, drop_at}
use borrow.Rule.Slice.PartMut.{put_mid, post_of}

module _ (a : ℕ) (xs : List ℕ) (fits : a ≤ length xs) where
  -- s of the first a numbers, whatever follows these
  front-part : (m s : ℕ) → m + s ≤ a → (l : List ℕ) → take s (drop m (take a xs ++ l)) ≡ take s (drop m (take a xs))
  front-part m s low l =
      let long = length-take-le a xs fits in
      ap (take s) (drop-append-le m (take a xs) l (omega (arith, long)))
      ∙ take-append-le s (drop m (take a xs)) l (omega (arith, length-drop m (take a xs), long))

  -- the same, in the whole list
  pub in_front : (m s : ℕ) → m + s ≤ a → take s (drop m (take a xs)) ≡ take s (drop m xs)
  in_front m s low =
      sym (front-part m s low (drop a xs)) ∙ ap (λ (l : List ℕ). take s (drop m l)) (take-append-drop a xs)

module _ (a k : ℕ) (xs zs : List ℕ) (fits : a ≤ length xs) where
  -- what begins where the part was lent
  pub put-here : drop a (put_mid a k xs zs) ≡ zs ++ post_of a k xs
  put-here = drop_at (take a xs) (zs ++ post_of a k xs) a (length-take-le a xs fits)

  -- s numbers before it
  pub put-below : (m s : ℕ) → m + s ≤ a → take s (drop m (put_mid a k xs zs)) ≡ take s (drop m xs)
  put-below m s low = front-part a xs fits m s low (zs ++ post_of a k xs) ∙ in_front a xs fits m s low

-- the numbers for rec r, as they are lent
pub slot_is : (r : ℕ) (held : List ℕ) → take (256 * r + 256 - 256 * r) (drop (256 * r) held) ≡ take 256 (drop (256 * r) held)
slot_is r held =
    let e : 256 * r + 256 - 256 * r ≡ 256 = omega arith in
    ap (λ (n : ℕ). take n (drop (256 * r) held)) e
