-- Bytes written at the front of what is lent, and then into the rest: the laws of `front`, by what is taken and dropped.
-- Assumes nothing.
use mathlib.Core.Path.{◌≡◌, refl, sym, ap, ap₂, ◌∙◌}
use mathlib.Core.List.{List, [], ◌∷◌, ◌++◌, append_assoc, append-nil}
use Prim.Native.Nat.{ℕ, ◌+◌, ◌-◌, ◌≤◌}
use native.Mathlib.Omega.{arith}
use lib.ListN.{length, set, take, drop, length-append, length-drop, drop_of_length-le}
use lib.Seq.{take_at, drop_at, drop-drop, take_all}
use borrow.Rule.Slice.PartMut.{put_mid, mid_of}
use Rattle.little_endian.specs.Front.{front}

pub length_front : (w xs : List ℕ) → length w ≤ length xs → length (front w xs) ≡ length xs
unfolding front
length_front w xs h = simp (length-append, length-drop) (omega arith)

-- nothing written
pub front-none : (xs : List ℕ) → front [] xs ≡ xs
unfolding front
front-none xs = refl

-- the rest of xs from `at` was lent, and came back with w at its front
module _ (at : ℕ) (xs w zs : List ℕ) (fits : at + length w ≤ length xs) (e : zs ≡ front w (mid_of at (length xs - at) xs)) where
  behind-none : drop (length xs - at) (drop at xs) ≡ []
  behind-none = let h : length (drop at xs) ≤ length xs - at = omega (arith, length-drop at xs) in drop_of_length-le (drop at xs) h

  rest_all : mid_of at (length xs - at) xs ≡ drop at xs
  rest_all = let h : length (drop at xs) ≤ length xs - at = omega (arith, length-drop at xs) in take_all (length xs - at) (drop at xs) h

  rest-is : put_mid at (length xs - at) xs zs ≡ (take at xs ++ w) ++ drop (at + length w) xs
  unfolding front
  rest-is = rw (behind-none, append-nil, e, rest_all, drop-drop, append_assoc)

drop_more : (at k : ℕ) (xs ys : List ℕ) → drop at xs ≡ drop at ys → drop (at + k) xs ≡ drop (at + k) ys
drop_more at k xs ys h = sym (drop-drop k at xs) ∙ ap (drop k) h ∙ drop-drop k at ys

-- v stands at the front, and w was written into the rest: v ++ w stands at the front
pub front-then : (at : ℕ) (xs ys v w zs : List ℕ) → ys ≡ front v xs → at ≡ length v → at + length w ≤ length xs
    → zs ≡ front w (mid_of at (length ys - at) ys) → put_mid at (length ys - at) ys zs ≡ front (v ++ w) xs
unfolding front
front-then at xs ys v w zs y a h e =
    let l : length ys ≡ length xs = ap length y ∙ length_front v xs (omega arith) in
    let t : take at ys ≡ v = ap (take at) y ∙ take_at v _ at (sym a) in
    let d : drop at ys ≡ drop at xs = ap (drop at) y ∙ drop_at v _ at (sym a) ∙ ap (λ (k : ℕ). drop k xs) (sym a) in
    let k : at + length w ≡ length (v ++ w) = omega (arith, length-append v w) in
    rest-is at ys w zs (omega arith) e ∙ ap₂ (λ (p q : List ℕ). (p ++ w) ++ q) t (drop_more at (length w) ys xs d)
    ∙ ap (λ (j : ℕ). (v ++ w) ++ drop j xs) k

-- ---- a single byte

pub put_one : (xs : List ℕ) (a : ℕ) → 1 ≤ length xs → set xs 0 a ≡ front (a ∷ []) xs
unfolding front
put_one [] a h = absurd (omega arith)
put_one (x ∷ xs) a h = refl
