-- Bytes that were read one after the other stand one behind the other. Each list is built up from its first byte, and a number of two bytes
-- is written as these; where all bytes of a list stand, and there are no others, the list is what was read.
-- Assumes nothing.
use mathlib.Core.Path.{◌≡◌, sym, ap, ◌∙◌}
use mathlib.Core.List.{List, [], ◌∷◌, ◌++◌}
use Prim.Native.Nat.{ℕ, zero, suc, ◌+◌, ◌/◌, ◌%◌, ◌≤◌, ◌<◌}
use native.Mathlib.Omega.{arith}
use native.Mathlib.Nat.{add-zero, zero-add}
use lib.ListN.{length, get_or, take, drop, length-drop}
use lib.Seq.{ext_get_or, get_or-take, get_or-drop, length-take-le}
use Rattle.model.specs.Bytes.{byte, word, le16}
use Rattle.nodes.proofs.Bytes.{At, at_head, at_tail, at-cast}

module _ (b : List ℕ) where
  pub at_none : (i : ℕ) → At b i []
  at_none i j h = absurd (omega arith)

  pub at-cons : (i x : ℕ) (xs : List ℕ) → byte b i ≡ x → At b (i + 1) xs → At b i (x ∷ xs)
  unfolding byte
  at-cons i x xs e h zero l = ap (λ (n : ℕ). get_or b n 0) (add-zero i) ∙ e
  at-cons i x xs e h (suc j) l = ap (λ (n : ℕ). get_or b n 0) (omega arith) ∙ h j (omega arith)

  pub at-append : (i : ℕ) (xs ys : List ℕ) → At b i xs → At b (i + length xs) ys → At b i (xs ++ ys)
  at-append i [] ys h k = at-cast b (i + 0) i ys (omega arith) k
  at-append i (x ∷ xs) ys h k =
      at-cons i x (xs ++ ys) (at_head b i x xs h)
      (at-append (i + 1) xs ys (at_tail b i x xs h) (at-cast b (i + suc (length xs)) (i + 1 + length xs) ys (omega arith) k))

  -- a number read from two bytes
  pub at-16 : (i x : ℕ) → byte b i < 256 → byte b (i + 1) < 256 → word b i ≡ x → At b i (le16 x)
  unfolding word le16
  at-16 i x h k e =
      at-cons i (x % 256) (x / 256 % 256 ∷ []) (omega arith) (at-cons (i + 1) (x / 256 % 256) [] (omega arith) (at_none (i + 1 + 1)))

  -- all bytes from the front on
  pub at-whole : (xs : List ℕ) → At b 0 xs → length b ≡ length xs → b ≡ xs
  at-whole xs h e = ext_get_or 0 b xs e (λ i l. ap (λ (n : ℕ). get_or b n 0) (sym (zero-add i)) ∙ h i (omega arith))

  -- a part of the bytes
  pub at_part : (i : ℕ) (xs : List ℕ) → At b i xs → i + length xs ≤ length b → take (length xs) (drop i b) ≡ xs
  at_part i xs h inside =
      let long : length (take (length xs) (drop i b)) ≡ length xs = length-take-le (length xs) (drop i b) (omega (arith, length-drop i b)) in
      ext_get_or 0 (take (length xs) (drop i b)) xs long
      (λ j l. get_or-take (length xs) (drop i b) j 0 (omega arith) ∙ get_or-drop i b j 0 ∙ h j (omega arith))
