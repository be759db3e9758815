-- Rows, index and trailer as they lie in a sheet: each part stands behind the one before, whatever a row's bytes are, and the trailer's
-- numbers at their distances from the end.
-- Assumes nothing.
use mathlib.Core.Path.{◌≡◌, refl, ap}
use mathlib.Core.List.{List, [], ◌∷◌, ◌++◌}
use Prim.Native.Nat.{ℕ, ◌+◌, ◌-◌, ◌*◌, ◌<◌}
use native.Mathlib.Omega.{arith}
use native.Mathlib.Nat.{zero-add}
use lib.ListN.{length, get_or, length-append}
use Rattle.model.specs.Bytes.{le16}
use Rattle.model.specs.Sheet.{trailer}
use Rattle.nodes.specs.SheetBytes.{layout_rows, layout_index, layout}
use Rattle.nodes.proofs.Bytes.{At, at_left, at_right, at_head, at_tail, at-cast, at-word, length-16}

-- two bytes for each row
pub length-index : {R : Type 0} (bytes_of : R → List ℕ) (i : ℕ) (l : List R) → length (layout_index bytes_of i l) ≡ 2 * length l
unfolding layout_index
length-index bytes_of i [] = omega arith
length-index bytes_of i (x ∷ l) =
    let next : ℕ = i + length (bytes_of x) in
    omega (arith, length-append (le16 i) (layout_index bytes_of next l), length-16 i, length-index bytes_of next l)

module _ {R : Type 0} (bytes_of : R → List ℕ) (n role closing : ℕ) (states : List R) where
  -- the bytes of a sheet
  abbrev bytes : List ℕ
  bytes = layout bytes_of n role closing states

  -- its parts: rows, index, the trailer and its last four bytes
  abbrev rows : List ℕ
  rows = layout_rows bytes_of states

  abbrev index : List ℕ
  index = layout_index bytes_of 0 states

  abbrev last : List ℕ
  last = length states ∷ n ∷ role ∷ closing ∷ []

  abbrev trail : List ℕ
  trail = le16 (length rows) ++ last

  -- the trailer takes six bytes
  length-trail : length trail ≡ 6
  length-trail = omega (arith, length-append (le16 (length rows)) last, length-16 (length rows))

  -- so this is the length of a sheet
  pub length-layout : length (layout bytes_of n role closing states) ≡ length (layout_rows bytes_of states) + 2 * length states + 6
  unfolding layout
  length-layout = omega (arith, length-append rows (index ++ trail), length-append index trail, length-trail, length-index bytes_of 0 states)

  -- where each part stands, the next from the one before
  all-bytes : At bytes 0 (rows ++ (index ++ trail))
  unfolding layout
  all-bytes j l = ap (λ (m : ℕ). get_or bytes m 0) (zero-add j)

  at-index : At bytes (length rows) (index ++ trail)
  at-index = at-cast bytes (0 + length rows) (length rows) (index ++ trail) (omega arith) (at_right bytes 0 rows (index ++ trail) all-bytes)

  at-trail : At bytes (length bytes - 6) trail
  at-trail =
      at-cast bytes (length rows + length index) (length bytes - 6) trail (omega (arith, length-layout, length-index bytes_of 0 states))
      (at_right bytes (length rows) index trail at-index)

  at_last : At bytes (length bytes - 4) last
  at_last =
      at-cast bytes (length bytes - 6 + length (le16 (length rows))) (length bytes - 4) last
      (omega (arith, length-layout, length-16 (length rows)))
      (at_right bytes (length bytes - 6) (le16 (length rows)) last at-trail)

  at_n : At bytes (length bytes - 3) (n ∷ role ∷ closing ∷ [])
  at_n =
      at-cast bytes (length bytes - 4 + 1) (length bytes - 3) (n ∷ role ∷ closing ∷ []) (omega (arith, length-layout))
      (at_tail bytes (length bytes - 4) (length states) (n ∷ role ∷ closing ∷ []) at_last)

  at-role : At bytes (length bytes - 2) (role ∷ closing ∷ [])
  at-role =
      at-cast bytes (length bytes - 3 + 1) (length bytes - 2) (role ∷ closing ∷ []) (omega (arith, length-layout))
      (at_tail bytes (length bytes - 3) n (role ∷ closing ∷ []) at_n)

  at-closing : At bytes (length bytes - 1) (closing ∷ [])
  at-closing =
      at-cast bytes (length bytes - 2 + 1) (length bytes - 1) (closing ∷ []) (omega (arith, length-layout))
      (at_tail bytes (length bytes - 2) role (closing ∷ []) at-role)

  -- the trailer that is read
  pub trailer-is : length (layout_rows bytes_of states) < 65536
      → trailer (layout bytes_of n role closing states)
      ≡ record { index = length (layout_rows bytes_of states); count = length states; n = n; role = role; closing = closing }
  unfolding trailer
  trailer-is small =
      rw (
        at-word bytes (length bytes - 6) (length rows) (at_left bytes (length bytes - 6) (le16 (length rows)) last at-trail) small,
        at_head bytes (length bytes - 4) (length states) (n ∷ role ∷ closing ∷ []) at_last,
        at_head bytes (length bytes - 3) n (role ∷ closing ∷ []) at_n,
        at_head bytes (length bytes - 2) role (closing ∷ []) at-role,
        at_head bytes (length bytes - 1) closing [] at-closing,
      ) refl

  -- where rows and index stand
  pub rows_at : At (layout bytes_of n role closing states) 0 (layout_rows bytes_of states)
  rows_at = at_left bytes 0 rows (index ++ trail) all-bytes

  pub index_at : At (layout bytes_of n role closing states) (length (layout_rows bytes_of states)) (layout_index bytes_of 0 states)
  index_at = at_left bytes (length rows) index trail at-index
