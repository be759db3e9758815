-- The masks in the table of a choosing sheet are its ready sets: an open row's mask is below 16384, and a hiding row has no mask.
-- Assumes nothing.
use mathlib.Core.Path.{◌≡◌, refl, sym, ap, ◌∙◌}
use mathlib.Core.List.{List, [], ◌∷◌, ◌++◌, map, Memᴰ}
use Prim.Native.Nat.{ℕ, ◌<◌}
use native.Mathlib.Omega.{arith}
use lib.ListN.{length, get_or, get_or-map}
use lib.Seq.{get_or-take}
use lib.Dec.{ltb}
use borrow.Author.Tests.{lt-ltb}
use Rattle.model.specs.Lists.{keep, upto}
use Rattle.model.specs.Contract.{has}
use Rattle.model.proofs.Lists.{get_d_mem, keep-elim}
use Rattle.model.proofs.Actions.{upto-mem}
use Rattle.choosing.specs.Rows.{ChoosingRow, hides, opens, Choosing, row_in, mask_of, RowFormed, Formed}
use Rattle.nodes.specs.Sets.{gather, sorted}
use Rattle.choosing.specs.Tables.{mask_number, Tabled}
use Rattle.choosing.specs.Convert.{row_numbers, rows_of_set, closed, ready_sets}
use Rattle.choosing_sets.specs.Ready.{numbers_in, ready_in}

one-row : (n count : ℕ) (x : ChoosingRow) (rest : List ℕ) → RowFormed n count x
    → mask_of x ++ keep (λ m. ltb m 16384) rest ≡ keep (λ m. ltb m 16384) (mask_number x ∷ rest)
unfolding mask_of mask_number keep
one-row n count (hides l) rest formed = refl
one-row n count (opens mask l) rest formed = rw (lt-ltb mask 16384 formed.bits)

module _ {c : Choosing} {hidden masks targets : List ℕ} (formed : Formed c) (tabled : Tabled c hidden masks targets) where
  row_number : (r : ℕ) → r < length c.rows → get_or masks r 0 ≡ mask_number (row_in c r)
  unfolding row_in mask_number
  row_number r h =
      sym (get_or-take (length c.rows) masks r 0 h) ∙ ap (λ (l : List ℕ). get_or l r 0) tabled.masks_are
      ∙ get_or-map mask_number c.rows r (opens 0 [])

  row-formed : (r : ℕ) → r < length c.rows → RowFormed c.n (length c.rows) (row_in c r)
  unfolding row_in
  row-formed r h = formed.each (row_in c r) (get_d_mem c.rows r (opens 0 []) h)

  gather-masks : (l : List ℕ) → ((r : ℕ) → Memᴰ r l → r < length c.rows)
      → gather (λ r. mask_of (row_in c r)) l ≡ keep (λ m. ltb m 16384) (map (λ r. get_or masks r 0) l)
  unfolding gather keep
  gather-masks [] within = refl
  gather-masks (r ∷ l) within =
      let h = within r (Memᴰ.head refl) in
      ap (λ (k : List ℕ). mask_of (row_in c r) ++ k) (gather-masks l (λ q m. within q (Memᴰ.tail m)))
      ∙ one-row c.n (length c.rows) (row_in c r) (map (λ r. get_or masks r 0) l) (row-formed r h)
      ∙ ap (λ (m : ℕ). keep (λ m. ltb m 16384) (m ∷ map (λ r. get_or masks r 0) l)) (sym (row_number r h))

  -- the masks of the open rows of a set
  pub masks-of-set : (y : ℕ)
      → gather (λ r. mask_of (row_in c r)) (rows_of_set c y) ≡ keep (λ m. ltb m 16384) (numbers_in masks y (length c.rows))
  unfolding numbers_in rows_of_set row_numbers
  masks-of-set y =
      gather-masks (keep (has y) (upto 0 (length c.rows)))
      (λ r m. omega (arith, upto-mem (length c.rows) 0 r (keep-elim (has y) r (upto 0 (length c.rows)) m).0))

  pub ready-sets : (x : ℕ) → ready_sets c x ≡ ready_in masks (closed c x) (length c.rows)
  unfolding ready_sets ready_in
  ready-sets x = ap sorted (masks-of-set (closed c x))
