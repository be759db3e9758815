-- The part of a state's row has the row's own bytes: its count, its masks and its successors stand one behind the other from where the index
-- says.
-- Assumes nothing.
use mathlib.Core.Path.{◌≡◌, sym, ap, ◌∙◌}
use mathlib.Core.List.{List, [], ◌∷◌, ◌++◌}
use Prim.Native.Nat.{ℕ, suc, ◌+◌, ◌*◌, ◌<◌}
use native.Mathlib.Omega.{arith}
use lib.ListN.{length, get_or, take, drop}
use Rattle.model.specs.Bytes.{byte, word, le16}
use Rattle.model.specs.Contract.{State, state, offers}
use Rattle.model.specs.Sheet.{good, Trailer, trailer, Sheet, read_sheet, row_start}
use Rattle.nodes.specs.SheetBytes.{mask_bytes, state_row_bytes}
use Rattle.nodes.proofs.Bytes.{At, at-cast, length-16}
use Rattle.nodes.proofs.Sheets.{length-masks, length-row}
use Rattle.nodes.proofs.Standing.{at_none, at-cons, at-append, at-16, at_part}
use Rattle.sheet.proofs.Rows.{RowStands}
use Rattle.sheet.proofs.Whole.{row-of}
use Rattle.named_row.specs.Row.{row_length}
use Rattle.named_row.proofs.Parts.{row_inside}

module _ (b : List ℕ) (small : (i : ℕ) → byte b i < 256) where
  masks-stand : (i : ℕ) (masks : List ℕ) → ((k : ℕ) → k < length masks → word b (i + 2 * k) ≡ get_or masks k 0) → At b i (mask_bytes masks)
  unfolding mask_bytes
  masks-stand i [] h = at_none b i
  masks-stand i (m ∷ masks) h =
      at-append b i (le16 m) (mask_bytes masks)
      (at-16 b i m (small i) (small (i + 1)) (let e : i ≡ i + 2 * 0 = omega arith in ap (word b) e ∙ h 0 (omega arith)))
      (at-cast b (i + 2) (i + length (le16 m)) (mask_bytes masks) (omega (arith, length-16 m))
      (masks-stand (i + 2) masks (λ k l. let e : i + 2 + 2 * k ≡ i + 2 * suc k = omega arith in ap (word b) e ∙ h (suc k) (omega arith))))

  row-stands-own : (t : Trailer) (i : ℕ) (s : State) → RowStands b t i s → At b i (state_row_bytes s)
  unfolding state_row_bytes byte
  row-stands-own t i s row =
      at-cons b i (length s.ready) (mask_bytes s.ready ++ s.successors) row.count
      (at-append b (i + 1) (mask_bytes s.ready) s.successors (masks-stand (i + 1) s.ready row.masks)
      (at-cast b (i + 1 + 2 * length s.ready) (i + 1 + length (mask_bytes s.ready)) s.successors (omega (arith, length-masks s.ready))
      row.successors))

  -- the part of a state's row has the bytes of that row
  pub row-own : (s : Sheet) (q : ℕ) → read_sheet b ≡ good s → q < length s.contract.states
      → take (row_length (state s.contract q)) (drop (row_start b q) b) ≡ state_row_bytes (state s.contract q)
  unfolding row_length offers
  row-own s q reads there =
      let x : State = state s.contract q in
      let row = row-of b s reads q there in
      let long : length (state_row_bytes x) ≡ row_length x = omega (arith, length-row x, row.offered) in
      ap (λ (n : ℕ). take n (drop (row_start b q) b)) (sym long)
      ∙ at_part b (row_start b q) (state_row_bytes x) (row-stands-own (trailer b) (row_start b q) x row) (omega (arith, row_inside b s q reads there))
