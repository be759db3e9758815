-- The rows are written one directly behind the other, and in the index an entry for each with the length of the rows before it.
-- Assumes nothing.
use mathlib.Core.Path.{◌≡◌, sym, ap, ◌∙◌}
use mathlib.Core.List.{List, ◌++◌}
use Prim.Native.Nat.{ℕ, ◌+◌, ◌*◌, ◌≤◌}
use native.Mathlib.Omega.{arith}
use lib.ListN.{length, take, length-append}
use lib.Seq.{length-take-le}
use Rattle.model.specs.Bytes.{le32}
use Rattle.model.specs.Plan.{Move, row_bytes, rows_bytes, index_bytes}
use Rattle.model.proofs.PlanBytes.{length-32, length-index}
use Rattle.little_endian.specs.Front.{front, Wrote}
use Rattle.walks.proofs.Rest.{rest_of, with_rest}
use Rattle.lists.proofs.numbering.Bytes.{Measured, NextRow, measured-none, measured-more, measured-rows, rows_more}
use Rattle.lists.proofs.numbering.Bytes.{index-more, rows_all, rows_fit}
use Rattle.little_endian.proofs.Writing.{wrote_none, wrote-length, wrote_then, rest-length}

-- ---- the rows

-- the first p rows are written, up to the place `at`
pub record WritingRows (rows : List (List Move)) (p at : ℕ) (first out : List ℕ) : Type 0 where
  pub measured : Measured rows p at
  pub wrote : Wrote (rows_bytes (take p rows)) at first out

pub rows-begun : (rows : List (List Move)) (first : List ℕ) → WritingRows rows 0 0 first first
unfolding rows_bytes
rows-begun rows first = record { measured = measured-none rows; wrote = wrote_none first }

module _ {rows : List (List Move)} {first out : List ℕ} {p at : ℕ} (room : length (rows_bytes rows) ≤ length first)
    (on : WritingRows rows p at first out) where
  rows-same-length : length out ≡ length first
  rows-same-length = wrote-length on.wrote (omega (arith, rows_fit rows p))

  pub rows-within : at ≤ length out
  rows-within = omega (arith, rows_fit rows p, on.wrote.size_is, rows-same-length)

  pub rows_written : {size : ℕ} → length rows ≤ p → size ≡ at → Wrote (rows_bytes rows) size first out
  rows_written h e = record {
    size_is = e ∙ measured-rows on.measured h;
    in_front = on.wrote.in_front ∙ ap (λ (r : List (List Move)). front (rows_bytes r) first) (rows_all rows h);
  }

  module _ {row : List Move} (next : NextRow rows p row) where
    row_fits : at + length (row_bytes row) ≤ length first
    row_fits =
        omega (
          arith,
          on.wrote.size_is,
          rows_fit rows (p + 1),
          ap length (rows_more next),
          length-append (rows_bytes (take p rows)) (row_bytes row),
        )

    pub row_room : length (row_bytes row) ≤ length (rest_of at out)
    row_room = omega (arith, row_fits, rows-same-length, rest-length out at)

    pub rows_next : {zs : List ℕ} {r : ℕ} → Wrote (row_bytes row) r (rest_of at out) zs
        → WritingRows rows (p + 1) (at + r) first (with_rest at out zs)
    rows_next w =
        record {
          measured = measured-more next on.measured w.size_is;
          wrote = wrote_then on.wrote w (sym (rows_more next)) row_fits;
        }

-- ---- the index

-- the entries of the first p rows are written, up to the place `at`, and the next row stands at `row`
pub record WritingIndex (rows : List (List Move)) (p row at : ℕ) (first out : List ℕ) : Type 0 where
  pub measured : Measured rows p row
  pub wrote : Wrote (index_bytes 0 (take p rows)) at first out

pub index-begun : (rows : List (List Move)) (first : List ℕ) → WritingIndex rows 0 0 0 first first
unfolding index_bytes
index-begun rows first = record { measured = measured-none rows; wrote = wrote_none first }

module _ {rows : List (List Move)} {first out : List ℕ} {p row at : ℕ} (room : length (index_bytes 0 rows) ≤ length first)
    (on : WritingIndex rows p row at first out) where
  entries : length (index_bytes 0 (take p rows)) ≡ 4 * p
  entries =
      let long : length (take p rows) ≡ p = length-take-le p rows on.measured.among in
      omega (arith, length-index 0 (take p rows))

  index-same-length : length out ≡ length first
  index-same-length = wrote-length on.wrote (omega (arith, entries, length-index 0 rows, on.measured.among))

  pub index-place : at ≡ 4 * p
  index-place = omega (arith, entries, on.wrote.size_is)

  pub index-within : at ≤ length out
  index-within = omega (arith, index-place, length-index 0 rows, on.measured.among, index-same-length)

  pub index-written : length rows ≤ p → out ≡ front (index_bytes 0 rows) first
  index-written h = on.wrote.in_front ∙ ap (λ (r : List (List Move)). front (index_bytes 0 r) first) (rows_all rows h)

  module _ {this : List Move} (next : NextRow rows p this) where
    entry-fits : at + 4 ≤ length first
    entry-fits = omega (arith, index-place, length-index 0 rows, next.there)

    pub entry-room : 4 ≤ length (rest_of at out)
    entry-room = omega (arith, entry-fits, index-same-length, rest-length out at)

    pub index-next : {zs : List ℕ} {r : ℕ} → zs ≡ front (le32 row) (rest_of at out) → r ≡ length (row_bytes this)
        → WritingIndex rows (p + 1) (row + r) (at + 4) first (with_rest at out zs)
    index-next z e =
        record {
          measured = measured-more next on.measured e;
          wrote = wrote_then on.wrote (record { size_is = sym (length-32 row); in_front = z })
              (ap (λ (n : ℕ). index_bytes 0 (take p rows) ++ le32 n) on.measured.bytes-are ∙ sym (index-more next))
              (omega (arith, entry-fits, length-32 row));
        }
