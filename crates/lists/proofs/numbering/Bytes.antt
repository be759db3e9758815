-- The plan's bytes row by row: one row more appends its bytes, and to the index an entry with the length of the rows before it.
-- Assumes nothing.
use mathlib.Core.Path.{◌≡◌, refl, sym, ap, ◌∙◌}
use mathlib.Core.List.{List, [], ◌∷◌, ◌++◌, append_assoc, append-nil}
use Prim.Native.Nat.{ℕ, ◌+◌, ◌*◌, ◌≤◌, ◌<◌}
use native.Mathlib.Omega.{arith}
use lib.ListN.{length, take, drop, length-append, take-append-drop}
use lib.Seq.{take_all}
use Rattle.model.specs.Bytes.{le32}
use Rattle.model.specs.Plan.{Move, row_bytes, rows_bytes, index_bytes, plan_bytes}
use Rattle.model.proofs.PlanBytes.{length-moves, length-plan}

-- ---- rows one behind the other

pub length-row : (row : List Move) → length (row_bytes row) ≡ 1 + 3 * length row
unfolding row_bytes
length-row row = omega (arith, length-moves row)

rows_append : (rows more : List (List Move)) → rows_bytes (rows ++ more) ≡ rows_bytes rows ++ rows_bytes more
unfolding rows_bytes
rows_append [] more = refl
rows_append (row ∷ rows) more = rw (rows_append rows more, append_assoc)

rows-one : (rows : List (List Move)) (row : List Move) → rows_bytes (rows ++ row ∷ []) ≡ rows_bytes rows ++ row_bytes row
rows-one rows row =
    rows_append rows (row ∷ []) ∙ (unfold rows_bytes in ap (λ (w : List ℕ). rows_bytes rows ++ w) (append-nil (row_bytes row)))

index-one : (i : ℕ) (rows : List (List Move)) (row : List Move)
    → index_bytes i (rows ++ row ∷ []) ≡ index_bytes i rows ++ le32 (i + length (rows_bytes rows))
unfolding index_bytes rows_bytes
index-one i [] row = append-nil (le32 i) ∙ ap le32 (omega arith)
index-one i (first ∷ rows) row =
    ap (λ (w : List ℕ). le32 i ++ w)
    (index-one (i + length (row_bytes first)) rows row
    ∙ ap (λ (n : ℕ). index_bytes (i + length (row_bytes first)) rows ++ le32 n)
    (omega (arith, length-append (row_bytes first) (rows_bytes rows))))
    ∙ sym (append_assoc (le32 i) (index_bytes (i + length (row_bytes first)) rows) (le32 (i + length (row_bytes first ++ rows_bytes rows))))

-- the first rows have no more bytes than all
pub rows_fit : (rows : List (List Move)) (p : ℕ) → length (rows_bytes (take p rows)) ≤ length (rows_bytes rows)
rows_fit rows p =
    omega (
      arith,
      ap length (ap rows_bytes (sym (take-append-drop p rows)) ∙ rows_append (take p rows) (drop p rows)),
      length-append (rows_bytes (take p rows)) (rows_bytes (drop p rows)),
    )

-- ---- the rows so far

-- the first p rows have `bytes` bytes, 127 each at most
pub record Measured (rows : List (List Move)) (p bytes : ℕ) : Type 0 where
  pub among : p ≤ length rows
  pub bytes-are : bytes ≡ length (rows_bytes (take p rows))
  pub small : bytes ≤ 127 * p

-- a row is the next one behind the first p, and has 42 moves at most
pub record NextRow (rows : List (List Move)) (p : ℕ) (row : List Move) : Type 0 where
  pub there : p < length rows
  pub next : take (p + 1) rows ≡ take p rows ++ row ∷ []
  pub few : length row ≤ 42

pub measured-none : (rows : List (List Move)) → Measured rows 0 0
unfolding rows_bytes
measured-none rows = record { among = omega arith; bytes-are = refl; small = omega arith }

module _ {rows : List (List Move)} {p : ℕ} {row : List Move} (is : NextRow rows p row) where
  pub rows_more : rows_bytes (take (p + 1) rows) ≡ rows_bytes (take p rows) ++ row_bytes row
  rows_more = ap rows_bytes is.next ∙ rows-one (take p rows) row

  pub index-more : index_bytes 0 (take (p + 1) rows) ≡ index_bytes 0 (take p rows) ++ le32 (length (rows_bytes (take p rows)))
  index-more =
      ap (index_bytes 0) is.next ∙ index-one 0 (take p rows) row
      ∙ ap (λ (n : ℕ). index_bytes 0 (take p rows) ++ le32 n) (omega arith)

  pub measured-more : {bytes size : ℕ} → Measured rows p bytes → size ≡ length (row_bytes row) → Measured rows (p + 1) (bytes + size)
  measured-more m e =
      record {
        among = omega (arith, is.there);
        bytes-are = omega (arith, ap length rows_more, length-append (rows_bytes (take p rows)) (row_bytes row), m.bytes-are);
        small = omega (arith, m.small, length-row row, is.few);
      }

pub rows_all : (rows : List (List Move)) {p : ℕ} → length rows ≤ p → take p rows ≡ rows
rows_all rows {p} h = take_all p rows h

module _ {rows : List (List Move)} {p bytes : ℕ} (m : Measured rows p bytes) (h : length rows ≤ p) where
  pub measured-rows : bytes ≡ length (rows_bytes rows)
  measured-rows = m.bytes-are ∙ ap (λ (r : List (List Move)). length (rows_bytes r)) (rows_all rows h)

  pub measured-plan : (n k : ℕ) → bytes + 4 * length rows + 8 ≡ length (plan_bytes n k rows)
  measured-plan n k = omega (arith, length-plan n k rows, measured-rows)
