-- What a writer of a part of the plan asks for.
-- Assumes nothing.
use mathlib.Core.List.{List, Memᴰ}
use Rattle.std.specs.Prelude.{ℕ, ◌≤◌, length}
use Rattle.model.specs.Plan.{Move, row_bytes}
use Rattle.table.specs.declared.Record.{Record}
use Rattle.table.specs.Lists.{numbers_of}
use Rattle.table.specs.States.{SiftedTable}
use Rattle.lists.specs.Numbered.{Numbers}
use Rattle.numbering.specs.declared.write.Numbered.{Numbered}
use Rattle.numbering.specs.Table.{states_at, state_at, kept_row_at, kept_rows_at, NumberedTable}

-- bytes of the plan to write: its states are numbered, and the bytes fit into what is lent
pub record ToWrite (bytes : List ℕ) (count states : ℕ) (ys : List Record) (out : List ℕ) : Type 0 where
  pub table : NumberedTable count states ys
  pub room : length bytes ≤ length out

-- the row of situation i to write
pub record RowToWrite (count i : ℕ) (ys : List Record) (out : List ℕ) : Type 0 where
  pub sifted : SiftedTable count ys
  -- every state has its number
  pub numbers : Numbers count (states_at count ys) (numbers_of ys)
  -- the situation is a state
  pub state : Memᴰ i (states_at count ys)
  -- its row fits into what is lent
  pub room : length (row_bytes (kept_row_at count i ys)) ≤ length out

-- ---- the same of a table with its counts

-- the rows of its plan
abbrev pub rows_in : Numbered → List (List Move)
rows_in t = kept_rows_at t.count t.work.now

-- the row of state p
abbrev pub row_in : Numbered → ℕ → List Move
row_in t p = kept_row_at t.count (state_at t.count p t.work.now) t.work.now

-- bytes of its plan to write
abbrev pub PartToWrite : List ℕ → Numbered → List ℕ → Type 0
PartToWrite bytes t out = ToWrite bytes t.count t.states t.work.now out
