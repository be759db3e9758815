-- What the tables hold while a choosing sheet is read into them.
-- Assumes nothing.
use Rattle.std.specs.Prelude.{◌≡◌, Bool, true, false, cond, List, [], map, ℕ, ◌+◌, ◌*◌, ◌≤◌, ◌<◌, length, get_or, take, set}
use Rattle.std.specs.Prelude as C
use Rattle.std.proofs.Math.Option.{Option, some}
use Rattle.model.specs.Contract.{has}
use Rattle.model.specs.Sheet.{Trailer, good, refusal, plain}
use Rattle.choosing.specs.Rows.{ChoosingRow, opens, Choosing, hidden_of, targets_of}
use Rattle.choosing.specs.Read.{Part, group_at, rows_from, read_choosing}
use Rattle.nodes.specs.Sets.{set_of}
use Rattle.choosing.specs.Tables.{mask_number, Tabled}
use Rattle.choosing.specs.Fault.{fault_from}
use Rattle.choosing_rows.specs.Answers.{fault_in}

-- a trailer that passed its tests, over bytes of the right length
pub record TrailerPlaced (b : List ℕ) (t : Trailer) : Type 0 where
  pub some_row : 1 ≤ t.count
  pub few_rows : t.count ≤ 32
  pub few_names : t.n ≤ 7
  pub ends : t.index + 2 * t.count + 6 ≡ length b

-- no row is in a table of targets from a place on
abbrev pub BlankFrom : ℕ → List ℕ → Type 0
BlankFrom first targets = (p : ℕ) → first ≤ p → get_or targets p 0 ≡ 0

-- tables with room for 32 rows, and no target
pub record NoRows (hidden masks targets : List ℕ) : Type 0 where
  pub hidden_room : length hidden ≡ 32
  pub masks_room : length masks ≡ 32
  pub targets_room : length targets ≡ 448
  pub blank : BlankFrom 0 targets

-- action j of an open row with this mask: its count and rows, or no rows and no byte if it is not offered
unfoldable pub action_at : (b : List ℕ) (t : Trailer) (mask j i : ℕ) → Option (Part (List ℕ))
action_at b t mask j i = cond (has mask j) (group_at b t i) (some (record { value = []; behind = i }))

-- the targets of a row stand at the 14 places from `first` on, nothing behind them, and those before are as they were
pub record TargetsPut (x : ChoosingRow) (first : ℕ) (targets targets' : List ℕ) : Type 0 where
  pub here : (j : ℕ) → j < 14 → get_or targets' (first + j) 0 ≡ set_of (targets_of x j)
  pub before : (p : ℕ) → p < first → get_or targets' p 0 ≡ get_or targets p 0
  pub blank : BlankFrom (first + 14) targets'

-- the numbers of row r were put into the tables
pub record RowPut (x : ChoosingRow) (r : ℕ) (hidden masks targets hidden' masks' targets' : List ℕ) : Type 0 where
  pub hidden_put : hidden' ≡ set hidden r (set_of (hidden_of x))
  pub mask_put : masks' ≡ set masks r (mask_number x)
  pub targets_put : TargetsPut x (14 * r) targets targets'

-- room for row r and those behind it
pub record Room (r : ℕ) (hidden masks targets : List ℕ) : Type 0 where
  pub row : r < 32
  pub hidden_room : length hidden ≡ 32
  pub masks_room : length masks ≡ 32
  pub targets_room : length targets ≡ 448
  pub blank : BlankFrom (14 * r) targets

-- the tables hold some rows, the first of a sheet, and no target of any other
pub record RowsHeld (rows : List ChoosingRow) (hidden masks targets : List ℕ) : Type 0 where
  pub hidden_room : length hidden ≡ 32
  pub masks_room : length masks ≡ 32
  pub targets_room : length targets ≡ 448
  pub hidden_are : take (length rows) hidden ≡ map (λ (x : ChoosingRow). set_of (hidden_of x)) rows
  pub masks_are : take (length rows) masks ≡ map mask_number rows
  pub targets_are : (r j : ℕ) → r < length rows → j < 14 → get_or targets (14 * r + j) 0 ≡ set_of (targets_of (get_or rows r (opens 0 [])) j)
  pub blank : BlankFrom (14 * length rows) targets

-- the first of the rows of a sheet with this trailer that is at fault; if none is, all of them are in the tables
pub record AllRead (b : List ℕ) (t : Trailer) (answer : C.Option ℕ) (hidden masks targets : List ℕ) : Type 0 where
  pub answer_is : answer ≡ fault_in (fault_from b t t.count 0 0)
  pub all : answer ≡ C.None → (rows : List ChoosingRow) × (rows_from b t t.count 0 0 ≡ some rows) × RowsHeld rows hidden masks targets

-- whether bytes are a choosing sheet, and then its rows in the tables
pub record RowsRead (b : List ℕ) (answer : Bool) (hidden masks targets : List ℕ) : Type 0 where
  pub sheet : answer ≡ true → (c : Choosing) × (read_choosing b ≡ good c) × Tabled c hidden masks targets
  pub no_sheet : answer ≡ false → read_choosing b ≡ refusal (plain 17 0)
