-- The bytes of a sheet. Document 01, "Contracts as sheets": "A sheet is, with no gaps: the state rows; an index with a 16-bit offset per
-- state; a trailer of 6 bytes". The rows and the index of plans are others, in the model's Plan.
-- Assumes nothing.
use Rattle.std.specs.Prelude.{◌≡◌, false, ℕ, ◌+◌, ◌≤◌, ◌<◌, length}
use mathlib.Core.List.{List, [], ◌∷◌, ◌++◌, Memᴰ}
use Rattle.model.specs.Lists.{keep, Ascending}
use Rattle.model.specs.Bytes.{le16}
use Rattle.model.specs.Contract.{State, actions, offers_in}
use Rattle.model.specs.Sheet.{stray_bit}

-- ---- whatever a row is: "Rows, index and trailer lie as in a sheet", request 1/13 of a choosing sheet

module _ {R : Type 0} (bytes_of : R → List ℕ) where
  -- the rows of a sheet, one behind the other
  unfoldable pub layout_rows : List R → List ℕ
  layout_rows [] = []
  layout_rows (x ∷ rows) = bytes_of x ++ layout_rows rows

  -- "an index with a 16-bit offset per state": the offsets of a sheet's rows, the first of which is at i
  unfoldable pub layout_index : ℕ → List R → List ℕ
  layout_index i [] = []
  layout_index i (x ∷ rows) = le16 i ++ layout_index (i + length (bytes_of x)) rows

  -- "16-bit offset of the index, state count (1 to 64), n (0 to 7), role (0 service, 1 client), byte C5 hex"; a choosing sheet has the
  -- "same trailer idea", with another closing byte
  unfoldable pub layout : (n role closing : ℕ) → List R → List ℕ
  layout n role closing rows =
      layout_rows rows ++ (layout_index 0 rows ++ (le16 (length (layout_rows rows)) ++ length rows ∷ n ∷ role ∷ closing ∷ []))

-- ---- of states

-- "each ready set as a 16-bit mask"
unfoldable pub mask_bytes : List ℕ → List ℕ
mask_bytes [] = []
mask_bytes (m ∷ masks) = le16 m ++ mask_bytes masks

-- "A row is: count of ready sets; each ready set as a 16-bit mask ...; one successor byte for each offered action"
unfoldable pub state_row_bytes : State → List ℕ
state_row_bytes s = length s.ready ∷ (mask_bytes s.ready ++ s.successors)

-- rows, index, trailer, with the role and the closing byte of a sheet
unfoldable pub sheet_bytes : (n role : ℕ) → List State → List ℕ
sheet_bytes n role states = layout state_row_bytes n role 0xC5 states

-- A state that can be written, in a sheet of n names, a role and so many states: what refusals 5 to 7 ask.
pub record Writable (n role count : ℕ) (s : State) : Type 0 where
  -- 5: 1 to 8 ready sets, masks strictly ascending
  pub some_ready : 1 ≤ length s.ready
  pub few_ready : length s.ready ≤ 8
  pub ascends : Ascending 0 s.ready
  -- 6: no stray bit in a mask, each a 16-bit number
  pub clean : (m : ℕ) → Memᴰ m s.ready → stray_bit n role m ≡ false
  pub small : (m : ℕ) → Memᴰ m s.ready → m < 65536
  -- "one successor byte for each offered action"; 7: each a state of the sheet
  pub whole : length s.successors ≡ length (keep (offers_in s.ready) actions)
  pub within : (q : ℕ) → Memᴰ q s.successors → q < count
