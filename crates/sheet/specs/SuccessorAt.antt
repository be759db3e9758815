-- Where the successor of an action stands in a sheet: request 4/13 of document 02.
-- Assumes nothing.
use Rattle.std.specs.Prelude.{◌≡◌, true, List, ℕ, ◌+◌, ◌*◌, ◌<◌, length}
use Rattle.model.specs.Bytes.{byte}
use Rattle.model.specs.Contract.{State, state, offers, offered_below, after}
use Rattle.model.specs.Sheet.{Sheet, good, row_start, read_sheet}

-- "at the row's offset + 1 + 2 times its ready sets + the number of lower actions offered": of action j, the row of the state
-- being at an offset
unfoldable pub successor_place : ℕ → State → ℕ → ℕ
successor_place row s j = row + 1 + 2 * length s.ready + offered_below s j

-- "Show that it lies" there: of all bytes that are a sheet, each state in it and each action that the state offers, the successor
-- is the byte at this place, and the place is one of the sheet's. The row's offset is the state's entry in the index.
abbrev pub SuccessorAt : Type 0
SuccessorAt =
    (b : List ℕ) (s : Sheet) → read_sheet b ≡ good s
    → (q : ℕ) → q < length s.contract.states
    → (j : ℕ) → j < 14 → offers (state s.contract q) j ≡ true
    → (after (state s.contract q) j ≡ byte b (successor_place (row_start b q) (state s.contract q) j))
    × (successor_place (row_start b q) (state s.contract q) j < length b)
