-- What the entries for a row promise: the page that an auditor reads. Document 02, request 6/13; words in quotation marks are the request's,
-- or document 01's where that is said.
-- Assumes nothing.
use Rattle.std.specs.Prelude.{◌≡◌, ◌↔◌, ◌⊎◌, List, ℕ, ◌+◌, ◌≤◌, ◌<◌, length}
use Rattle.model.specs.Bytes.{byte}
use Rattle.model.specs.Contract.{state}
use Rattle.model.specs.Sheet.{Sheet, good, read_sheet, row_start, Refusal}
use Rattle.model.specs.AtFault.{Carries}
use Rattle.nodes.specs.SheetBytes.{state_row_bytes}
use Rattle.named_row.specs.Row.{Part, row_length, row_in, row_part_of, row_refusal_of, whole_of, cut}

module _ (first second : List ℕ) (sheet q : ℕ) where
  -- what the two entries give for these arguments
  abbrev pub refused : Refusal
  refused = row_refusal_of first second sheet q

  abbrev pub part : Part
  part = row_part_of first second sheet q

  -- the sheet that the part is of
  abbrev pub whole : List ℕ
  whole = whole_of part first second

  -- "Errors, in order"
  pub record RefusesRow : Type 0 where
    pub number : (refused.number ≤ 8) ⊎ (refused.number ≡ 15)
    -- "8 with sheet 0 for a sheet other than 1 or 2"
    pub unnamed : (refused.number ≡ 8) ↔ ((sheet ≡ 1 → ⊥) × (sheet ≡ 2 → ⊥))
    -- "1 to 7 if the named one is broken": what it is refused for by itself, with state and offset; the sheet is the one that is named
    pub carries : Carries first second refused
    pub named : 1 ≤ refused.number → refused.number ≤ 7 → refused.sheet ≡ sheet
    -- "15 for a state not in it": the named one is a sheet, with no more states than that
    pub no_state : refused.number ≡ 15
        → (s : Sheet) × (((sheet ≡ 1) × (read_sheet first ≡ good s)) ⊎ ((sheet ≡ 2) × (read_sheet second ≡ good s))) × (length s.contract.states ≤ q)
    -- 8 and 15 carry no sheet
    pub no_sheet : 8 ≤ refused.number → refused.sheet ≡ 0
    -- "each with an empty part of the first sheet"
    pub empty : (refused.number ≡ 0 → ⊥) → part ≡ record { sheet = 1; offset = 0; length = 0 }

  -- "hands back the row's own bytes from whichever of the two lent sheets is named": what holds where there is no refusal
  pub record HandsBack : Type 0 where
    -- the part is of the sheet that is named, a sheet with that state
    pub named : (sheet ≡ 1) ⊎ (sheet ≡ 2)
    pub of_named : part.sheet ≡ sheet
    pub read : Sheet
    pub reads : read_sheet whole ≡ good read
    pub there : q < length read.contract.states
    -- it begins where the index says, is as long as a row with so many ready sets and offered actions, and lies within the sheet
    pub begins : part.offset ≡ row_start whole q
    pub long : part.length ≡ row_length (state read.contract q)
    pub inside : part.offset + part.length ≤ length whole
    -- and its bytes are those of the state's row: "count of ready sets; each ready set as a 16-bit mask ...; one successor byte for each
    -- offered action" (document 01)
    pub own : ((i : ℕ) → byte whole i < 256) → cut part whole ≡ state_row_bytes (state read.contract q)

-- for all bytes and all numbers
abbrev pub RowRefuses : Type 0
RowRefuses = (first second : List ℕ) (sheet q : ℕ) → RefusesRow first second sheet q

abbrev pub RowHandsBack : Type 0
RowHandsBack = (first second : List ℕ) (sheet q : ℕ) → (row_refusal_of first second sheet q).number ≡ 0 → HandsBack first second sheet q

-- "the other sheet is not tested": whatever its bytes are, part and refusal are the same
pub record OtherNotTested : Type 0 where
  pub second : (first second other : List ℕ) (q : ℕ) → row_in first second 1 q ≡ row_in first other 1 q
  pub first : (first second other : List ℕ) (q : ℕ) → row_in first second 2 q ≡ row_in other second 2 q
