-- Bytes that are a sheet, and its states.
-- Assumes nothing.
use Rattle.std.specs.Prelude.{◌≡◌, List, ℕ, ◌<◌, length}
use Rattle.model.specs.Sheet.{Sheet, good, read_sheet, contract_in}

-- bytes that none of refusals 1 to 7 is given for
abbrev pub IsSheet : List ℕ → Type 0
IsSheet b = (s : Sheet) × (read_sheet b ≡ good s)

-- a state of a sheet
pub record IsState (b : List ℕ) (q : ℕ) : Type 0 where
  -- the bytes are a sheet
  pub sheet : IsSheet b
  -- and q is the number of one of its states
  pub state : q < length (contract_in b).states
