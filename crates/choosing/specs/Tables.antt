-- The rows of a choosing sheet in numbers, as the code keeps them.
-- Assumes nothing.
use Rattle.std.specs.Prelude.{◌≡◌, List, map, ℕ, ◌+◌, ◌*◌, ◌<◌, length, get_or, take}
use Rattle.choosing.specs.Rows.{ChoosingRow, hides, opens, Choosing, row_in, hidden_of, targets_of}
use Rattle.nodes.specs.Sets.{set_of}

-- the mask of an open row; above all masks for a hiding one
unfoldable pub mask_number : ChoosingRow → ℕ
mask_number (hides l) = 16384
mask_number (opens mask l) = mask

-- Tables with room for 32 rows hold those of a choosing sheet: for each row the set of rows that internal moves lead to and its mask, and
-- at place 14·r+j the set of rows that action j leads to from row r.
pub record Tabled (c : Choosing) (hidden masks targets : List ℕ) : Type 0 where
  pub hidden_room : length hidden ≡ 32
  pub masks_room : length masks ≡ 32
  pub targets_room : length targets ≡ 448
  pub hidden_are : take (length c.rows) hidden ≡ map (λ (x : ChoosingRow). set_of (hidden_of x)) c.rows
  pub masks_are : take (length c.rows) masks ≡ map mask_number c.rows
  pub targets_are : (r j : ℕ) → r < length c.rows → j < 14 → get_or targets (14 * r + j) 0 ≡ set_of (targets_of (row_in c r) j)
