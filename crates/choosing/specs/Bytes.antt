-- The bytes of a choosing sheet. Request 1/13: "Rows, index and trailer lie as in a sheet."
-- Assumes nothing.
use Rattle.std.specs.Prelude.{List, [], ◌∷◌, ◌++◌, ℕ, length}
use Rattle.model.specs.Bytes.{le16}
use Rattle.nodes.specs.SheetBytes.{layout}
use Rattle.choosing.specs.Rows.{ChoosingRow, hides, opens, Choosing}

-- a count, and so many rows
unfoldable pub group_bytes : List ℕ → List ℕ
group_bytes l = length l ∷ l

-- the counts with their rows, one behind the other
unfoldable pub groups_bytes : List (List ℕ) → List ℕ
groups_bytes [] = []
groups_bytes (l ∷ groups) = group_bytes l ++ groups_bytes groups

-- "A row is byte 0, the count of internal moves and the rows they lead to, or byte 1, a 16-bit mask of actions ... and, per action
-- ascending, the count of successors and these"
unfoldable pub choosing_row_bytes : ChoosingRow → List ℕ
choosing_row_bytes (hides l) = 0 ∷ group_bytes l
choosing_row_bytes (opens mask l) = 1 ∷ (le16 mask ++ groups_bytes l)

-- "same trailer idea, role 0, closing byte C6"
unfoldable pub choosing_bytes : Choosing → List ℕ
choosing_bytes c = layout choosing_row_bytes c.n 0 0xC6 c.rows
