-- The row of a state as the bytes of a plan hold it.
-- Assumes nothing.
use Rattle.std.specs.Prelude.{◌≡◌, List, [], ℕ, ◌+◌, ◌*◌, ◌≤◌, length, get_or}
use Rattle.model.specs.Plan.{read_moves, rows_in}
use Rattle.plan.specs.declared.Row.{Row}

-- the moves of the row stand within the bytes
pub record RowOf (b : List ℕ) (state : ℕ) (r : Row) : Type 0 where
  pub within : r.first + 3 * r.size ≤ length b
  pub moves : read_moves b r.first r.size ≡ get_or (rows_in b) state []
