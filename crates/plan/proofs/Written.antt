-- The bytes of moves one behind the other: appending moves appends their bytes.
-- Assumes nothing.
use mathlib.Core.Path.{◌≡◌, refl}
use mathlib.Core.List.{List, [], ◌∷◌, ◌++◌, append_assoc}
use Rattle.model.specs.Plan.{Move, move_bytes}

pub moves-append : (row more : List Move) → move_bytes (row ++ more) ≡ move_bytes row ++ move_bytes more
unfolding move_bytes
moves-append [] more = refl
moves-append (m ∷ row) more = rw (moves-append row more, append_assoc)
