-- The tests that the reading of a plan makes, as answers of yes and no.
-- Assumes nothing.
use Rattle.std.specs.Prelude.{Bool, true, false, ◌&&◌, List, ℕ, ◌+◌, ◌*◌, eqb, ltb, leb}
use Rattle.std.proofs.Math.Option.{Option, none, some}
use Rattle.model.specs.Bytes.{byte, word, dword}
use Rattle.model.specs.Situation.{kind_of}
use Rattle.model.specs.Plan.{Move, named_below, good_row, read_moves}

-- whether a reading succeeds
unfoldable pub is_some : {A : Type 0} → Option A → Bool
is_some none = false
is_some (some a) = true

-- "per move a code byte and a 16-bit next state": the move at a place
unfoldable pub move_at : List ℕ → ℕ → Move
move_at b i = record { code = byte b i; to = word b (i + 1) }

-- "each code is in a range above with a name below n, each next state is below the count"
unfoldable pub good_move : ℕ → ℕ → Move → Bool
good_move n count m = named_below n (kind_of m.code) && ltb m.to count

-- "an index of 32-bit offsets"; "There are no gaps": row p stands at i, where the index says, and ends before the index
unfoldable pub good_place : List ℕ → (index count n p i : ℕ) → Bool
good_place b index count n p i =
    eqb (dword b (index + 4 * p)) i && leb (i + 1 + 3 * byte b i) index && good_row n count (read_moves b (i + 1) (byte b i))

-- "16-bit state count (1 to 4,096), n (0 to 7), k (0 to 3)"
unfoldable pub figures_in_range : (count n k : ℕ) → Bool
figures_in_range count n k =
    leb 1 count && (leb count 4096 && (leb n 7 && leb k 3))
