-- Plans: their rows, their bytes, reading and stepping them. Document 01, "Which pairs connect" and "The client check
-- and the run".
-- Assumes nothing.
use Rattle.std.specs.Prelude.{Bool, true, false, cond, ◌&&◌, List, [], ◌∷◌, ◌++◌, map, ℕ, zero, suc, ◌+◌, ◌-◌, ◌*◌, length, get_or, eqb, ltb, leb}
use Rattle.std.proofs.Math.Option
use Rattle.std.proofs.Math.Option.{Option, none, some}
use Rattle.model.specs.Lists.{all, place}
use Rattle.model.specs.Bytes.{byte, word, dword, le16, le32}
use Rattle.model.specs.Contract.{name}
use Rattle.model.specs.Situation.{Kind, straight, client, service, stray, kind_of}
use Rattle.model.specs.Search.{search_from}
use Rattle.model.specs.Rounds.{moves_into, within}

-- "per move a code byte and a 16-bit next state"
pub record Move : Type 0 where
  pub code : ℕ
  pub to : ℕ

-- the next state that a row gives for a code, if the row holds it
unfoldable pub held : List Move → ℕ → Option ℕ
held [] code = none
held (m ∷ row) code = cond (eqb m.code code) (some m.to) (held row code)

-- ---- the rows

module _ {S : Type 0} (same : S → S → Bool) (codes : List ℕ) (next : S → ℕ → Option S) (kept : List S) (start : S) where
  -- "The plan's states are the situations reached from the start by kept moves, breadth first, codes ascending"
  unfoldable pub plan_states : List S
  plan_states = (search_from same codes (within same next kept) (length kept) start).done

  -- the plan state that a move leads to
  unfoldable pub target : Option S → ℕ
  target none = length plan_states
  target (some t) = place (same t) plan_states

  -- "a row holds all kept moves of its situation"
  unfoldable pub row_of : S → List Move
  row_of s = map (λ code. record { code = code; to = target (next s code) }) (moves_into same codes next kept s)

  -- a row for each state
  unfoldable pub plan_rows : List (List Move)
  plan_rows = map row_of plan_states

-- ---- the bytes: "rows ...; an index of 32-bit offsets; a trailer of 8 bytes: 32-bit offset of the index, 16-bit state
-- count (1 to 4,096), n (0 to 7), k (0 to 3). There are no gaps"

-- the moves of a row
unfoldable pub move_bytes : List Move → List ℕ
move_bytes [] = []
move_bytes (m ∷ row) = m.code ∷ (le16 m.to ++ move_bytes row)

-- "count of moves, at most 42; per move a code byte and a 16-bit next state, codes strictly ascending"
unfoldable pub row_bytes : List Move → List ℕ
row_bytes row = length row ∷ move_bytes row

-- the rows one behind the other
unfoldable pub rows_bytes : List (List Move) → List ℕ
rows_bytes [] = []
rows_bytes (row ∷ rows) = row_bytes row ++ rows_bytes rows

-- the offsets of rows, the first of which is at i
unfoldable pub index_bytes : ℕ → List (List Move) → List ℕ
index_bytes i [] = []
index_bytes i (row ∷ rows) = le32 i ++ index_bytes (i + length (row_bytes row)) rows

-- rows, index, trailer
unfoldable pub plan_bytes : ℕ → ℕ → List (List Move) → List ℕ
plan_bytes n k rows =
    rows_bytes rows ++ (index_bytes 0 rows ++ (le32 (length (rows_bytes rows)) ++ (le16 (length rows) ++ n ∷ k ∷ [])))

-- ---- reading

-- "each code is in a range above with a name below n"
unfoldable pub named_below : ℕ → Kind → Bool
named_below n (straight j) = ltb (name j) n
named_below n (client j) = ltb (name j) n
named_below n (service j) = ltb (name j) n
named_below n stray = false

-- "codes strictly ascending"
unfoldable pub ascending : List Move → Bool
ascending [] = true
ascending (m ∷ []) = true
ascending (m ∷ l ∷ row) =
    ltb m.code l.code && ascending (l ∷ row)

-- a row of a plan with `count` states over n names; "each next state is below the count"
unfoldable pub good_row : ℕ → ℕ → List Move → Bool
good_row n count row =
    leb (length row) 42 && ascending row && all (λ m. named_below n (kind_of m.code) && ltb m.to count) row

-- `left` moves from i on
unfoldable pub read_moves : List ℕ → (i left : ℕ) → List Move
read_moves b i zero = []
read_moves b i (suc left) = record { code = byte b i; to = word b (i + 1) } ∷ read_moves b (i + 3) left

module _ (b : List ℕ) (index count n : ℕ) where
  -- `left` rows from the p-th on, which the index must say to stand at i; they end at the index
  unfoldable pub read_rows : (left p i : ℕ) → Option (List (List Move))
  read_rows zero p i = cond (eqb i index) (some []) none
  read_rows (suc left) p i =
      let size = byte b i in
      let row = read_moves b (i + 1) size in
      let rest = Option.map (λ (rows : List (List Move)). row ∷ rows) (read_rows left (suc p) (i + 1 + 3 * size)) in
      cond (eqb (dword b (index + 4 * p)) i && leb (i + 1 + 3 * size) index && good_row n count row) rest none

-- what a plan's bytes say
pub record Plan : Type 0 where
  pub n : ℕ
  pub k : ℕ
  pub rows : List (List Move)

-- the plan with this trailer
unfoldable pub read_with : List ℕ → (index count n k : ℕ) → Option Plan
read_with b index count n k =
    let rows = Option.map {B = Plan} (λ (rs : List (List Move)). record { n = n; k = k; rows = rs }) (read_rows b index count n count 0 0) in
    cond (leb 8 (length b) && (leb 1 count && (leb count 4096 && (leb n 7 && (leb k 3 && eqb (index + 4 * count + 8) (length b)))))) rows none

-- the plan that bytes are, if they have the plan layout
unfoldable pub read_plan : List ℕ → Option Plan
read_plan b =
    let end = length b in
    read_with b (dword b (end - 8)) (word b (end - 4)) (byte b (end - 2)) (byte b (end - 1))

-- the rows of the plan that bytes are; none if they are no plan
unfoldable pub rows_of : Option Plan → List (List Move)
rows_of none = []
rows_of (some p) = p.rows

-- the same of bytes
unfoldable pub rows_in : List ℕ → List (List Move)
rows_in b = rows_of (read_plan b)

-- ---- stepping: "takes plan, state and code and gives the next state, or 0 with a refusal"; refusals 14, 15, 16

-- what stepping answers: a number, and the next state
pub record Stepped : Type 0 where
  pub number : ℕ
  pub state : ℕ

-- 16: "code not in that row"
unfoldable pub row_step : Option ℕ → Stepped
row_step none = record { number = 16; state = 0 }
row_step (some to) = record { number = 0; state = to }

-- 14: "a stepped plan breaks the plan layout"; 15: "not a state of the plan"; or what the row says
unfoldable pub step_in : Option Plan → ℕ → ℕ → Stepped
step_in none state code = record { number = 14; state = 0 }
step_in (some p) state code =
    cond (ltb state (length p.rows)) (row_step (held (get_or p.rows state []) code)) (record { number = 15; state = 0 })

-- the whole outcome of stepping
unfoldable pub step_of : List ℕ → ℕ → ℕ → Stepped
step_of b state code = step_in (read_plan b) state code
