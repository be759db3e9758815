-- Choosing sheets as data: rows that move on by themselves, and rows with several successors for an action. Request 1/13.
-- Assumes nothing.
use Rattle.std.specs.Prelude.{◌≡◌, cond, ◌&&◌, ℕ, ◌≤◌, ◌<◌, length, get_or, T, ltb}
use mathlib.Core.List.{List, [], ◌∷◌, Memᴰ}
use Rattle.model.specs.Lists.{keep, Ascending}
use Rattle.model.specs.Contract.{actions, has, name}

-- "each either hiding (1 to 8 internal moves) or open (per offered action 1 to 8 successors; an open row with none is the end)": the rows
-- that internal moves lead to, or a mask of actions and, "per action ascending", the rows that it leads to
pub data ChoosingRow : Type 0 where
  hides : List ℕ → ChoosingRow
  opens : ℕ → List (List ℕ) → ChoosingRow

-- rows over the names 0 to n-1; row 0 is the start
pub record Choosing : Type 0 where
  pub n : ℕ
  pub rows : List ChoosingRow

-- the row with a number; the end if there is none
unfoldable pub row_in : Choosing → ℕ → ChoosingRow
row_in c r = get_or c.rows r (opens 0 [])

-- the rows that internal moves lead to
unfoldable pub hidden_of : ChoosingRow → List ℕ
hidden_of (hides l) = l
hidden_of (opens mask l) = []

-- the mask of an open row
unfoldable pub mask_of : ChoosingRow → List ℕ
mask_of (hides l) = []
mask_of (opens mask l) = mask ∷ []

-- the rows that an action leads to: its successors stand behind those of the lower actions offered
unfoldable pub targets_of : ChoosingRow → ℕ → List ℕ
targets_of (hides l) j = []
targets_of (opens mask l) j = cond (has mask j) (get_or l (length (keep (λ i. ltb i j && has mask i) actions)) []) []

-- ---- form

-- "1 to 8", "rows under one count strictly ascend", each one of the sheet's
pub record GroupFormed (count : ℕ) (l : List ℕ) : Type 0 where
  pub some_row : 1 ≤ length l
  pub few_rows : length l ≤ 8
  pub ascends : Ascending 0 l
  pub below : (r : ℕ) → Memᴰ r l → r < count

-- "a 16-bit mask of actions with names below n and, per action ascending, the count of successors and these"
pub record OpenFormed (n count mask : ℕ) (l : List (List ℕ)) : Type 0 where
  pub bits : mask < 16384
  pub named : (j : ℕ) → j < 14 → T (has mask j) → name j < n
  pub each_action : length l ≡ length (keep (has mask) actions)
  pub each : (k : List ℕ) → Memᴰ k l → GroupFormed count k

-- a row of the right form
abbrev pub RowFormed : (n count : ℕ) → ChoosingRow → Type 0
RowFormed n count (hides l) = GroupFormed count l
RowFormed n count (opens mask l) = OpenFormed n count mask l

-- "1 to 32 rows", n 0 to 7
pub record Formed (c : Choosing) : Type 0 where
  pub few_names : c.n ≤ 7
  pub some_row : 1 ≤ length c.rows
  pub few_rows : length c.rows ≤ 32
  pub each : (x : ChoosingRow) → Memᴰ x c.rows → RowFormed c.n (length c.rows) x
