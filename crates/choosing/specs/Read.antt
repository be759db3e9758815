-- Choosing sheets read from bytes, and refusal 17. Request 1/13.
-- Assumes nothing.
use Rattle.std.specs.Prelude.{Bool, not, cond, ◌&&◌, List, [], ◌∷◌, ℕ, zero, suc, ◌+◌, ◌*◌, length, eqb, ltb, leb}
use Rattle.std.proofs.Math.Option.{Option, none, some, bind, map}
use Rattle.model.specs.Lists.{keep}
use Rattle.model.specs.Bytes.{byte, word}
use Rattle.model.specs.Contract.{actions, has}
use Rattle.model.specs.Sheet.{Reading, good, refusal, check, then, Refusal, plain, Trailer, trailer, stray_bit}
use Rattle.choosing.specs.Rows.{ChoosingRow, hides, opens, Choosing}

-- what was read, and where the next begins
pub record Part (A : Type 0) : Type 0 where
  pub value : A
  pub behind : ℕ

module _ (b : List ℕ) (t : Trailer) where
  -- `left` rows under one count, from i on: "rows under one count strictly ascend", each is one of the sheet's.
  -- `low` is the least number above the row before, at first 0.
  unfoldable pub targets_from : (left low i : ℕ) → Option (List ℕ)
  targets_from zero low i = some []
  targets_from (suc left) low i =
      let rest = map (λ (l : List ℕ). byte b i ∷ l) (targets_from left (suc (byte b i)) (i + 1)) in
      cond (leb low (byte b i) && ltb (byte b i) t.count) rest none

  -- a count, 1 to 8, and so many rows, all before the index
  unfoldable pub group_at : ℕ → Option (Part (List ℕ))
  group_at i =
      let count = byte b i in
      let rows =
      map {B = Part (List ℕ)} (λ (l : List ℕ). record { value = l; behind = i + 1 + count })
      (targets_from count 0 (i + 1)) in
      cond (ltb i t.index && (leb 1 count && (leb count 8 && leb (i + 1 + count) t.index))) rows none

  -- `left` counts with their rows, from i on
  unfoldable pub groups_from : (left i : ℕ) → Option (Part (List (List ℕ)))
  groups_from zero i = some (record { value = []; behind = i })
  groups_from (suc left) i =
      bind (group_at i)
      (λ g.
      map {B = Part (List (List ℕ))} (λ (r : Part (List (List ℕ))). record { value = g.value ∷ r.value; behind = r.behind })
      (groups_from left g.behind))

  -- "byte 0, the count of internal moves and the rows they lead to"
  unfoldable pub hiding_at : ℕ → Option (Part ChoosingRow)
  hiding_at i =
      map {B = Part ChoosingRow} (λ (g : Part (List ℕ)). record { value = hides g.value; behind = g.behind }) (group_at (i + 1))

  -- "or byte 1, a 16-bit mask of actions with names below n and, per action ascending, the count of successors and these"; the mask has
  -- no other bits, as in a sheet of role 0
  unfoldable pub open_at : ℕ → Option (Part ChoosingRow)
  open_at i =
      let mask = word b (i + 1) in
      let groups = groups_from (length (keep (has mask) actions)) (i + 3) in
      cond (leb (i + 3) t.index && not (stray_bit t.n 0 mask))
      (map {B = Part ChoosingRow} (λ (g : Part (List (List ℕ))). record { value = opens mask g.value; behind = g.behind })
      groups)
      none

  -- "A row is byte 0, ... or byte 1, ..."
  unfoldable pub choosing_row_at : ℕ → Option (Part ChoosingRow)
  choosing_row_at i =
      cond (ltb i t.index) (cond (eqb (byte b i) 0) (hiding_at i) (cond (eqb (byte b i) 1) (open_at i) none)) none

  -- "Rows, index and trailer lie as in a sheet": `left` rows from the q-th on, which the index must say to stand at i; the last ends where
  -- the index begins
  unfoldable pub rows_from : (left q i : ℕ) → Option (List ChoosingRow)
  rows_from zero q i = cond (eqb i t.index) (some []) none
  rows_from (suc left) q i =
      let rest =
      bind (choosing_row_at i) (λ p. map (λ (l : List ChoosingRow). p.value ∷ l) (rows_from left (suc q) p.behind)) in
      cond (eqb (word b (t.index + 2 * q)) i) rest none

-- "same trailer idea, role 0, closing byte C6, 1 to 32 rows"; n 0 to 7
unfoldable pub choosing_trailer : Trailer → Bool
choosing_trailer t = leb 1 t.count && (leb t.count 32 && (leb t.n 7 && (eqb t.role 0 && eqb t.closing 0xC6)))

-- a result, or a refusal
unfoldable pub or_refused : {A : Type 0} → Refusal → Option A → Reading Refusal A
or_refused e none = refusal e
or_refused e (some a) = good a

-- what is tested before the rows: the trailer, and the length that it says
unfoldable pub framed : List ℕ → Bool
framed b =
    let t = trailer b in
    leb 6 (length b) && (choosing_trailer t && eqb (t.index + 2 * t.count + 6) (length b))

-- the choosing sheet that bytes are; 17: "a choosing sheet of any other form"
unfoldable pub read_choosing : List ℕ → Reading Refusal Choosing
read_choosing b =
    let t = trailer b in
    check (framed b) (plain 17 0)
    (then (or_refused (plain 17 0) (rows_from b t t.count 0 0)) (λ rows. good (record { n = t.n; rows = rows })))
