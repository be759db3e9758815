-- Sheets: what bytes say of a contract, or why they are refused. Document 01, "Contracts as sheets" and
-- "Refusals and their order".
-- Assumes nothing.
use Rattle.std.specs.Prelude.{Bool, true, false, ◌&&◌, ◌||◌, cond, List, [], ◌∷◌, ℕ, zero, suc, ◌+◌, ◌-◌, ◌*◌, length, eqb, ltb, leb}
use Rattle.model.specs.Lists.{any, keep, place}
use Rattle.model.specs.Bytes.{byte, word}
use Rattle.model.specs.Contract.{Contract, State, actions, has, name, offers_in}

-- a result, or what refuses it
pub data Reading (E A : Type 0) : Type 0 where
  good : A → Reading E A
  refusal : E → Reading E A

module _ {E A : Type 0} where
  -- goes on if the test passes
  unfoldable pub check : Bool → E → Reading E A → Reading E A
  check true e rest = rest
  check false e rest = refusal e

-- goes on with the result
unfoldable pub then : {E A B : Type 0} → Reading E A → (A → Reading E B) → Reading E B
then (good a) rest = rest a
then (refusal e) rest = refusal e

-- A fault of a sheet: its number in document 01's table, the state it is for, the offset of the byte at fault.
pub record Fault : Type 0 where
  pub number : ℕ
  pub state : ℕ
  pub offset : ℕ

-- the trailer: "16-bit offset of the index, state count (1 to 64), n (0 to 7), role (0 service, 1 client), byte C5 hex"
pub record Trailer : Type 0 where
  pub index : ℕ
  pub count : ℕ
  pub n : ℕ
  pub role : ℕ
  pub closing : ℕ

-- the last 6 bytes
unfoldable pub trailer : List ℕ → Trailer
trailer b =
    let end = length b in
    record {
      index = word b (end - 6);
      count = byte b (end - 4);
      n = byte b (end - 3);
      role = byte b (end - 2);
      closing = byte b (end - 1);
    }

-- 6: "a bit for no name, bit 15, or bit 14 in role 0"
unfoldable pub stray_bit : ℕ → ℕ → ℕ → Bool
stray_bit n role mask =
    any (λ j. has mask j && leb n (name j)) actions || has mask 15 || (has mask 14 && eqb role 0)

-- `count` 16-bit numbers as they stand from i on: masks
unfoldable pub words_from : List ℕ → (count i : ℕ) → List ℕ
words_from b zero i = []
words_from b (suc count) i = word b i ∷ words_from b count (i + 2)

-- 5: "masks not strictly ascending". The first mask that is not above the one before it, counted from 0, or how many masks
-- there are if they ascend. `least` is the least number above the mask before, at first 0.
unfoldable pub out_of_order : (least : ℕ) → List ℕ → ℕ
out_of_order least [] = zero
out_of_order least (mask ∷ masks) = cond (leb least mask) (suc (out_of_order (suc mask) masks)) zero

-- a row: its state, and where the next row begins
pub record Row : Type 0 where
  pub state : State
  pub behind : ℕ

module _ (b : List ℕ) (t : Trailer) where
  -- the masks of state q, `count` of them from i on; request 2/13 of document 02: "the bits of all masks in a row are
  -- tested" (6) "before the order of any" (5). Either fault names the first mask that has it. `least` is that of
  -- `out_of_order`, for a row 0.
  unfoldable pub masks_from : (q count least i : ℕ) → Reading Fault (List ℕ)
  masks_from q count least i =
      let masks = words_from b count i in
      let stray = place (stray_bit t.n t.role) masks in
      let low = out_of_order least masks in
      check (leb count stray) (record { number = 6; state = q; offset = i + 2 * stray })
      (check (leb count low) (record { number = 5; state = q; offset = i + 2 * low })
      (good masks))

  -- `left` successors from i on, those of state q; "each in range (7)"
  unfoldable pub successors_from : (q left i : ℕ) → Reading Fault (List ℕ)
  successors_from q zero i = good []
  successors_from q (suc left) i =
      check (ltb (byte b i) t.count) (record { number = 7; state = q; offset = i })
      (then (successors_from q left (i + 1)) (λ successors. good (byte b i ∷ successors)))

  -- what follows the masks of state q at i: "all successors present (4)", then the successors
  unfoldable pub row_with : (q i : ℕ) → List ℕ → Reading Fault Row
  row_with q i masks =
      let offered = length (keep (offers_in masks) actions) in
      check (leb (i + offered) t.index) (record { number = 4; state = q; offset = t.index })
      (then (successors_from q offered i)
      (λ successors. good (record { state = record { ready = masks; successors = successors }; behind = i + offered })))

  -- the row of state q at i: "count byte present (4); count (5); all masks present (4)", then masks and successors.
  -- Rows end at the index, so the first byte missing is the index's.
  unfoldable pub row_at : (q i : ℕ) → Reading Fault Row
  row_at q i =
      let count = byte b i in
      check (ltb i t.index) (record { number = 4; state = q; offset = t.index })
      (check (leb 1 count && leb count 8) (record { number = 5; state = q; offset = i })
      (check (leb (i + 1 + 2 * count) t.index) (record { number = 4; state = q; offset = t.index })
      (then (masks_from q count 0 (i + 1)) (row_with q (i + 1 + 2 * count)))))

  -- `left` states from q on, the next row at i: "index entry (4)", then the row; "A gap counts for the last state
  -- and comes after its other tests."
  unfoldable pub states_from : (left q i : ℕ) → Reading Fault (List State)
  states_from zero q i = check (eqb i t.index) (record { number = 4; state = q - 1; offset = i }) (good [])
  states_from (suc left) q i =
      check (eqb (word b (t.index + 2 * q)) i) (record { number = 4; state = q; offset = t.index + 2 * q })
      (then (row_at q i)
      (λ row. then (states_from left (suc q) row.behind) (λ states. good (row.state ∷ states))))

-- "an index with a 16-bit offset per state": where the row of state q begins
unfoldable pub row_start : List ℕ → ℕ → ℕ
row_start b q = word b ((trailer b).index + 2 * q)

-- what a sheet's bytes say: a contract and a role
pub record Sheet : Type 0 where
  pub contract : Contract
  pub role : ℕ

-- 2: "count, n, role or closing byte wrong"
unfoldable pub good_trailer : Trailer → Bool
good_trailer t = leb 1 t.count && leb t.count 64 && leb t.n 7 && leb t.role 1 && eqb t.closing 0xC5

-- the sheet that bytes are, or the first of refusals 1 to 7
unfoldable pub read_sheet : List ℕ → Reading Fault Sheet
read_sheet b =
    let t = trailer b in
    check (leb 6 (length b) && leb (length b) 2118) (record { number = 1; state = 0; offset = 0 })
    (check (good_trailer t) (record { number = 2; state = 0; offset = 0 })
    (check (eqb (t.index + 2 * t.count + 6) (length b)) (record { number = 3; state = 0; offset = 0 })
    (then (states_from b t t.count 0 0)
    (λ states. good (record { contract = record { n = t.n; states = states }; role = t.role })))))

-- the sheet that bytes are; one with no states where they are none
unfoldable pub sheet_of : Reading Fault Sheet → Sheet
sheet_of (good s) = s
sheet_of (refusal f) = record { contract = record { n = 0; states = [] }; role = 0 }

-- its contract
unfoldable pub contract_in : List ℕ → Contract
contract_in b = (sheet_of (read_sheet b)).contract

-- its role
unfoldable pub role_in : List ℕ → ℕ
role_in b = (sheet_of (read_sheet b)).role

-- A refusal of an entry point with two sheets: "A refusal 1 to 8 carries the sheet ..., others 0, and for 4 to 7 the
-- state (else 0)."
pub record Refusal : Type 0 where
  pub number : ℕ
  pub sheet : ℕ
  pub state : ℕ
  pub offset : ℕ

-- the reading of a sheet in a place
unfoldable pub in_place : ℕ → Reading Fault Sheet → Reading Refusal Sheet
in_place p (good s) = good s
in_place p (refusal f) = refusal (record { number = f.number; sheet = p; state = f.state; offset = f.offset })

-- a refusal with nothing but its number and sheet
unfoldable pub plain : ℕ → ℕ → Refusal
plain number sheet = record { number = number; sheet = sheet; state = 0; offset = 0 }

-- two contracts over the same names
pub record Both : Type 0 where
  pub one : Contract
  pub two : Contract

-- Two sheets, wanted in these roles: "sheet one 1 to 7, sheet two 1 to 7", then 8, "the first in the wrong role", then
-- 9, "the two sheets differ in n".
unfoldable pub read_both : (role₁ role₂ : ℕ) → List ℕ → List ℕ → Reading Refusal Both
read_both role₁ role₂ b₁ b₂ =
    then (in_place 1 (read_sheet b₁))
    (λ s₁. then (in_place 2 (read_sheet b₂))
    (λ s₂. check (eqb s₁.role role₁) (plain 8 1)
    (check (eqb s₂.role role₂) (plain 8 2)
    (check (eqb s₁.contract.n s₂.contract.n) (plain 9 0)
    (good (record { one = s₁.contract; two = s₂.contract }))))))
