-- The row of a state in whichever of two sheets is named: which part of that sheet it is, or why there is none. Document 02, request 6/13.
-- Words in quotation marks are the request's.
-- Assumes nothing.
use Rattle.std.specs.Prelude.{cond, List, ℕ, ◌+◌, ◌*◌, take, drop, eqb, ltb}
use Rattle.std.proofs.Math.ListN as list
use Rattle.model.specs.Lists.{keep}
use Rattle.model.specs.Contract.{State, actions, offers, state}
use Rattle.model.specs.Sheet.{Reading, good, refusal, check, then, read_sheet, row_start, Refusal, in_place, plain}

-- A part of one of two sheets: the sheet, the offset in it at which the part begins, and how long the part is.
pub record Part : Type 0 where
  pub sheet : ℕ
  pub offset : ℕ
  pub length : ℕ

-- "8 with sheet 0 for a sheet other than 1 or 2", or the bytes of the named one
unfoldable pub named_sheet : (first second : List ℕ) → ℕ → Reading Refusal (List ℕ)
named_sheet first second sheet = cond (eqb sheet 1) (good first) (cond (eqb sheet 2) (good second) (refusal (plain 8 0)))

-- the bytes of a state's row: "count of ready sets; each ready set as a 16-bit mask ...; one successor byte for each offered action"
-- (document 01)
unfoldable pub row_length : State → ℕ
row_length s = 1 + 2 * list.length s.ready + list.length (keep (offers s) actions)

-- "1 to 7 if the named one is broken, 15 for a state not in it": the row of state q in a sheet that is named by a number
unfoldable pub row_in_sheet : (sheet : ℕ) → List ℕ → (q : ℕ) → Reading Refusal Part
row_in_sheet sheet b q =
    then (in_place sheet (read_sheet b))
    (λ s. check (ltb q (list.length s.contract.states)) (plain 15 0)
    (good (record { sheet = sheet; offset = row_start b q; length = row_length (state s.contract q) })))

-- "Errors, in order"; "the other sheet is not tested"
unfoldable pub row_in : (first second : List ℕ) → (sheet q : ℕ) → Reading Refusal Part
row_in first second sheet q = then (named_sheet first second sheet) (λ b. row_in_sheet sheet b q)

-- what "hands back the row's own bytes": its part, and "each" error "with an empty part of the first sheet"
unfoldable pub part_or : Reading Refusal Part → Part
part_or (good p) = p
part_or (refusal r) = record { sheet = 1; offset = 0; length = 0 }

unfoldable pub row_part_of : (first second : List ℕ) → (sheet q : ℕ) → Part
row_part_of first second sheet q = part_or (row_in first second sheet q)

-- "a third gives the refusal for the same arguments"; the number 0 where there is none
unfoldable pub refusal_or : Reading Refusal Part → Refusal
refusal_or (good p) = plain 0 0
refusal_or (refusal r) = r

unfoldable pub row_refusal_of : (first second : List ℕ) → (sheet q : ℕ) → Refusal
row_refusal_of first second sheet q = refusal_or (row_in first second sheet q)

-- the one of two sheets that a part is of, and the part's bytes in it
unfoldable pub whole_of : {A : Type 0} → Part → (first second : A) → A
whole_of p first second = cond (eqb p.sheet 2) second first

unfoldable pub cut : Part → List ℕ → List ℕ
cut p b = take p.length (drop p.offset b)
