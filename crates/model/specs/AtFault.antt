-- Request 6/13 of document 02: which byte of a sheet a refusal names, and which answers carry its offset. The statements are proved by
-- `byte-at-fault` of proofs/AtFault.antt and `carried` of proofs/Carried.antt. Words in quotation marks are the request's.
-- Assumes nothing.
use Rattle.std.specs.Prelude.{◌≡◌, true, false, ◌⊎◌, List, ℕ, zero, suc, ◌+◌, ◌*◌, ◌≤◌, ◌<◌, length}
use Rattle.model.specs.Lists.{keep}
use Rattle.model.specs.Bytes.{byte, word}
use Rattle.model.specs.Contract.{actions, offers_in}
use Rattle.model.specs.Sheet.{Fault, refusal, trailer, stray_bit, words_from, read_sheet, Refusal}
use Rattle.model.specs.Test.{Mode}
use Rattle.model.specs.Connect.{Answer, connect_of}
use Rattle.model.specs.Client.{Checked, complies_of}

-- ---- where rows stand

-- where mask m of a row begins, the row beginning at i
unfoldable pub mask_place : (i m : ℕ) → ℕ
mask_place i m = i + 1 + 2 * m

module _ (b : List ℕ) where
  -- of a row that begins at i, by its own count byte and masks: where its successors begin, how many there are, where it ends
  unfoldable pub behind_masks : ℕ → ℕ
  behind_masks i = mask_place i (byte b i)

  unfoldable pub successor_count : ℕ → ℕ
  successor_count i = length (keep (offers_in (words_from b (byte b i) (i + 1))) actions)

  unfoldable pub row_end : ℕ → ℕ
  row_end i = behind_masks i + successor_count i

  -- "with no gaps" (document 01): where the row of state q has to begin, directly behind those before it
  unfoldable pub row_place : ℕ → ℕ
  row_place zero = 0
  row_place (suc q) = row_end (row_place q)

  -- where the entry of state q begins in the index
  unfoldable pub entry_place : ℕ → ℕ
  entry_place q = (trailer b).index + 2 * q

-- ---- the byte at fault

-- What is wrong at the offset of a refusal 4 to 7, whose row has to begin at i.
pub data AtFault (b : List ℕ) (i : ℕ) (f : Fault) : Type 0 where
  -- "For 4 it is the index entry's offset if that entry is wrong"
  wrong_entry : f.number ≡ 4 → f.offset ≡ entry_place b f.state → (word b f.offset ≡ i → ⊥) → AtFault b i f
  -- "otherwise the first byte missing": rows end at the index, and this one would end behind the index's first byte
  missing : f.number ≡ 4 → word b (entry_place b f.state) ≡ i → f.offset ≡ (trailer b).index → f.offset < row_end b i → AtFault b i f
  -- "or left over": the first byte behind the last row, where the index does not begin yet
  left_over : f.number ≡ 4 → word b (entry_place b f.state) ≡ i → suc f.state ≡ (trailer b).count → f.offset ≡ row_end b i
      → f.offset < (trailer b).index → AtFault b i f
  -- "for 5 the count byte"
  wrong_count : f.number ≡ 5 → f.offset ≡ i → (byte b i < 1) ⊎ (8 < byte b i) → AtFault b i f
  -- "or the mask's first byte": the first mask that is not above the one before it
  low_mask : (m : ℕ) → f.number ≡ 5 → suc m < byte b i → f.offset ≡ mask_place i (suc m)
      → word b f.offset ≤ word b (mask_place i m)
      → ((l : ℕ) → l < m → word b (mask_place i l) < word b (mask_place i (suc l))) → AtFault b i f
  -- "for 6 the mask's first byte": the first mask with a forbidden bit
  stray_mask : (m : ℕ) → f.number ≡ 6 → m < byte b i → f.offset ≡ mask_place i m
      → stray_bit (trailer b).n (trailer b).role (word b f.offset) ≡ true
      → ((l : ℕ) → l < m → stray_bit (trailer b).n (trailer b).role (word b (mask_place i l)) ≡ false) → AtFault b i f
  -- "for 7 the successor": the first that is no state
  wrong_successor : (m : ℕ) → f.number ≡ 7 → m < successor_count b i → f.offset ≡ behind_masks b i + m
      → (trailer b).count ≤ byte b f.offset
      → ((l : ℕ) → l < m → byte b (behind_masks b i + l) < (trailer b).count) → AtFault b i f

-- What the refusal of a sheet says.
pub record Located (b : List ℕ) (f : Fault) : Type 0 where
  -- 1 to 3 are for the whole sheet
  pub whole : f.number < 4 → (f.state ≡ 0) × (f.offset ≡ 0)
  -- 4 to 7 are for a state, and for a byte that is there
  pub state : 4 ≤ f.number → f.state < (trailer b).count
  pub there : 4 ≤ f.number → f.offset < length b
  pub fault : 4 ≤ f.number → AtFault b (row_place b f.state) f

-- "The row finder must now give the offset of the byte at fault": for all bytes that are refused.
abbrev pub ByteAtFault : Type 0
ByteAtFault = (b : List ℕ) (f : Fault) → read_sheet b ≡ refusal f → Located b f

-- ---- the answers that carry it

-- the refusal of a sheet that an answer for two carries
unfoldable pub carried_fault : Refusal → Fault
carried_fault r = record { number = r.number; state = r.state; offset = r.offset }

-- What an answer for two sheets carries beside its number.
pub record Carries (first second : List ℕ) (r : Refusal) : Type 0 where
  -- of 1 to 7: the sheet, and what that sheet is refused for by itself
  pub own : 1 ≤ r.number → r.number ≤ 7
      → ((r.sheet ≡ 1) × (read_sheet first ≡ refusal (carried_fault r))) ⊎ ((r.sheet ≡ 2) × (read_sheet second ≡ refusal (carried_fault r)))
  -- "refusals 4 to 7 carry it beside the state, all others 0"
  pub others : (r.number < 4) ⊎ (7 < r.number) → (r.state ≡ 0) × (r.offset ≡ 0)

-- what an answer of connecting, and one of the client check, says of a refusal
unfoldable pub in_answer : Answer → Refusal
in_answer a = record { number = a.number; sheet = a.sheet; state = a.state; offset = a.offset }

unfoldable pub in_checked : Checked → Refusal
in_checked c = record { number = c.number; sheet = c.sheet; state = c.state; offset = c.offset }

-- "all its callers pass it on": connecting in either mode, and the client check
pub record Carried : Type 1 where
  pub connects : (R : Type 0) (blank : R) (mode : Mode) (k : ℕ) (old new : List ℕ) (work : List R) (plan : List ℕ)
      → Carries old new (in_answer (connect_of blank mode k old new work plan).answer)
  pub complies : (client service : List ℕ) → Carries client service (in_checked (complies_of client service))
