-- Request 2/13 of document 02: which answers change. Document 01's own reading, from before the request, is kept here for these statements
-- alone. The statements are proved by `amended` and `pair-amended` of proofs/Amended.antt.
-- Assumes nothing.
use Rattle.std.specs.Prelude.{◌≡◌, Bool, true, false, not, ◌&&◌, ◌⊎◌, List, [], ◌∷◌, ℕ, zero, suc, ◌+◌, ◌-◌, ◌*◌, length, eqb, ltb, leb}
use Rattle.model.specs.Lists.{place}
use Rattle.model.specs.Bytes.{byte, word}
use Rattle.model.specs.Contract.{State}
use Rattle.model.specs.Sheet.{Reading, good, refusal, check, then, Fault, Trailer, trailer, good_trailer, stray_bit, out_of_order}
use Rattle.model.specs.Sheet.{words_from, Row, row_with, row_start, Sheet, read_sheet, in_place, plain, Refusal, Both, read_both}

-- ---- document 01 before the request

module _ (b : List ℕ) (t : Trailer) where
  -- `left` masks from i on, those of state q; "mask by mask, ascending (5) before bits (6)".
  -- `least` is the least number above the mask before, at first 0.
  unfoldable pub masks_before : (q left least i : ℕ) → Reading Fault (List ℕ)
  masks_before q zero least i = good []
  masks_before q (suc left) least i =
      let mask = word b i in
      check (leb least mask) (record { number = 5; state = q; offset = i })
      (check (not (stray_bit t.n t.role mask)) (record { number = 6; state = q; offset = i })
      (then (masks_before q left (suc mask) (i + 2)) (λ masks. good (mask ∷ masks))))

  -- rows, states and sheets with such masks; all else is as `row_at`, `states_from` and `read_sheet` have it
  unfoldable pub row_before : (q i : ℕ) → Reading Fault Row
  row_before q i =
      let count = byte b i in
      check (ltb i t.index) (record { number = 4; state = q; offset = t.index })
      (check (leb 1 count && leb count 8) (record { number = 5; state = q; offset = i })
      (check (leb (i + 1 + 2 * count) t.index) (record { number = 4; state = q; offset = t.index })
      (then (masks_before q count 0 (i + 1)) (row_with b t q (i + 1 + 2 * count)))))

  unfoldable pub states_before : (left q i : ℕ) → Reading Fault (List State)
  states_before zero q i = check (eqb i t.index) (record { number = 4; state = q - 1; offset = i }) (good [])
  states_before (suc left) q i =
      check (eqb (word b (t.index + 2 * q)) i) (record { number = 4; state = q; offset = t.index + 2 * q })
      (then (row_before q i)
      (λ row. then (states_before left (suc q) row.behind) (λ states. good (row.state ∷ states))))

unfoldable pub read_before : List ℕ → Reading Fault Sheet
read_before b =
    let t = trailer b in
    check (leb 6 (length b) && leb (length b) 2118) (record { number = 1; state = 0; offset = 0 })
    (check (good_trailer t) (record { number = 2; state = 0; offset = 0 })
    (check (eqb (t.index + 2 * t.count + 6) (length b)) (record { number = 3; state = 0; offset = 0 })
    (then (states_before b t t.count 0 0)
    (λ states. good (record { contract = record { n = t.n; states = states }; role = t.role })))))

-- ---- what changes

-- the masks of the row at i, as many as its count says
abbrev pub row_masks : List ℕ → ℕ → List ℕ
row_masks b i = words_from b (byte b i) (i + 1)

-- the first of them that is out of order, and the first that has a forbidden bit, counted from 0; the count if there is none
abbrev pub first_low : List ℕ → ℕ → ℕ
first_low b i = out_of_order 0 (row_masks b i)

abbrev pub first_stray : List ℕ → Trailer → ℕ → ℕ
first_stray b t i = place (stray_bit t.n t.role) (row_masks b i)

-- "a row whose first faulty mask is out of order and which has a forbidden bit in that mask or a later one": no mask with a forbidden bit
-- comes before the first one out of order, and there is one. Rows have at most 8 masks.
unfoldable pub goes_to_six : List ℕ → Trailer → ℕ → Bool
goes_to_six b t i =
    leb (byte b i) 8 && (leb (first_low b i) (first_stray b t i) && ltb (first_stray b t i) (byte b i))

-- 5 of state q, for the first mask out of order, and 6, for the first mask with a forbidden bit
abbrev pub five_of : List ℕ → ℕ → Fault
five_of b q = record { number = 5; state = q; offset = row_start b q + 1 + 2 * first_low b (row_start b q) }

abbrev pub six_of : List ℕ → ℕ → Fault
six_of b q = record { number = 6; state = q; offset = row_start b q + 1 + 2 * first_stray b (trailer b) (row_start b q) }

-- The answer is the same, and if it is a 5 the row that it is for is no such row.
pub record Same (b : List ℕ) : Type 0 where
  pub answer : read_sheet b ≡ read_before b
  pub no_such_row : (f : Fault) → read_before b ≡ refusal f → f.number ≡ 5
      → goes_to_six b (trailer b) (row_start b f.state) ≡ false

-- The first faulty row is such a row, and 5 became 6 of the same state.
pub record FiveToSix (b : List ℕ) : Type 0 where
  pub state : ℕ
  pub such_row : goes_to_six b (trailer b) (row_start b state) ≡ true
  pub before : read_before b ≡ refusal (five_of b state)
  pub now : read_sheet b ≡ refusal (six_of b state)

-- "Answers that change: a row whose first faulty mask is out of order and which has a forbidden bit in that mask or a later one goes from 5
-- to 6." For all bytes both readings agree in everything, or this is what changed.
abbrev pub Amended : Type 0
Amended = (b : List ℕ) → Same b ⊎ FiveToSix b

-- ---- two sheets, as connecting and the client check read them

-- what `read_both` does, with the readings of its two sheets
unfoldable pub both_of : (role₁ role₂ : ℕ) → Reading Fault Sheet → Reading Fault Sheet → Reading Refusal Both
both_of role₁ role₂ r₁ r₂ =
    then (in_place 1 r₁)
    (λ s₁. then (in_place 2 r₂)
    (λ s₂. check (eqb s₁.role role₁) (plain 8 1)
    (check (eqb s₂.role role₂) (plain 8 2)
    (check (eqb s₁.contract.n s₂.contract.n) (plain 9 0)
    (good (record { one = s₁.contract; two = s₂.contract }))))))

-- two sheets before the request
abbrev pub both_before : (role₁ role₂ : ℕ) → List ℕ → List ℕ → Reading Refusal Both
both_before role₁ role₂ b₁ b₂ = both_of role₁ role₂ (read_before b₁) (read_before b₂)

-- a fault of the sheet in a place
abbrev pub in_sheet : ℕ → Fault → Refusal
in_sheet p f = record { number = f.number; sheet = p; state = f.state; offset = f.offset }

-- 5 became 6 of the sheet in a place, whose bytes are b
pub record PairFiveToSix (p : ℕ) (b : List ℕ) (were are : Reading Refusal Both) : Type 0 where
  pub sheet : FiveToSix b
  pub before : were ≡ refusal (in_sheet p (five_of b sheet.state))
  pub now : are ≡ refusal (in_sheet p (six_of b sheet.state))

-- For all bytes two sheets are read as before, or 5 became 6 of the same state of the same sheet.
abbrev pub PairAmended : Type 0
PairAmended =
    (role₁ role₂ : ℕ) (b₁ b₂ : List ℕ)
    → (read_both role₁ role₂ b₁ b₂ ≡ both_before role₁ role₂ b₁ b₂)
    ⊎ (PairFiveToSix 1 b₁ (both_before role₁ role₂ b₁ b₂) (read_both role₁ role₂ b₁ b₂)
    ⊎ PairFiveToSix 2 b₂ (both_before role₁ role₂ b₁ b₂) (read_both role₁ role₂ b₁ b₂))
