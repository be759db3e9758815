-- Finding a row step by step, as the code does: a number that names no sheet, a sheet that is refused, a state that is not in it, or the
-- row, which ends where its last successor does.
-- Assumes nothing.
use mathlib.Core.Path.{◌≡◌, refl, sym, ap, ◌∙◌}
use mathlib.Core.Bool.{Bool, true, false, cond}
use mathlib.Core.Logic.{◌⊎◌, inl, inr}
use mathlib.Core.List.{List}
use Rattle.std.specs.Prelude.{Result, Ok, Err}
use Rattle.std.specs.Result.{result_unwrap_or}
use Prim.Native.Nat.{ℕ, ◌+◌, ◌-◌, ◌^◌, ◌≤◌, ◌<◌}
use native.Mathlib.Omega.{arith}
use lib.ListN.{length}
use lib.Dec.{eqb, ltb→lt}
use borrow.Author.Tests.{lt-ltb, le-ltb, eq-eqb, ne_eqb, eqb-true}
use Rattle.model.specs.Contract.{state, offers}
use Rattle.model.specs.Sheet.{Reading, good, refusal, check, then, Sheet, read_sheet, row_start, contract_in, Refusal, in_place, plain}
use Rattle.model.proofs.Sheet.{never-good, good-injective, check-good, then-good, place-good}
use Rattle.sheet.specs.Answers.{reading_of, on_result, whole}
use Rattle.sheet.specs.Offer.{offer_in, place_in}
use Rattle.sheet.specs.Whole.{IsSheet, IsState}
use Rattle.sheet.specs.declared.Offer.{Offer}
use Rattle.sheet.proofs.Answers.{was-refusal, answered-ok, answered-err}
use Rattle.sheet.proofs.Ones.{ones-few, ones-offered}
use Rattle.sheet.proofs.Whole.{is_read, sheet-stands, row-stands, row_within}
use Rattle.named_row.specs.Row as row
use Rattle.named_row.specs.Row.{named_sheet, row_length, row_in_sheet, row_in, part_or, row_part_of, refusal_or, row_refusal_of, whole_of}
use Rattle.named_row.specs.Answers.{part_of, refusal_of, why_of}
use Rattle.named_row.specs.declared.Part.{Part}
use Rattle.named_row.specs.declared.RowRefusal.{RowRefusal}
use Rattle.named_row.specs.declared.Why.{Why}
use Rattle.named_row.specs.declared.Why.TheVariants as W

-- ---- the row of a state

module _ {b : List ℕ} {q : ℕ} (at : IsState b q) where
  pub row_fits : row_start b q + row_length (state (contract_in b) q) ≤ length b
  unfolding row_length offers
  row_fits = omega (arith, row_within at, (row-stands at).offered)

  pub row-short : row_start b q + row_length (state (contract_in b) q) ≤ 2118
  row-short = omega (arith, row_fits, (sheet-stands b at.sheet).short)

  -- the place behind its last successor
  row-end : {o : Offer} → o ≡ offer_in b q → place_in o 14 ≡ row_start b q + row_length (state (contract_in b) q)
  unfolding place_in offer_in row_length offers
  row-end e = ap (λ (o : Offer). place_in o 14) e ∙ omega (arith, ones-offered (state (contract_in b) q).ready)

  -- no place in the row is far off
  pub place-small : {o : Offer} (j : ℕ) → j ≤ 16 → o ≡ offer_in b q → place_in o j < 2 ^ 64
  unfolding place_in offer_in row_length
  place-small {o} j h e = omega (arith, ones-few o.actions j, ap (λ (x : Offer). x.successors) e, row-short)

  -- where it begins and how far it goes to there
  module _ {begin end : ℕ} {o : Offer} (begins : begin ≡ row_start b q) (is-offer : o ≡ offer_in b q) (ends : end ≡ place_in o 14) where
    pub begin-small : begin < 2 ^ 16
    begin-small = omega (arith, row-short)

    pub begin-first : begin ≤ end
    begin-first = omega (arith, row-end is-offer)

    pub length-small : end - begin < 2 ^ 16
    length-small = omega (arith, row-end is-offer, row-short)

    pub part-is : (sheet : ℕ)
        → ◌≡◌ {A = Part} (record { sheet = sheet; offset = begin; length = end - begin })
        (record { sheet = sheet; offset = row_start b q; length = row_length (state (contract_in b) q) })
    part-is sheet =
        let long : end - begin ≡ row_length (state (contract_in b) q) = omega (arith, row-end is-offer) in
        λ i. record { sheet = sheet; offset = begins i; length = long i }

-- ---- in one sheet

module _ (sheet : ℕ) (b : List ℕ) (q : ℕ) where
  -- the sheet is refused
  pub found-fault : (r : Refusal) → refusal r ≡ whole (in_place sheet (read_sheet b))
      → refusal r ≡ on_result part_of (row_in_sheet sheet b q)
  unfolding row_in_sheet then
  found-fault r h = rw (was-refusal (λ s. tt) (in_place sheet (read_sheet b)) r h) refl

  module _ (is : IsSheet b) where
    -- the state is not in it
    pub found-no-state : length (contract_in b).states ≤ q → refusal (why_of W.State) ≡ on_result part_of (row_in_sheet sheet b q)
    unfolding row_in_sheet in_place then check plain contract_in
    found-no-state h = rw (is_read b is, le-ltb q (length (contract_in b).states) h) refl

    -- the row
    pub found-row : q < length (contract_in b).states → (p : Part)
        → p ≡ record { sheet = sheet; offset = row_start b q; length = row_length (state (contract_in b) q) }
        → good p ≡ on_result part_of (row_in_sheet sheet b q)
    unfolding row_in_sheet in_place then check part_of contract_in
    found-row h p e = ap (λ (x : Part). good x) e ∙ rw (is_read b is, lt-ltb q (length (contract_in b).states) h) refl

-- ---- in the one that is named

module _ (first second : List ℕ) (sheet q : ℕ) where
  pub found_first : sheet ≡ 1 → row_in_sheet 1 first q ≡ row_in first second sheet q
  unfolding row_in named_sheet then
  found_first e = rw e refl

  pub found-second : sheet ≡ 2 → row_in_sheet 2 second q ≡ row_in first second sheet q
  unfolding row_in named_sheet then
  found-second e = rw e refl

  pub found_none : (sheet ≡ 1 → ⊥) → (sheet ≡ 2 → ⊥) → refusal (why_of W.Unnamed) ≡ on_result part_of (row_in first second sheet q)
  unfolding row_in named_sheet then plain
  found_none n m = rw (ne_eqb sheet 1 n, ne_eqb sheet 2 m) refl

  -- ---- what is found, as a part and as a refusal

  abbrev row-read : Reading Refusal row.Part
  row-read = row_in first second sheet q

  -- what is said of a row where there is none
  abbrev said : Reading Refusal row.Part → RowRefusal
  said r = refusal_of (refusal_or r)

  module _ (found : Result Part Why) (is : reading_of why_of found ≡ on_result part_of (row_in first second sheet q)) where
    pub part-found : result_unwrap_or found (record { sheet = 1; offset = 0; length = 0 }) ≡ part_of (row_part_of first second sheet q)
    unfolding row_part_of part_or part_of
    part-found = go found refl
      where
        go : (x : Result Part Why) → found ≡ x
            → result_unwrap_or found (record { sheet = 1; offset = 0; length = 0 }) ≡ part_of (row_part_of first second sheet q)
        go (Ok p) e =
            let w = answered-ok why_of part_of row-read is e in
            rw e (w.2 ∙ ap (λ (r : Reading Refusal row.Part). part_of (part_or r)) (sym w.1))
        go (Err why) e =
            rw e (ap (λ (r : Reading Refusal row.Part). part_of (part_or r)) (sym (answered-err why_of part_of row-read is e)))

    pub refusal-none : {p : Part} → found ≡ Ok p
        → ◌≡◌ {A = RowRefusal} (record { number = 0; sheet = 0; state = 0; offset = 0 }) (refusal_of (row_refusal_of first second sheet q))
    unfolding row_refusal_of refusal_or refusal_of plain
    refusal-none e =
        ap said (sym (answered-ok why_of part_of row-read is e).1)

    pub refusal-found : {why : Why} → found ≡ Err why → refusal_of (why_of why) ≡ refusal_of (row_refusal_of first second sheet q)
    unfolding row_refusal_of refusal_or
    refusal-found e =
        ap said (sym (answered-err why_of part_of row-read is e))

-- ---- what is handed back

-- the number names these bytes
abbrev pub Named : (first second : List ℕ) (sheet : ℕ) → List ℕ → Type 0
Named first second sheet b = ((sheet ≡ 1) × (b ≡ first)) ⊎ ((sheet ≡ 2) × (b ≡ second))

-- the row x of state q in the sheet with a number
pub record Handed (first second : List ℕ) (sheet q : ℕ) (x : row.Part) : Type 0 where
  pub bytes : List ℕ
  pub named : Named first second sheet bytes
  pub read : Sheet
  pub reads : read_sheet bytes ≡ good read
  pub within : q < length read.contract.states
  pub is : x ≡ record { sheet = sheet; offset = row_start bytes q; length = row_length (state read.contract q) }

module _ (first second : List ℕ) (sheet q : ℕ) where
  which : (b : List ℕ) → named_sheet first second sheet ≡ good b → Named first second sheet b
  unfolding named_sheet
  which b h = go (eqb sheet 1) (eqb sheet 2) refl refl h
    where
      go : (one two : Bool) → eqb sheet 1 ≡ one → eqb sheet 2 ≡ two
          → cond one (good first) (cond two (good second) (refusal (plain 8 0))) ≡ good b → Named first second sheet b
      go true two e d w = inl (eqb-true sheet 1 e, sym (good-injective w))
      go false true e d w = inr (eqb-true sheet 2 d, sym (good-injective w))
      go false false e d w = absurd (never-good w)

  pub handed : (x : row.Part) → row_in first second sheet q ≡ good x → Handed first second sheet q x
  unfolding row_in row_in_sheet
  handed x h =
      let of_named = then-good _ _ h in
      let of-sheet = then-good _ _ of_named.2 in
      let of-state = check-good _ _ _ of-sheet.2 in
      record {
        bytes = of_named.0;
        named = which of_named.0 of_named.1;
        read = of-sheet.0;
        reads = place-good sheet (read_sheet of_named.0) of-sheet.1;
        within = ltb→lt _ _ of-state.0;
        is = sym (good-injective of-state.1);
      }

  -- it is a part of the sheet that is named
  pub handed-of : (x : row.Part) (h : Handed first second sheet q x) → whole_of x first second ≡ h.bytes
  unfolding whole_of
  handed-of x h = ap (λ (p : row.Part). whole_of p first second) h.is ∙ go h.named
    where
      go : Named first second sheet h.bytes → cond (eqb sheet 2) second first ≡ h.bytes
      go (inl w) = rw (ne_eqb sheet 2 (λ e. omega (arith, w.0))) (sym w.1)
      go (inr w) = rw (eq-eqb sheet 2 w.0) (sym w.1)
