-- The part that is handed back lies within its sheet: a row does, and so does the empty part. The slice that is cut there is that part.
-- Assumes nothing.
use mathlib.Core.Path.{◌≡◌, refl, sym, ap, subst, subst⁻¹, ◌∙◌}
use mathlib.Core.Bool.{true, false}
use mathlib.Core.List.{List}
use Prim.Native.Nat.{ℕ, ◌+◌, ◌-◌, ◌≤◌, ◌<◌}
use native.Mathlib.Omega.{arith}
use lib.ListN.{length, take, drop}
use lib.Dec.{eqb}
use borrow.Author.Tests.{eq-eqb, ne_eqb}
use denote.Ref.{Bor}
use Rattle.model.specs.Contract.{state}
use Rattle.model.specs.Sheet.{Reading, good, refusal, Fault, Sheet, read_sheet, row_start, sheet_of, contract_in, Refusal}
use Rattle.sheet.specs.Whole.{IsState}
use Rattle.named_row.specs.Row as row
use Rattle.named_row.specs.Row.{row_length, row_in, part_or, row_part_of, whole_of, cut}
use Rattle.named_row.specs.Answers.{part_of, IsPart}
use Rattle.named_row.specs.declared.Part.{Part}
use Rattle.named_row.proofs.Rows.{Handed, handed, handed-of, row_fits}

-- a row is within its sheet
pub row_inside : (b : List ℕ) (s : Sheet) (q : ℕ) → read_sheet b ≡ good s → q < length s.contract.states
    → row_start b q + row_length (state s.contract q) ≤ length b
unfolding contract_in sheet_of
row_inside b s q reads within =
    let at : IsState b q =
    record { sheet = (s, reads); state = subst⁻¹ (λ (r : Reading Fault Sheet). q < length (sheet_of r).contract.states) reads within } in
    subst (λ (r : Reading Fault Sheet). row_start b q + row_length (state (sheet_of r).contract q) ≤ length b) reads (row_fits at)

module _ (first second : List ℕ) (sheet q : ℕ) where
  handed-inside : (x : row.Part) → Handed first second sheet q x → x.offset + x.length ≤ length (whole_of x first second)
  handed-inside x h =
      omega (
        arith,
        row_inside h.bytes h.read q h.reads h.within,
        ap (λ (p : row.Part). p.offset) h.is,
        ap (λ (p : row.Part). p.length) h.is,
        ap (λ (l : List ℕ). length l) (handed-of first second sheet q x h),
      )

  part-inside : (row_part_of first second sheet q).offset + (row_part_of first second sheet q).length
      ≤ length (whole_of (row_part_of first second sheet q) first second)
  unfolding row_part_of part_or
  part-inside = go (row_in first second sheet q) refl
    where
      go : (r : Reading Refusal row.Part) → row_in first second sheet q ≡ r
          → (part_or r).offset + (part_or r).length ≤ length (whole_of (part_or r) first second)
      go (good x) e = handed-inside x (handed first second sheet q x e)
      go (refusal x) e = omega arith

module _ (first second : Bor (List ℕ)) (sheet q : ℕ) (part : Part) (is : part ≡ part_of (row_part_of first.now second.now sheet q)) where
  abbrev p : row.Part
  p = row_part_of first.now second.now sheet q

  sheet-is : part.sheet ≡ p.sheet
  unfolding part_of
  sheet-is = ap (λ (x : Part). x.sheet) is

  begin-is : part.offset ≡ p.offset
  unfolding part_of
  begin-is = ap (λ (x : Part). x.offset) is

  length-is : part.length ≡ p.length
  unfolding part_of
  length-is = ap (λ (x : Part). x.length) is

  inside : part.offset + part.length ≤ length (whole_of p first.now second.now)
  inside = omega (arith, begin-is, length-is, part-inside first.now second.now sheet q)

  -- the slice that is cut from the sheet that the part is of
  cut-is : (whole r : Bor (List ℕ)) → whole_of p first second ≡ whole
      → r.ref_ptr.0 ≡ whole.ref_ptr.0 → r.ref_ptr.1 ≡ part.offset + whole.ref_ptr.1
      → r.now ≡ take (part.offset + part.length - part.offset) (drop part.offset whole.now) → IsPart p first second r
  unfolding cut
  cut-is whole r picked block place bytes =
      let long : part.offset + part.length - part.offset ≡ p.length = omega (arith, length-is) in
      record {
        bytes =
            bytes ∙ (λ i. take (long i) (drop (begin-is i) whole.now))
            ∙ ap (λ (w : Bor (List ℕ)). take p.length (drop p.offset w.now)) (sym picked);
        block = block ∙ ap (λ (w : Bor (List ℕ)). w.ref_ptr.0) (sym picked);
        place = omega (arith, place, begin-is, ap (λ (w : Bor (List ℕ)). w.ref_ptr.1) picked);
      }

  module _ (e : part.sheet ≡ 2) where
    is-second : eqb p.sheet 2 ≡ true
    is-second = eq-eqb p.sheet 2 (sym sheet-is ∙ e)

    pub second-inside : part.offset + part.length ≤ length second.now
    unfolding whole_of
    second-inside = rw is-second at inside

    pub second-cut : (r : Bor (List ℕ)) → r.ref_ptr.0 ≡ second.ref_ptr.0 → r.ref_ptr.1 ≡ part.offset + second.ref_ptr.1
        → r.now ≡ take (part.offset + part.length - part.offset) (drop part.offset second.now) → IsPart p first second r
    unfolding whole_of
    second-cut r = cut-is second r (rw is-second refl)

  module _ (n : part.sheet ≡ 2 → ⊥) where
    is-first : eqb p.sheet 2 ≡ false
    is-first = ne_eqb p.sheet 2 (λ e. n (sheet-is ∙ e))

    pub first-inside : part.offset + part.length ≤ length first.now
    unfolding whole_of
    first-inside = rw is-first at inside

    pub first-cut : (r : Bor (List ℕ)) → r.ref_ptr.0 ≡ first.ref_ptr.0 → r.ref_ptr.1 ≡ part.offset + first.ref_ptr.1
        → r.now ≡ take (part.offset + part.length - part.offset) (drop part.offset first.now) → IsPart p first second r
    unfolding whole_of
    first-cut r = cut-is first r (rw is-first refl)
