-- What the entries for a row promise: `row-refuses`, `row-hands-back`, `other-not-tested`. A refusal is the first of the reading's tests
-- that fails; without one the row stands where the index says, byte by byte.
-- Assumes nothing.
use mathlib.Core.Path.{◌≡◌, refl, sym, ap, subst, subst⁻¹, ◌∙◌}
use mathlib.Core.Bool.{Bool, true, false, cond}
use mathlib.Core.Logic.{inl, inr, ⊎_elim}
use mathlib.Core.List.{List}
use Prim.Native.Nat.{ℕ, ◌≤◌, ◌<◌}
use native.Mathlib.Omega.{arith}
use lib.ListN.{length, take, drop}
use lib.Dec.{eqb, ltb}
use borrow.Author.Tests.{ltb-false, eqb-true, eqb-false}
use Rattle.model.specs.Bytes.{byte}
use Rattle.model.specs.Contract.{state}
use Rattle.model.specs.Sheet.{Reading, good, refusal, then, Fault, Sheet, read_sheet, row_start, Refusal, in_place, plain}
use Rattle.model.specs.AtFault.{Carries}
use Rattle.model.proofs.Refusals.{OnlyRefused, only-tested, only-read, only-elim, sheet-numbers}
use Rattle.model.proofs.Sheet.{place-good}
use Rattle.model.proofs.Carried.{plain-carries, in-place}
use Rattle.named_row.specs.Row.{Part, named_sheet, row_length, row_in_sheet, row_in, part_or, row_part_of, refusal_or, row_refusal_of, whole_of, cut}
use Rattle.named_row.specs.Promises.{RefusesRow, RowRefuses, HandsBack, RowHandsBack, OtherNotTested}
use Rattle.named_row.proofs.Rows.{Named, handed, handed-of}
use Rattle.named_row.proofs.Parts.{row_inside}
use Rattle.named_row.proofs.Own.{row-own}

-- ---- why there is no row

number_of : (number : ℕ) (r : Refusal) → r ≡ plain number 0 → r.number ≡ number
unfolding plain
number_of number r e = ap (λ (x : Refusal). x.number) e

only-both : {E A : Type 0} (P Q : E → Type 0) (r : Reading E A) → OnlyRefused P r → OnlyRefused Q r → OnlyRefused (λ e. P e × Q e) r
only-both P Q (good a) p q = tt
only-both P Q (refusal e) p q = (p, q)

module _ (first second : List ℕ) (sheet q : ℕ) where
  data Why (r : Refusal) : Type 0 where
    of-sheet : (b : List ℕ) → Named first second sheet b → 1 ≤ r.number → r.number ≤ 7 → r.sheet ≡ sheet → Why r
    of_number : (sheet ≡ 1 → ⊥) → (sheet ≡ 2 → ⊥) → r ≡ plain 8 0 → Why r
    of-state : (b : List ℕ) → Named first second sheet b → (s : Sheet) → read_sheet b ≡ good s → length s.contract.states ≤ q → r ≡ plain 15 0 → Why r

  abbrev Refused : Refusal → Type 0
  Refused r = Why r × Carries first second r

  place-why : (b : List ℕ) → Named first second sheet b → (read : Reading Fault Sheet) → OnlyRefused (λ (f : Fault). (1 ≤ f.number) × (f.number ≤ 7)) read
      → OnlyRefused Why (in_place sheet read)
  unfolding in_place
  place-why b named (good s) o = tt
  place-why b named (refusal f) o = of-sheet b named o.0 o.1 refl

  -- in the sheet that is named
  sheet-refused : (b : List ℕ) → Named first second sheet b → OnlyRefused (Carries first second) (in_place sheet (read_sheet b)) → OnlyRefused Refused (row_in_sheet sheet b q)
  unfolding row_in_sheet
  sheet-refused b named carries =
      only-read Refused (in_place sheet (read_sheet b)) _
      (only-both Why (Carries first second) (in_place sheet (read_sheet b)) (place-why b named (read_sheet b) (sheet-numbers b)) carries)
      (λ s e.
      only-tested Refused (ltb q (length s.contract.states)) _ _
      (λ h. (
        of-state b named s (place-good sheet (read_sheet b) e) (ltb-false q (length s.contract.states) h) refl,
        plain-carries first second 15 0 (inr (omega arith)),
      ))
      (λ _. tt))

  row-refused : OnlyRefused Refused (row_in first second sheet q)
  unfolding row_in named_sheet then
  row-refused = go (eqb sheet 1) (eqb sheet 2) refl refl
    where
      go : (one two : Bool) → eqb sheet 1 ≡ one → eqb sheet 2 ≡ two
          → OnlyRefused Refused
          (then (cond one (good first) (cond two (good second) (refusal (plain 8 0)))) (λ (b : List ℕ). row_in_sheet sheet b q))
      go true two e d =
          let is : sheet ≡ 1 = eqb-true sheet 1 e in
          sheet-refused first (inl (is, refl)) (in-place first second sheet first (λ r at reads. inl (at ∙ is, reads)))
      go false true e d =
          let is : sheet ≡ 2 = eqb-true sheet 2 d in
          sheet-refused second (inr (is, refl)) (in-place first second sheet second (λ r at reads. inr (at ∙ is, reads)))
      go false false e d =
          (of_number (eqb-false sheet 1 e) (eqb-false sheet 2 d) refl, plain-carries first second 8 0 (inr (omega arith)))

-- ---- the promises

module _ (first second : List ℕ) (sheet q : ℕ) where
  abbrev answer : Refusal
  answer = row_refusal_of first second sheet q

  -- no row: the refusal is the answer, and the part is empty
  answer_is : (r : Refusal) → row_in first second sheet q ≡ refusal r → answer ≡ r
  unfolding row_refusal_of refusal_or
  answer_is r e = ap refusal_or e

  empty-is : (r : Refusal) → row_in first second sheet q ≡ refusal r → row_part_of first second sheet q ≡ record { sheet = 1; offset = 0; length = 0 }
  unfolding row_part_of part_or
  empty-is r e = ap part_or e

  refuses : (r : Refusal) → row_in first second sheet q ≡ refusal r → Refused first second sheet q r → RefusesRow first second sheet q
  unfolding plain
  refuses r e (of-sheet b named low high at, carries) =
      let n : answer.number ≡ r.number = ap (λ (x : Refusal). x.number) (answer_is r e) in
      record {
        number = inl (omega arith);
        unnamed = ((λ w. absurd (omega arith)), (λ none. absurd (⊎_elim (λ w. none.0 w.0) (λ w. none.1 w.0) named)));
        carries = subst⁻¹ (Carries first second) (answer_is r e) carries;
        named = λ _ _. ap (λ (x : Refusal). x.sheet) (answer_is r e) ∙ at;
        no_state = λ w. absurd (omega arith);
        no_sheet = λ w. absurd (omega arith);
        empty = λ _. empty-is r e;
      }
  refuses r e (of_number one two is, carries) =
      let n : answer.number ≡ 8 = ap (λ (x : Refusal). x.number) (answer_is r e ∙ is) in
      record {
        number = inl (omega arith);
        unnamed = ((λ _. (one, two)), (λ _. n));
        carries = subst⁻¹ (Carries first second) (answer_is r e) carries;
        named = λ _ high. absurd (omega arith);
        no_state = λ w. absurd (omega arith);
        no_sheet = λ _. ap (λ (x : Refusal). x.sheet) (answer_is r e ∙ is);
        empty = λ _. empty-is r e;
      }
  refuses r e (of-state b named s reads beyond is, carries) =
      let n : answer.number ≡ 15 = ap (λ (x : Refusal). x.number) (answer_is r e ∙ is) in
      record {
        number = inr n;
        unnamed = ((λ w. absurd (omega arith)), (λ none. absurd (⊎_elim (λ w. none.0 w.0) (λ w. none.1 w.0) named)));
        carries = subst⁻¹ (Carries first second) (answer_is r e) carries;
        named = λ _ high. absurd (omega arith);
        no_state = λ _.
            (s, ⊎_elim (λ w. inl (w.0, ap read_sheet (sym w.1) ∙ reads)) (λ w. inr (w.0, ap read_sheet (sym w.1) ∙ reads)) named, beyond);
        no_sheet = λ _. ap (λ (x : Refusal). x.sheet) (answer_is r e ∙ is);
        empty = λ _. empty-is r e;
      }

  -- a row: there is no refusal
  none_is : (x : Part) → row_in first second sheet q ≡ good x → answer ≡ plain 0 0
  unfolding row_refusal_of refusal_or
  none_is x e = ap refusal_or e

  answers : (x : Part) → row_in first second sheet q ≡ good x → RefusesRow first second sheet q
  unfolding plain
  answers x e =
      let h = handed first second sheet q x e in
      let is = none_is x e in
      let n : answer.number ≡ 0 = ap (λ (r : Refusal). r.number) is in
      record {
        number = inl (omega arith);
        unnamed = ((λ w. absurd (omega arith)), (λ none. absurd (⊎_elim (λ w. none.0 w.0) (λ w. none.1 w.0) h.named)));
        carries = subst⁻¹ (Carries first second) is (plain-carries first second 0 0 (inl refl));
        named = λ low _. absurd (omega arith);
        no_state = λ w. absurd (omega arith);
        no_sheet = λ w. absurd (omega arith);
        empty = λ w. absurd (w n);
      }

  part-is-row : (x : Part) → row_in first second sheet q ≡ good x → row_part_of first second sheet q ≡ x
  unfolding row_part_of part_or
  part-is-row x e = ap part_or e

  hands-back : (x : Part) → row_in first second sheet q ≡ good x → HandsBack first second sheet q
  unfolding cut
  hands-back x e =
      let h = handed first second sheet q x e in
      let is = part-is-row x e ∙ h.is in
      let of : whole_of (row_part_of first second sheet q) first second ≡ h.bytes =
      ap (λ (p : Part). whole_of p first second) (part-is-row x e) ∙ handed-of first second sheet q x h in
      let begin : (row_part_of first second sheet q).offset ≡ row_start h.bytes q = ap (λ (p : Part). p.offset) is in
      let long : (row_part_of first second sheet q).length ≡ row_length (state h.read.contract q) = ap (λ (p : Part). p.length) is in
      record {
        named = ⊎_elim (λ w. inl w.0) (λ w. inr w.0) h.named;
        of_named = ap (λ (p : Part). p.sheet) is;
        read = h.read;
        reads = ap read_sheet of ∙ h.reads;
        there = h.within;
        begins = begin ∙ ap (λ (b : List ℕ). row_start b q) (sym of);
        long = long;
        inside =
            omega (
              arith,
              begin,
              long,
              row_inside h.bytes h.read q h.reads h.within,
              ap (λ (l : List ℕ). length l) of,
            );
        own = λ small.
            (λ i. take (long i) (drop (begin i) (of i)))
            ∙ row-own h.bytes (subst (λ (b : List ℕ). (i : ℕ) → byte b i < 256) of small) h.read q h.reads h.within;
      }

-- a reading by its two cases
by-reading : {E A : Type 0} (C : Type 0) (r : Reading E A) → ((a : A) → r ≡ good a → C) → ((e : E) → r ≡ refusal e → C) → C
by-reading C (good a) f g = f a refl
by-reading C (refusal e) f g = g e refl

pub row-refuses : RowRefuses
row-refuses first second sheet q =
    by-reading (RefusesRow first second sheet q) (row_in first second sheet q) (answers first second sheet q)
    (λ r e. refuses first second sheet q r e (only-elim (Refused first second sheet q) (row_in first second sheet q) r (row-refused first second sheet q) e))

pub row-hands-back : RowHandsBack
unfolding plain
row-hands-back first second sheet q none =
    by-reading (HandsBack first second sheet q) (row_in first second sheet q) (hands-back first second sheet q)
    (λ r e.
    absurd
    (some_number r (only-elim (Refused first second sheet q) (row_in first second sheet q) r (row-refused first second sheet q) e).0
    (ap (λ (x : Refusal). x.number) (sym (answer_is first second sheet q r e)) ∙ none)))
  where
    some_number : (r : Refusal) → Why first second sheet q r → r.number ≡ 0 → ⊥
    some_number r (of-sheet b named low high at) z = omega arith
    some_number r (of_number one two is) z = omega (arith, number_of 8 r is)
    some_number r (of-state b named s reads beyond is) z = omega (arith, number_of 15 r is)

pub other-not-tested : OtherNotTested
unfolding row_in named_sheet then
other-not-tested = record { second = λ first second other q. refl; first = λ first second other q. refl }
