-- The byte at fault in a sheet: a wrong entry, a row that is at fault, bytes behind the last row, each with all rows before it read. By recursion
-- over the states that are left.
-- Assumes nothing.
use mathlib.Core.Path.{◌≡◌, refl, sym, ap, subst, subst⁻¹, ◌∙◌}
use mathlib.Core.Bool.{true, ◌&&◌}
use mathlib.Core.List.{List}
use Prim.Native.Nat.{ℕ, zero, suc, ◌+◌, ◌-◌, ◌*◌, ◌≤◌, ◌<◌}
use native.Mathlib.Omega.{arith}
use lib.ListN.{length}
use lib.Dec.{eqb, leb}
use borrow.Author.Tests.{leb-true, eqb-true, eqb-false}
use Rattle.model.specs.Bytes.{word}
use Rattle.model.specs.Sheet.{Fault, Trailer, trailer, Row, row_at, states_from, good_trailer, read_sheet}
use Rattle.model.specs.AtFault.{row_end, row_place, entry_place, AtFault, wrong_entry, left_over, Located, ByteAtFault}
use Rattle.model.proofs.Lists.{both_true}
use Rattle.model.proofs.Refusals.{OnlyRefused, only-tested, only-read, only-weaker, only-elim}
use Rattle.model.proofs.AtFaultRows.{OfRow, row-at, row_ends}

-- all rows before state q are read: where its row has to begin, and that the entry of the state before it is right
record RowsBefore (b : List ℕ) (q i : ℕ) : Type 0 where
  place : i ≡ row_place b q
  entered : (p : ℕ) → suc p ≡ q → word b (entry_place b p) ≡ row_place b p
  within : i ≤ (trailer b).index

module _ (b : List ℕ) (some : 1 ≤ (trailer b).count) (ends : (trailer b).index + 2 * (trailer b).count + 6 ≡ length b) where
  -- a fault of a row is one of the sheet
  of-sheet : (q i : ℕ) → RowsBefore b q i → q < (trailer b).count → (f : Fault) → OfRow b q i f → Located b f
  of-sheet q i before l f o =
      record {
        whole = λ low. absurd (omega (arith, o.high));
        state = λ _. omega (arith, o.state);
        there = λ _. omega (arith, o.inside);
        fault = λ _. subst (λ (n : ℕ). AtFault b n f) (before.place ∙ ap (row_place b) (sym o.state)) o.fault;
      }

  -- bytes behind the last row
  left_behind : (q i : ℕ) → RowsBefore b q i → q ≡ (trailer b).count → (i ≡ (trailer b).index → ⊥)
      → Located b (record { number = 4; state = q - 1; offset = i })
  unfolding row_place
  left_behind zero i before e n = absurd (omega arith)
  left_behind (suc q) i before e n =
      let inside : i < (trailer b).index = omega (arith, before.within, n) in
      let last : suc q - 1 ≡ q = omega arith in
      subst⁻¹ (λ (p : ℕ). Located b (record { number = 4; state = p; offset = i })) last
      (record {
        whole = λ low. absurd (omega arith);
        state = λ _. omega arith;
        there = λ _. omega arith;
        fault = λ _. left_over refl (before.entered q refl) e before.place inside;
      })

  -- an entry that is not where the row has to begin
  entry-wrong : (q i : ℕ) → RowsBefore b q i → q < (trailer b).count → (word b ((trailer b).index + 2 * q) ≡ i → ⊥)
      → Located b (record { number = 4; state = q; offset = (trailer b).index + 2 * q })
  unfolding entry_place
  entry-wrong q i before l n =
      record {
        whole = λ low. absurd (omega arith);
        state = λ _. l;
        there = λ _. omega arith;
        fault = λ _. wrong_entry refl refl (λ e. n (e ∙ sym before.place));
      }

  rows_more : (q i : ℕ) → RowsBefore b q i → word b (entry_place b q) ≡ i → (row : Row)
      → (row.behind ≡ row_end b i) × (row.behind ≤ (trailer b).index) → RowsBefore b (suc q) row.behind
  unfolding row_place
  rows_more q i before entered row r =
      record {
        place = r.0 ∙ ap (row_end b) before.place;
        entered = λ p e. let same : p ≡ q = omega arith in subst⁻¹ (λ (n : ℕ). word b (entry_place b n) ≡ row_place b n) same (entered ∙ before.place);
        within = r.1;
      }

  states-at : (left q i : ℕ) → RowsBefore b q i → q + left ≡ (trailer b).count → OnlyRefused (Located b) (states_from b (trailer b) left q i)
  unfolding states_from entry_place
  states-at zero q i before e =
      only-tested (Located b) (eqb i (trailer b).index) _ _ (λ h. left_behind q i before (omega arith) (eqb-false _ _ h)) (λ _. tt)
  states-at (suc left) q i before e =
      only-tested (Located b) (eqb (word b ((trailer b).index + 2 * q)) i) _ _
      (λ h. entry-wrong q i before (omega arith) (eqb-false _ _ h))
      (λ h.
      let entered = eqb-true (word b ((trailer b).index + 2 * q)) i h in
      only-read (Located b) (row_at b (trailer b) q i) _
      (only-weaker _ _ (of-sheet q i before (omega arith)) (row_at b (trailer b) q i) (row-at b q i entered))
      (λ row is.
      only-read (Located b) (states_from b (trailer b) left (suc q) row.behind) _
      (states-at left (suc q) row.behind (rows_more q i before entered row (row_ends b q i entered row is)) (omega arith))
      (λ _ _. tt)))

no_rows : (b : List ℕ) → RowsBefore b 0 0
unfolding row_place
no_rows b = record { place = refl; entered = λ p e. absurd (omega arith); within = omega arith }

-- a refusal of the whole sheet
of-whole : {b : List ℕ} (number : ℕ) → number < 4 → Located b (record { number = number; state = 0; offset = 0 })
of-whole number low =
    record {
      whole = λ _. (refl, refl);
      state = λ h. absurd (omega arith);
      there = λ h. absurd (omega arith);
      fault = λ h. absurd (omega arith);
    }

counted : (numbers : Trailer) → good_trailer numbers ≡ true → 1 ≤ numbers.count
unfolding good_trailer
counted numbers h =
    leb-true 1 numbers.count (both_true _ _ (both_true _ _ (both_true _ _ (both_true _ _ h).0).0).0).0

pub byte-at-fault : ByteAtFault
unfolding read_sheet
byte-at-fault b f h =
    only-elim (Located b) (read_sheet b) f
    (only-tested (Located b) (leb 6 (length b) && leb (length b) 2118) _ _ (λ _. of-whole 1 (omega arith))
    (λ _.
    only-tested (Located b) (good_trailer (trailer b)) _ _ (λ _. of-whole 2 (omega arith))
    (λ numbers.
    only-tested (Located b) (eqb ((trailer b).index + 2 * (trailer b).count + 6) (length b)) _ _ (λ _. of-whole 3 (omega arith))
    (λ ends.
    only-read (Located b) (states_from b (trailer b) (trailer b).count 0 0) _
    (states-at b (counted (trailer b) numbers) (eqb-true ((trailer b).index + 2 * (trailer b).count + 6) (length b) ends) (trailer b).count 0 0 (no_rows b) (omega arith))
    (λ _ _. tt)))))
    h
