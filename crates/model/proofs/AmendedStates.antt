-- The states of a sheet under both readings, by induction over the states: the first faulty row decides.
-- Assumes nothing.
use mathlib.Core.Path.{◌≡◌, refl, sym, ap, subst, ◌∙◌}
use mathlib.Core.Bool.{Bool, true, false}
use mathlib.Core.Logic.{◌⊎◌, inl, inr, ⊎_map}
use mathlib.Core.List.{List, ◌∷◌}
use Prim.Native.Nat.{ℕ, zero, suc, ◌+◌, ◌-◌, ◌*◌}
use native.Mathlib.Omega.{arith}
use lib.Dec.{eqb}
use borrow.Author.Tests.{eqb-true}
use Rattle.model.specs.Bytes.{word}
use Rattle.model.specs.Contract.{State}
use Rattle.model.specs.Sheet.{Reading, good, refusal, check, then, Fault, Trailer, Row, row_at, states_from}
use Rattle.model.specs.Amended.{row_before, states_before, first_low, first_stray, goes_to_six}
use Rattle.model.proofs.Sheet.{never-good, refusal-injective, then-refused, refused-inside}
use Rattle.model.proofs.Refusals.{OfState, only-elim, only_row}
use Rattle.model.proofs.AmendedRows.{SameRow, OtherRow, row-amended}

module _ (b : List ℕ) (t : Trailer) where
  -- where the row of a state begins
  abbrev begins : ℕ → ℕ
  begins q = word b (t.index + 2 * q)

  pub record SameStates (left q i : ℕ) : Type 0 where
    pub answer : states_from b t left q i ≡ states_before b t left q i
    pub no_such_row : (f : Fault) → states_before b t left q i ≡ refusal f → f.number ≡ 5
        → goes_to_six b t (begins f.state) ≡ false

  pub record OtherStates (left q i : ℕ) : Type 0 where
    pub state : ℕ
    pub such_row : goes_to_six b t (begins state) ≡ true
    pub before : states_before b t left q i
        ≡ refusal (record { number = 5; state = state; offset = begins state + 1 + 2 * first_low b (begins state) })
    pub now : states_from b t left q i
        ≡ refusal (record { number = 6; state = state; offset = begins state + 1 + 2 * first_stray b t (begins state) })

  -- the states from q on are refused alike, as another number than 5 or for a row that is none such
  states-alike : {left q i : ℕ} (e : Fault) → states_from b t left q i ≡ refusal e → states_before b t left q i ≡ refusal e
      → (e.number ≡ 5 → goes_to_six b t (begins e.state) ≡ false) → SameStates left q i
  states-alike e r r' h =
      record {
        answer = r ∙ sym r';
        no_such_row = λ f s five.
            let same : e ≡ f = refusal-injective (sym r' ∙ s) in
            subst (λ (g : Fault). goes_to_six b t (begins g.state) ≡ false) same (h (ap (λ (g : Fault). g.number) same ∙ five));
      }

  states-end : (q i : ℕ) → SameStates zero q i
  unfolding states_from states_before check
  states-end q i = go (eqb i t.index) refl
    where
      go : (whole : Bool) → eqb i t.index ≡ whole → SameStates zero q i
      go true h = record { answer = rw h refl; no_such_row = λ f s. absurd (never-good (sym (rw h at s))) }
      go false h = states-alike (record { number = 4; state = q - 1; offset = i }) (rw h refl) (rw h refl)
          (λ (five : 4 ≡ 5). absurd (omega arith))

  module _ (left q i : ℕ) where
    states-misplaced : eqb (begins q) i ≡ false → SameStates (suc left) q i
    unfolding states_from states_before check
    states-misplaced h =
        states-alike (record { number = 4; state = q; offset = t.index + 2 * q }) (rw h refl) (rw h refl)
        (λ (five : 4 ≡ 5). absurd (omega arith))

    module _ (placed : eqb (begins q) i ≡ true) where
      abbrev rest-now : Row → Reading Fault (List State)
      rest-now row = then (states_from b t left (suc q) row.behind) (λ states. good (row.state ∷ states))

      abbrev rest-before : Row → Reading Fault (List State)
      rest-before row = then (states_before b t left (suc q) row.behind) (λ states. good (row.state ∷ states))

      here : i ≡ begins q
      here = sym (eqb-true (begins q) i placed)

      states-now : states_from b t (suc left) q i ≡ then (row_at b t q (begins q)) rest-now
      unfolding states_from check
      states-now = rw placed (ap (λ j. then (row_at b t q j) rest-now) here)

      states-before : states_before b t (suc left) q i ≡ then (row_before b t q (begins q)) rest-before
      unfolding states_before check
      states-before = rw placed (ap (λ j. then (row_before b t q j) rest-before) here)

      other-row-first : OtherRow b t q (begins q) → OtherStates (suc left) q i
      other-row-first r =
          record {
            state = q;
            such_row = r.such_row;
            before = states-before ∙ then-refused rest-before r.before;
            now = states-now ∙ then-refused rest-now r.now;
          }

      module _ (r : SameRow b t q (begins q)) where
        row-refused : (f : Fault) → row_before b t q (begins q) ≡ refusal f → SameStates (suc left) q i
        row-refused f e =
            let now : row_at b t q (begins q) ≡ refusal f = r.answer ∙ e in
            let of-q : f.state ≡ q = (only-elim (OfState q) (row_at b t q (begins q)) f (only_row b t q (begins q)) now).1 in
            states-alike f (states-now ∙ then-refused rest-now now) (states-before ∙ then-refused rest-before e)
            (λ five. rw of-q (r.no_such_row f e five))

        module _ (row : Row) (e : row_before b t q (begins q) ≡ good row) where
          abbrev cons : List State → Reading Fault (List State)
          cons states = good (row.state ∷ states)

          row-good-now : states_from b t (suc left) q i ≡ then (states_from b t left (suc q) row.behind) cons
          unfolding then
          row-good-now = states-now ∙ ap (λ r. then r rest-now) (r.answer ∙ e)

          row-good-before : states_before b t (suc left) q i ≡ then (states_before b t left (suc q) row.behind) cons
          unfolding then
          row-good-before = states-before ∙ ap (λ r. then r rest-before) e

          same-behind : SameStates left (suc q) row.behind → SameStates (suc left) q i
          same-behind s =
              record {
                answer = row-good-now ∙ ap (λ r. then r cons) s.answer ∙ sym row-good-before;
                no_such_row = λ f g. s.no_such_row f
                    (refused-inside _ cons (λ states p. never-good (sym p)) (sym row-good-before ∙ g));
              }

          other-behind : OtherStates left (suc q) row.behind → OtherStates (suc left) q i
          other-behind s =
              record {
                state = s.state;
                such_row = s.such_row;
                before = row-good-before ∙ then-refused cons s.before;
                now = row-good-now ∙ then-refused cons s.now;
              }

  -- states are read as before, or the first faulty row goes from 5 to 6
  pub states-amended : (left q i : ℕ) → SameStates left q i ⊎ OtherStates left q i
  states-amended zero q i = inl (states-end q i)
  states-amended (suc left) q i =
      go (eqb (begins q) i) refl (row-amended b t q (begins q)) (row_before b t q (begins q)) refl (states-amended left (suc q))
    where
      go : (placed : Bool) → eqb (begins q) i ≡ placed → SameRow b t q (begins q) ⊎ OtherRow b t q (begins q)
          → (r : Reading Fault Row) → row_before b t q (begins q) ≡ r
          → ((j : ℕ) → SameStates left (suc q) j ⊎ OtherStates left (suc q) j)
          → SameStates (suc left) q i ⊎ OtherStates (suc left) q i
      go false p row r e rest = inl (states-misplaced left q i p)
      go true p (inr row) r e rest = inr (other-row-first left q i p row)
      go true p (inl row) (refusal f) e rest = inl (row-refused left q i p row f e)
      go true p (inl row) (good r) e rest = ⊎_map (same-behind left q i p row r e) (other-behind left q i p row r e) (rest r.behind)
