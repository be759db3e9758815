-- Which answers request 2/13 of document 02 changed: a sheet and a pair of sheets are read as before, or 5 became 6.
-- Assumes nothing.
use mathlib.Core.Path.{◌≡◌, refl, sym, ap, ap₂, ◌∙◌}
use mathlib.Core.Bool.{Bool, true, false, ◌&&◌}
use mathlib.Core.Logic.{◌⊎◌, inl, inr, ⊎_map}
use mathlib.Core.List.{List}
use Prim.Native.Nat.{ℕ, ◌+◌, ◌*◌, ◌<◌}
use native.Mathlib.Omega.{arith}
use lib.ListN.{length}
use lib.Dec.{eqb, leb}
use Rattle.model.specs.Contract.{State}
use Rattle.model.specs.Sheet.{Reading, good, refusal, check, then, Fault, trailer, states_from, row_start, good_trailer, Sheet}
use Rattle.model.specs.Sheet.{read_sheet, Refusal, in_place, Both, read_both}
use Rattle.model.specs.Amended.{states_before, read_before, Same, FiveToSix, Amended, both_of, both_before, in_sheet, PairFiveToSix}
use Rattle.model.specs.Amended.{PairAmended}
use Rattle.model.proofs.Sheet.{never-good, refusal-injective, then-refused, refused-inside}
use Rattle.model.proofs.AmendedStates.{SameStates, OtherStates, states-amended}

-- ---- the sheet

module _ (b : List ℕ) where
  abbrev sized : Bool
  sized = leb 6 (length b) && leb (length b) 2118

  abbrev ended : Bool
  ended = eqb ((trailer b).index + 2 * (trailer b).count + 6) (length b)

  -- a test before the rows fails: both readings give its number
  sheet-alike : (number : ℕ) → (number < 5) → read_sheet b ≡ refusal (record { number = number; state = 0; offset = 0 })
      → read_before b ≡ refusal (record { number = number; state = 0; offset = 0 }) → Same b
  sheet-alike number low r r' =
      record {
        answer = r ∙ sym r';
        no_such_row = λ f s five. let same : number ≡ f.number = ap (λ (g : Fault). g.number) (refusal-injective (sym r' ∙ s)) in
            absurd (omega arith);
      }

  module _ (e₁ : sized ≡ true) (e₂ : good_trailer (trailer b) ≡ true) (e₃ : ended ≡ true) where
    abbrev made : List State → Reading Fault Sheet
    made states = good (record { contract = record { n = (trailer b).n; states = states }; role = (trailer b).role })

    sheet-now : read_sheet b ≡ then (states_from b (trailer b) (trailer b).count 0 0) made
    unfolding read_sheet check
    sheet-now = rw (e₁, e₂, e₃) refl

    sheet-before : read_before b ≡ then (states_before b (trailer b) (trailer b).count 0 0) made
    unfolding read_before check
    sheet-before = rw (e₁, e₂, e₃) refl

    same-sheet : SameStates b (trailer b) (trailer b).count 0 0 → Same b
    unfolding row_start
    same-sheet s =
        record {
          answer = sheet-now ∙ ap (λ r. then r made) s.answer ∙ sym sheet-before;
          no_such_row = λ f g. s.no_such_row f (refused-inside _ made (λ states p. never-good (sym p)) (sym sheet-before ∙ g));
        }

    other-sheet : OtherStates b (trailer b) (trailer b).count 0 0 → FiveToSix b
    unfolding row_start
    other-sheet s =
        record {
          state = s.state;
          such_row = s.such_row;
          before = sheet-before ∙ then-refused made s.before;
          now = sheet-now ∙ then-refused made s.now;
        }

-- what changed
pub amended : Amended
unfolding read_sheet read_before check
amended b = go (sized b) refl (good_trailer (trailer b)) refl (ended b) refl
  where
    go : (size : Bool) → sized b ≡ size → (numbers : Bool) → good_trailer (trailer b) ≡ numbers
        → (end : Bool) → ended b ≡ end → Same b ⊎ FiveToSix b
    go false e₁ numbers e₂ end e₃ = inl (sheet-alike b 1 (omega arith) (rw e₁ refl) (rw e₁ refl))
    go true e₁ false e₂ end e₃ = inl (sheet-alike b 2 (omega arith) (rw (e₁, e₂) refl) (rw (e₁, e₂) refl))
    go true e₁ true e₂ false e₃ = inl (sheet-alike b 3 (omega arith) (rw (e₁, e₂, e₃) refl) (rw (e₁, e₂, e₃) refl))
    go true e₁ true e₂ true e₃ =
        ⊎_map (same-sheet b e₁ e₂ e₃) (other-sheet b e₁ e₂ e₃) (states-amended b (trailer b) (trailer b).count 0 0)

-- ---- two sheets

-- a refusal of the sheet in a place
placed-refused : (p : ℕ) {r : Reading Fault Sheet} {f : Fault} → r ≡ refusal f → in_place p r ≡ refusal (in_sheet p f)
unfolding in_place
placed-refused p h = rw h refl

module _ (role₁ role₂ : ℕ) where
  both-now : (b₁ b₂ : List ℕ) → read_both role₁ role₂ b₁ b₂ ≡ both_of role₁ role₂ (read_sheet b₁) (read_sheet b₂)
  unfolding read_both both_of
  both-now b₁ b₂ = refl

  first-refused : {r₁ : Reading Fault Sheet} (r₂ : Reading Fault Sheet) {f : Fault} → r₁ ≡ refusal f
      → both_of role₁ role₂ r₁ r₂ ≡ refusal (in_sheet 1 f)
  unfolding both_of
  first-refused r₂ h = then-refused _ (placed-refused 1 h)

  second-refused : {r₁ r₂ : Reading Fault Sheet} {s : Sheet} {f : Fault} → r₁ ≡ good s → r₂ ≡ refusal f
      → both_of role₁ role₂ r₁ r₂ ≡ refusal (in_sheet 2 f)
  unfolding both_of then in_place
  second-refused h h' = rw h (then-refused _ (placed-refused 2 h'))

  module _ (b₁ b₂ : List ℕ) where
    abbrev were : Reading Refusal Both
    were = both_before role₁ role₂ b₁ b₂

    abbrev are : Reading Refusal Both
    are = read_both role₁ role₂ b₁ b₂

    first-changed : FiveToSix b₁ → PairFiveToSix 1 b₁ were are
    first-changed s =
        record {
          sheet = s;
          before = first-refused (read_before b₂) s.before;
          now = both-now b₁ b₂ ∙ first-refused (read_sheet b₂) s.now;
        }

    module _ (one : Same b₁) where
      first-same : {f : Fault} → read_before b₁ ≡ refusal f → are ≡ were
      first-same h = both-now b₁ b₂ ∙ first-refused (read_sheet b₂) (one.answer ∙ h) ∙ sym (first-refused (read_before b₂) h)

      second-same : Same b₂ → are ≡ were
      second-same two = both-now b₁ b₂ ∙ ap₂ (both_of role₁ role₂) one.answer two.answer

      second-changed : {s : Sheet} → read_before b₁ ≡ good s → FiveToSix b₂ → PairFiveToSix 2 b₂ were are
      second-changed h s =
          record {
            sheet = s;
            before = second-refused h s.before;
            now = both-now b₁ b₂ ∙ second-refused (one.answer ∙ h) s.now;
          }

-- what changed of two sheets
pub pair-amended : PairAmended
pair-amended role₁ role₂ b₁ b₂ = go (amended b₁) (read_before b₁) refl (amended b₂)
  where
    go : Same b₁ ⊎ FiveToSix b₁ → (r : Reading Fault Sheet) → read_before b₁ ≡ r → Same b₂ ⊎ FiveToSix b₂
        → (are role₁ role₂ b₁ b₂ ≡ were role₁ role₂ b₁ b₂)
        ⊎ (PairFiveToSix 1 b₁ (were role₁ role₂ b₁ b₂) (are role₁ role₂ b₁ b₂)
        ⊎ PairFiveToSix 2 b₂ (were role₁ role₂ b₁ b₂) (are role₁ role₂ b₁ b₂))
    go (inr one) r e two = inr (inl (first-changed role₁ role₂ b₁ b₂ one))
    go (inl one) (refusal f) e two = inl (first-same role₁ role₂ b₁ b₂ one e)
    go (inl one) (good s) e (inl two) = inl (second-same role₁ role₂ b₁ b₂ one two)
    go (inl one) (good s) e (inr two) = inr (inr (second-changed role₁ role₂ b₁ b₂ one e two))
