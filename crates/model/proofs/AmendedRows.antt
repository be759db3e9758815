-- A row under both readings: the tests before the masks are the same, and so is what follows them.
-- Assumes nothing.
use mathlib.Core.Path.{◌≡◌, refl, sym, ap, subst⁻¹, ◌∙◌}
use mathlib.Core.Bool.{Bool, true, false, ◌&&◌, false≢true}
use mathlib.Core.Logic.{◌⊎◌, inl, inr}
use mathlib.Core.List.{List}
use Prim.Native.Nat.{ℕ, ◌+◌, ◌*◌, ◌≤◌, ◌<◌}
use native.Mathlib.Omega.{arith}
use lib.Dec.{T, ltb, leb, leb→le, le→leb, lt→ltb}
use borrow.Author.Tests.{le-leb, leb-true, ltb-true}
use Rattle.model.specs.Bytes.{byte}
use Rattle.model.specs.Sheet.{Reading, refusal, check, then, Fault, Trailer, masks_from, Row, row_with, row_at}
use Rattle.model.specs.Amended.{masks_before, row_before, first_low, first_stray, goes_to_six}
use Rattle.model.proofs.Lists.{is_true, and_both, and-of}
use Rattle.model.proofs.Sheet.{refusal-injective, then-refused}
use Rattle.model.proofs.AmendedMasks.{SameMasks, OtherMasks, masks-amended}

module _ (b : List ℕ) (t : Trailer) (q : ℕ) where
  module _ (i : ℕ) where
    pub record SameRow : Type 0 where
      pub answer : row_at b t q i ≡ row_before b t q i
      pub no_such_row : (f : Fault) → row_before b t q i ≡ refusal f → f.number ≡ 5 → goes_to_six b t i ≡ false

    pub record OtherRow : Type 0 where
      pub such_row : goes_to_six b t i ≡ true
      pub before : row_before b t q i ≡ refusal (record { number = 5; state = q; offset = i + 1 + 2 * first_low b i })
      pub now : row_at b t q i ≡ refusal (record { number = 6; state = q; offset = i + 1 + 2 * first_stray b t i })

    abbrev count : ℕ
    count = byte b i

    -- what such a row is, and what it is not
    goes : count ≤ 8 → first_low b i ≤ first_stray b t i → first_stray b t i < count → goes_to_six b t i ≡ true
    unfolding goes_to_six
    goes few behind within =
        is_true (goes_to_six b t i)
        (and-of (leb count 8) _ (le→leb count 8 few)
        (and-of (leb (first_low b i) (first_stray b t i)) _ (le→leb _ _ behind) (lt→ltb _ _ within)))

    goes-not : (count ≤ 8 → first_low b i ≤ first_stray b t i → first_stray b t i < count → ⊥) → goes_to_six b t i ≡ false
    unfolding goes_to_six
    goes-not h = go (leb count 8) refl (leb (first_low b i) (first_stray b t i)) refl (ltb (first_stray b t i) count) refl
      where
        go : (few : Bool) → leb count 8 ≡ few → (behind : Bool) → leb (first_low b i) (first_stray b t i) ≡ behind
            → (within : Bool) → ltb (first_stray b t i) count ≡ within → (few && (behind && within)) ≡ false
        go true f true d true w = absurd (h (leb-true _ _ f) (leb-true _ _ d) (ltb-true _ _ w))
        go true f true d false w = refl
        go true f false d within w = refl
        go false f behind d within w = refl

    -- a test before the masks fails
    refused-alike : (e : Fault) → row_at b t q i ≡ refusal e → row_before b t q i ≡ refusal e
        → (e.number ≡ 5 → goes_to_six b t i ≡ false) → SameRow
    refused-alike e r r' h =
        record {
          answer = r ∙ sym r';
          no_such_row = λ f s five. h (ap (λ (g : Fault). g.number) (refusal-injective (sym r' ∙ s)) ∙ five);
        }

    row-none : ltb i t.index ≡ false → SameRow
    unfolding row_at row_before check
    row-none h =
        refused-alike (record { number = 4; state = q; offset = t.index }) (rw h refl) (rw h refl)
        (λ (five : 4 ≡ 5). absurd (omega arith))

    module _ (there : ltb i t.index ≡ true) where
      row-miscounted : (leb 1 count && leb count 8) ≡ false → SameRow
      unfolding row_at row_before check
      row-miscounted h =
          refused-alike (record { number = 5; state = q; offset = i }) (rw (there, h) refl) (rw (there, h) refl)
          (λ five. goes-not (λ few behind within.
          false≢true (sym (rw (le-leb 1 count (omega arith), le-leb count 8 few) at h))))

      module _ (counted : (leb 1 count && leb count 8) ≡ true) where
        row_cut : leb (i + 1 + 2 * count) t.index ≡ false → SameRow
        unfolding row_at row_before check
        row_cut h =
            refused-alike (record { number = 4; state = q; offset = t.index }) (rw (there, counted, h) refl) (rw (there, counted, h) refl)
            (λ (five : 4 ≡ 5). absurd (omega arith))

        module _ (whole : leb (i + 1 + 2 * count) t.index ≡ true) where
          abbrev rest : List ℕ → Reading Fault Row
          rest = row_with b t q (i + 1 + 2 * count)

          row_now : row_at b t q i ≡ then (masks_from b t q count 0 (i + 1)) rest
          unfolding row_at check
          row_now = rw (there, counted, whole) refl

          row-before : row_before b t q i ≡ then (masks_before b t q count 0 (i + 1)) rest
          unfolding row_before check
          row-before = rw (there, counted, whole) refl

          same_row : SameMasks b t q count 0 (i + 1) → SameRow
          same_row m =
              record {
                answer = row_now ∙ ap (λ r. then r rest) m.answer ∙ sym row-before;
                no_such_row = λ f s five. goes-not (λ few behind within. omega (arith, m.apart behind));
              }

          few : count ≤ 8
          few = leb→le count 8 (and_both (leb 1 count) (leb count 8) (subst⁻¹ T counted tt)).1

          other_row : OtherMasks b t q count 0 (i + 1) → OtherRow
          other_row m =
              record {
                such_row = goes few m.behind m.within;
                before = row-before ∙ then-refused rest m.before;
                now = row_now ∙ then-refused rest m.now;
              }

    -- a row is read as before, or goes from 5 to 6
    pub row-amended : SameRow ⊎ OtherRow
    row-amended =
        go (ltb i t.index) refl (leb 1 count && leb count 8) refl (leb (i + 1 + 2 * count) t.index) refl
        (masks-amended b t q count 0 (i + 1))
      where
        go : (there : Bool) → ltb i t.index ≡ there → (counted : Bool) → (leb 1 count && leb count 8) ≡ counted
            → (whole : Bool) → leb (i + 1 + 2 * count) t.index ≡ whole
            → SameMasks b t q count 0 (i + 1) ⊎ OtherMasks b t q count 0 (i + 1) → SameRow ⊎ OtherRow
        go false h counted c whole w m = inl (row-none h)
        go true h false c whole w m = inl (row-miscounted h c)
        go true h true c false w m = inl (row_cut h c w)
        go true h true c true w (inl m) = inl (same_row h c w m)
        go true h true c true w (inr m) = inr (other_row h c w m)
