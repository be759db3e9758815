-- The byte at fault in a row: each test that fails says what is wrong at the offset it gives, as all tests before it have passed. From the
-- successors and the masks up to the row.
-- Assumes nothing.
use mathlib.Core.Path.{◌≡◌, refl, sym, ap, subst, subst⁻¹, ◌∙◌}
use mathlib.Core.Bool.{Bool, true, false, ◌&&◌}
use mathlib.Core.Logic.{◌⊎◌, inl, inr}
use mathlib.Core.List.{List}
use Prim.Native.Nat.{ℕ, zero, suc, ◌+◌, ◌*◌, ◌≤◌, ◌<◌}
use native.Mathlib.Omega.{arith}
use lib.ListN.{length, get_or}
use lib.Dec.{ltb, leb, leb→le}
use borrow.Author.Tests.{leb-true, leb-false, ltb-true, ltb-false}
use Rattle.model.specs.Lists.{keep, place}
use Rattle.model.specs.Bytes.{byte, word}
use Rattle.model.specs.Contract.{actions, offers_in}
use Rattle.model.specs.Sheet.{good, Fault, Trailer, trailer, stray_bit, out_of_order, words_from, masks_from, successors_from, Row, row_with, row_at}
use Rattle.model.specs.AtFault.{mask_place, behind_masks, successor_count, row_end, entry_place, AtFault, missing, wrong_count, low_mask}
use Rattle.model.specs.AtFault.{stray_mask, wrong_successor}
use Rattle.model.proofs.Lists.{place-passes, place-first}
use Rattle.model.proofs.RowMasks.{length-words, words-place, order-breaks, order-holds, order-begins}
use Rattle.model.proofs.Sheet.{good-injective, check-good, then-good}
use Rattle.model.proofs.Refusals.{OnlyRefused, only-tested, only-read, only-weaker}

-- a fault of the row of state q, which has to begin at i
pub record OfRow (b : List ℕ) (q i : ℕ) (f : Fault) : Type 0 where
  pub state : f.state ≡ q
  pub high : 4 ≤ f.number
  pub inside : f.offset ≤ (trailer b).index
  pub fault : AtFault b i f

module _ (b : List ℕ) (q : ℕ) where
  abbrev t : Trailer
  t = trailer b

  -- a fault of one of `left` successors from j on: the first that is no state
  record OfSuccessor (left j : ℕ) (f : Fault) : Type 0 where
    place : ℕ
    few : place < left
    is : f ≡ record { number = 7; state = q; offset = j + place }
    wrong : t.count ≤ byte b (j + place)
    before : (l : ℕ) → l < place → byte b (j + l) < t.count

  successor-later : (left j : ℕ) → byte b j < t.count → (f : Fault) → OfSuccessor left (j + 1) f → OfSuccessor (suc left) j f
  successor-later left j good-first f o =
      let along : j + 1 + o.place ≡ j + suc o.place = omega arith in
      record {
        place = suc o.place;
        few = omega (arith, o.few);
        is = o.is ∙ ap (λ (n : ℕ). record { number = 7; state = q; offset = n }) along;
        wrong = subst (λ (n : ℕ). t.count ≤ byte b n) along o.wrong;
        before = earlier;
      }
    where
      earlier : (l : ℕ) → l < suc o.place → byte b (j + l) < t.count
      earlier zero h = subst (λ (n : ℕ). byte b n < t.count) (omega arith) good-first
      earlier (suc l) h = subst (λ (n : ℕ). byte b n < t.count) (omega arith) (o.before l (omega arith))

  successors-at : (left j : ℕ) → OnlyRefused (OfSuccessor left j) (successors_from b t q left j)
  unfolding successors_from
  successors-at zero j = tt
  successors-at (suc left) j =
      only-tested (OfSuccessor (suc left) j) (ltb (byte b j) t.count) _ _
      (λ h.
      let here : j ≡ j + 0 = omega arith in
      record {
        place = 0;
        few = omega arith;
        is = ap (λ (n : ℕ). record { number = 7; state = q; offset = n }) here;
        wrong = subst (λ (n : ℕ). t.count ≤ byte b n) here (ltb-false _ _ h);
        before = λ l k. absurd (omega arith);
      })
      (λ h.
      only-read (OfSuccessor (suc left) j) (successors_from b t q left (j + 1)) _
      (only-weaker _ _ (successor-later left j (ltb-true _ _ h)) (successors_from b t q left (j + 1)) (successors-at left (j + 1)))
      (λ _ _. tt))

  module _ (i : ℕ) (entered : word b (entry_place b q) ≡ i) where
    abbrev count : ℕ
    count = byte b i

    abbrev masks : List ℕ
    masks = words_from b count (i + 1)

    mask_at : (m : ℕ) → m < count → get_or masks m 0 ≡ word b (mask_place i m)
    unfolding mask_place
    mask_at m h = words-place b count (i + 1) m h

    -- a row that is too long for the bytes before the index
    row-missing : (trailer b).index < row_end b i → OfRow b q i (record { number = 4; state = q; offset = (trailer b).index })
    row-missing h = record { state = refl; high = omega arith; inside = omega arith; fault = missing refl entered refl h }

    mask-stray : (m : ℕ) → m ≡ place (stray_bit t.n t.role) masks → m < count → i + 1 + 2 * count ≤ t.index
        → OfRow b q i (record { number = 6; state = q; offset = i + 1 + 2 * m })
    unfolding mask_place
    mask-stray m is few present =
        let stray = stray_bit t.n t.role in
        let size = length-words b count (i + 1) in
        record {
          state = refl;
          high = omega arith;
          inside = omega arith;
          fault =
              stray_mask m refl few refl
              (ap stray (sym (mask_at m few)) ∙ ap (λ (n : ℕ). stray (get_or masks n 0)) is ∙ place-passes stray masks 0 (omega arith))
              (λ l h. ap stray (sym (mask_at l (omega arith))) ∙ place-first stray masks 0 l (omega arith));
        }

    mask_low : (m : ℕ) → m ≡ out_of_order 0 masks → m < count → i + 1 + 2 * count ≤ t.index
        → OfRow b q i (record { number = 5; state = q; offset = i + 1 + 2 * m })
    unfolding mask_place
    mask_low zero is few present = absurd (omega (arith, order-begins masks (omega (arith, length-words b count (i + 1)))))
    mask_low (suc m) is few present =
        let size = length-words b count (i + 1) in
        record {
          state = refl;
          high = omega arith;
          inside = omega arith;
          fault =
              low_mask m refl few refl
              (omega (arith, mask_at (suc m) few, mask_at m (omega arith), order-breaks 0 masks m (sym is) (omega arith)))
              (λ l h. omega (arith, mask_at l (omega arith), mask_at (suc l) (omega arith), order-holds 0 masks l (omega arith)));
        }

    masks_are : (read : List ℕ) → masks_from b t q count 0 (i + 1) ≡ good read → masks ≡ read
    unfolding masks_from
    masks_are read h = good-injective (check-good _ _ _ (check-good _ _ _ h).1).1

    masks-at : i + 1 + 2 * count ≤ t.index → OnlyRefused (OfRow b q i) (masks_from b t q count 0 (i + 1))
    unfolding masks_from
    masks-at present =
        only-tested (OfRow b q i) (leb count (place (stray_bit t.n t.role) masks)) _ _
        (λ h. mask-stray _ refl (leb-false _ _ h) present)
        (λ _. only-tested (OfRow b q i) (leb count (out_of_order 0 masks)) _ _ (λ h. mask_low _ refl (leb-false _ _ h) present) (λ _. tt))

    successor-wrong : behind_masks b i + successor_count b i ≤ t.index → (f : Fault) → OfSuccessor (successor_count b i) (behind_masks b i) f → OfRow b q i f
    successor-wrong present f o =
        subst⁻¹ (OfRow b q i) o.is
        (record {
          state = refl;
          high = omega arith;
          inside = omega (arith, o.few);
          fault = wrong_successor o.place refl o.few refl o.wrong o.before;
        })

    row-with : OnlyRefused (OfRow b q i) (row_with b t q (behind_masks b i) masks)
    unfolding row_with row_end successor_count
    row-with =
        only-tested (OfRow b q i) (leb (behind_masks b i + successor_count b i) t.index) _ _
        (λ h. row-missing (leb-false _ _ h))
        (λ h.
        only-read (OfRow b q i) (successors_from b t q (successor_count b i) (behind_masks b i)) _
        (only-weaker _ _ (successor-wrong (leb-true _ _ h)) (successors_from b t q (successor_count b i) (behind_masks b i))
        (successors-at (successor_count b i) (behind_masks b i)))
        (λ _ _. tt))

    row_count : (leb 1 count && leb count 8) ≡ false → (count < 1) ⊎ (8 < count)
    row_count h = go (leb 1 count) refl h
      where
        go : (some : Bool) → leb 1 count ≡ some → (some && leb count 8) ≡ false → (count < 1) ⊎ (8 < count)
        go true e h = inr (leb-false count 8 h)
        go false e h = inl (leb-false 1 count e)

    pub row-at : OnlyRefused (OfRow b q i) (row_at b t q i)
    unfolding row_at row_end behind_masks mask_place
    row-at =
        only-tested (OfRow b q i) (ltb i t.index) _ _ (λ h. row-missing (omega (arith, ltb-false i t.index h)))
        (λ h.
        only-tested (OfRow b q i) (leb 1 count && leb count 8) _ _
        (λ c. record { state = refl; high = omega arith; inside = omega (arith, ltb-true i t.index h); fault = wrong_count refl refl (row_count c) })
        (λ _.
        only-tested (OfRow b q i) (leb (i + 1 + 2 * count) t.index) _ _ (λ h. row-missing (omega (arith, leb-false (i + 1 + 2 * count) t.index h)))
        (λ h.
        only-read (OfRow b q i) (masks_from b t q count 0 (i + 1)) _ (masks-at (leb-true _ _ h))
        (λ read is. subst (λ (m : List ℕ). OnlyRefused (OfRow b q i) (row_with b t q (i + 1 + 2 * count) m)) (masks_are read is) row-with))))

    -- where a row that is read ends
    pub row_ends : (row : Row) → row_at b t q i ≡ good row → (row.behind ≡ row_end b i) × (row.behind ≤ t.index)
    unfolding row_at row_with row_end behind_masks mask_place successor_count
    row_ends row h =
        let present = check-good _ _ _ (check-good _ _ _ (check-good _ _ _ h).1).1 in
        let read = then-good _ _ present.1 in
        let masks-is = masks_are read.0 read.1 in
        let fits = check-good _ _ _ read.2 in
        let done = then-good _ _ fits.1 in
        let behind-is : i + 1 + 2 * count + length (keep (offers_in read.0) actions) ≡ row.behind = ap (λ (r : Row). r.behind) (good-injective done.2) in
        let same : length (keep (offers_in masks) actions) ≡ length (keep (offers_in read.0) actions) = ap (λ (m : List ℕ). length (keep (offers_in m) actions)) masks-is in
        let few : i + 1 + 2 * count + length (keep (offers_in read.0) actions) ≤ t.index = leb→le _ _ fits.0 in
        (omega arith, omega arith)
