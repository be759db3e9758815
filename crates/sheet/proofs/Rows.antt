-- What a good reading of masks, successors, a row and the states says of the bytes, by induction over what is left to
-- read. The last law places every row where the index says. Assumes nothing.
use mathlib.Core.Path.{◌≡◌, refl, sym, ap, subst, ◌∙◌}
use mathlib.Core.Bool.{false}
use mathlib.Core.List.{List, ◌∷◌}
use Prim.Native.Nat.{ℕ, zero, suc, ◌+◌, ◌*◌, ◌<◌, ◌≤◌}
use native.Mathlib.Omega.{arith}
use lib.Dec.{leb}
use lib.ListN.{length, get_or}
use borrow.Author.Tests.{ltb-true, leb-true, eqb-true}
use Rattle.model.specs.Lists.{keep, place}
use Rattle.model.specs.Bytes.{byte, word}
use Rattle.model.specs.Contract.{State, nowhere, actions, offers_in}
use Rattle.model.specs.Sheet.{good, Trailer, Row, stray_bit, words_from, masks_from, successors_from, row_with, row_at, states_from}
use Rattle.model.proofs.Lists.{both_true, get_d_mem, none_passes}
use Rattle.model.proofs.RowMasks.{length-words, words-place}
use Rattle.model.proofs.Sheet.{good-injective, then-good}
use Rattle.sheet.proofs.Reading.{check-true}

-- masks stand at i
record MasksStand (b : List ℕ) (t : Trailer) (i count : ℕ) (masks : List ℕ) : Type 0 where
  pub size : length masks ≡ count
  pub each : (k : ℕ) → k < count → word b (i + 2 * k) ≡ get_or masks k 0
  pub clean : (k : ℕ) → k < count → stray_bit t.n t.role (get_or masks k 0) ≡ false

-- successors stand at i
record SuccessorsStand (b : List ℕ) (t : Trailer) (i count : ℕ) (successors : List ℕ) : Type 0 where
  pub size : length successors ≡ count
  pub each : (k : ℕ) → k < count → byte b (i + k) ≡ get_or successors k 0
  pub within : (k : ℕ) → k < count → get_or successors k 0 < t.count

-- the row of a state stands at i
pub record RowStands (b : List ℕ) (t : Trailer) (i : ℕ) (s : State) : Type 0 where
  pub count : byte b i ≡ length s.ready
  pub some : 1 ≤ length s.ready
  pub few : length s.ready ≤ 8
  pub masks : (k : ℕ) → k < length s.ready → word b (i + 1 + 2 * k) ≡ get_or s.ready k 0
  pub clean : (k : ℕ) → k < length s.ready → stray_bit t.n t.role (get_or s.ready k 0) ≡ false
  pub offered : length s.successors ≡ length (keep (offers_in s.ready) actions)
  pub successors : (k : ℕ) → k < length s.successors
      → byte b (i + 1 + 2 * length s.ready + k) ≡ get_or s.successors k 0
  pub within : (k : ℕ) → k < length s.successors → get_or s.successors k 0 < t.count
  pub inside : i + 1 + 2 * length s.ready + length s.successors ≤ t.index

-- the rows of states, from state q on, stand where the index says
pub record StatesStand (b : List ℕ) (t : Trailer) (q count : ℕ) (states : List State) : Type 0 where
  pub size : length states ≡ count
  pub each : (k : ℕ) → k < count → RowStands b t (word b (t.index + 2 * (q + k))) (get_or states k nowhere)

module _ (b : List ℕ) (t : Trailer) where
  masks-stand : (q count least i : ℕ) (masks : List ℕ) → masks_from b t q count least i ≡ good masks
      → MasksStand b t i count masks
  unfolding masks_from
  masks-stand q count least i masks h =
      let stray = stray_bit t.n t.role in
      let clean = check-true _ _ _ h in
      let ordered = check-true _ _ _ clean.1 in
      let size = length-words b count i in
      let none = none_passes stray (words_from b count i) (omega (arith, size, leb-true count (place stray (words_from b count i)) clean.0)) in
      subst (MasksStand b t i count) (good-injective ordered.1)
      (record {
        size = size;
        each = λ k l. sym (words-place b count i k l);
        clean = λ k l. none _ (get_d_mem (words_from b count i) k 0 (omega (arith, size)));
      })

  successors-cons : (i left : ℕ) (successors : List ℕ) → byte b i < t.count
      → SuccessorsStand b t (i + 1) left successors → SuccessorsStand b t i (suc left) (byte b i ∷ successors)
  successors-cons i left successors l s = record { size = ap suc s.size; each = each; within = within } where
    each : (k : ℕ) → k < suc left → byte b (i + k) ≡ get_or (byte b i ∷ successors) k 0
    each zero h = ap (byte b) (omega arith)
    each (suc k) h = ap (byte b) (omega arith) ∙ s.each k (omega arith)

    within : (k : ℕ) → k < suc left → get_or (byte b i ∷ successors) k 0 < t.count
    within zero h = l
    within (suc k) h = s.within k (omega arith)

  successors-stand : (q left i : ℕ) (successors : List ℕ) → successors_from b t q left i ≡ good successors
      → SuccessorsStand b t i left successors
  unfolding successors_from
  successors-stand q zero i successors h =
      subst (SuccessorsStand b t i zero) (good-injective h)
      (record { size = refl; each = λ k l. absurd (omega arith); within = λ k l. absurd (omega arith) })
  successors-stand q (suc left) i successors h =
      let within = check-true _ _ _ h in
      let rest = then-good _ _ within.1 in
      subst (SuccessorsStand b t i (suc left)) (good-injective rest.2)
      (successors-cons i left rest.0 (ltb-true _ _ within.0)
      (successors-stand q left (i + 1) rest.0 rest.1))

  row_made : (i offered : ℕ) (masks successors : List ℕ) → 1 ≤ byte b i → byte b i ≤ 8
      → offered ≡ length (keep (offers_in masks) actions) → i + 1 + 2 * byte b i + offered ≤ t.index
      → MasksStand b t (i + 1) (byte b i) masks → SuccessorsStand b t (i + 1 + 2 * byte b i) offered successors
      → RowStands b t i (record { ready = masks; successors = successors })
  row_made i offered masks successors some few o inside m s =
      record {
        count = sym m.size;
        some = omega (arith, m.size);
        few = omega (arith, m.size);
        masks = λ k h. m.each k (omega (arith, m.size));
        clean = λ k h. m.clean k (omega (arith, m.size));
        offered = s.size ∙ o;
        successors = λ k h. ap (byte b) (omega (arith, m.size)) ∙ s.each k (omega (arith, s.size));
        within = λ k h. s.within k (omega (arith, s.size));
        inside = omega (arith, m.size, s.size);
      }

  pub row-reading : (q i : ℕ) (row : Row) → row_at b t q i ≡ good row
      → RowStands b t i row.state × (row.behind ≤ t.index)
  unfolding row_at row_with
  row-reading q i row h =
      let present = check-true _ _ _ h in
      let counted = check-true _ _ _ present.1 in
      let size = both_true (leb 1 (byte b i)) (leb (byte b i) 8) counted.0 in
      let masks = then-good _ _ (check-true _ _ _ counted.1).1 in
      let room = check-true _ _ _ masks.2 in
      let successors = then-good _ _ room.1 in
      let inside = leb-true _ _ room.0 in
      subst (λ (r : Row). RowStands b t i r.state × (r.behind ≤ t.index)) (good-injective successors.2) (
        row_made i _ masks.0 successors.0 (leb-true _ _ size.0) (leb-true _ _ size.1) refl inside
            (masks-stand q _ _ _ masks.0 masks.1)
            (successors-stand q _ _ successors.0 successors.1),
        inside,
      )

  states-cons : (q left i : ℕ) (s : State) (states : List State) → word b (t.index + 2 * q) ≡ i
      → RowStands b t i s → StatesStand b t (suc q) left states → StatesStand b t q (suc left) (s ∷ states)
  states-cons q left i s states e row rest = record { size = ap suc rest.size; each = each } where
    each : (k : ℕ) → k < suc left → RowStands b t (word b (t.index + 2 * (q + k))) (get_or (s ∷ states) k nowhere)
    each zero h = subst (λ (p : ℕ). RowStands b t p s) (sym e ∙ ap (word b) (omega arith)) row
    each (suc k) h =
        subst (λ (p : ℕ). RowStands b t (word b p) (get_or states k nowhere)) (omega arith) (rest.each k (omega arith))

  -- every row stands where the index says
  pub states-stand : (left q i : ℕ) (states : List State) → states_from b t left q i ≡ good states
      → StatesStand b t q left states
  unfolding states_from
  states-stand zero q i states h =
      subst (StatesStand b t q zero) (good-injective (check-true _ _ _ h).1)
      (record { size = refl; each = λ k l. absurd (omega arith) })
  states-stand (suc left) q i states h =
      let entry = check-true _ _ _ h in
      let row = then-good _ _ entry.1 in
      let rest = then-good _ _ row.2 in
      subst (StatesStand b t q (suc left)) (good-injective rest.2)
      (states-cons q left i row.0.state rest.0 (eqb-true _ _ entry.0)
      (row-reading q i row.0 row.1).0
      (states-stand left (suc q) row.0.behind rest.0 rest.1))
