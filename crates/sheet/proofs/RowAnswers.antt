-- The answers on masks, successors and rows, case by case: a law for each way in which one is found whole or at fault.
-- Each unfolds one step of the model's reading. Assumes nothing.
use mathlib.Core.Path.{◌≡◌, refl, sym, ap, ◌∙◌}
use mathlib.Core.Bool.{Bool, true, false, cond}
use mathlib.Core.List.{List, [], ◌∷◌}
use Prim.Native.Nat.{ℕ, zero, suc, ◌+◌, ◌-◌, ◌*◌, ◌<◌, ◌≤◌}
use native.Mathlib.Omega.{arith}
use native.Mathlib.Numerals.{sub-one}
use lib.Dec.{ltb, leb}
use lib.Bits.{or_zero_l}
use lib.ListN.{length}
use borrow.Author.Tests.{lt-ltb, le-ltb, le-leb, lt-leb, ltb-true, ltb-false}
use Rattle.std.specs.Prelude.{Option, Some, None}
use Rattle.std.specs.Option.{IsSome, is_some}
use Rattle.model.specs.Lists.{keep, place}
use Rattle.model.specs.Bytes.{byte}
use Rattle.model.specs.Contract.{actions, offers_in}
use Rattle.model.specs.Sheet.{Reading, Fault, Trailer, Row, good, refusal, check, then, stray_bit, out_of_order, words_from, masks_from}
use Rattle.model.specs.Sheet.{successors_from, row_with, row_at}
use Rattle.model.proofs.RowMasks.{length-words}
use Rattle.sheet.specs.Union.{union_from, union_of, ones_below}
use Rattle.sheet.specs.Answers.{on_result, whole, behind_of, found}
use Rattle.sheet.proofs.Ones.{ones-offered}
use Rattle.sheet.proofs.Scan.{found-within, found-some, found-none}
use Rattle.sheet.proofs.StrayUnion.{stray-union}
use Rattle.sheet.proofs.Answers.{on-then, was-good, was-refusal}
use Rattle.sheet.proofs.Rows.{row-reading}

module _ (b : List ℕ) (t : Trailer) (q : ℕ) where
  -- a fault of state q
  abbrev at-fault : {A : Type 0} (number offset : ℕ) → Reading Fault A
  at-fault number offset = refusal (record { number = number; state = q; offset = offset })

  -- ---- masks

  -- the first of the masks from i on that has a stray bit
  abbrev first_stray : (count i : ℕ) → ℕ
  first_stray count i = place (stray_bit t.n t.role) (words_from b count i)

  module _ (count i union : ℕ) (u : union ≡ union_of (words_from b count i)) where
    -- the union tells whether the first mask with a stray bit is one of the masks
    noisy : stray_bit t.n t.role union ≡ ltb (first_stray count i) count
    noisy =
        ap (stray_bit t.n t.role) u ∙ stray-union t.n t.role (words_from b count i)
        ∙ ap (ltb (first_stray count i)) (length-words b count i)

    pub masks-noisy : stray_bit t.n t.role union ≡ true → (stray : ℕ) → found count (first_stray count i) ≡ Some stray
        → at-fault 6 (i + 2 * stray) ≡ on_result union_of (masks_from b t q count 0 i)
    unfolding masks_from check then
    masks-noisy s stray e =
        let w = found-some count (first_stray count i) stray e in rw (w.0, lt-leb count (first_stray count i) w.1) refl

    -- one of the masks has one
    pub masks-some : stray_bit t.n t.role union ≡ true → (o : Option ℕ) → o ≡ found count (first_stray count i) → IsSome o
    masks-some s o e = ap is_some (e ∙ found-within count (first_stray count i) (ltb-true _ _ (sym noisy ∙ s)))

    module _ (clean : stray_bit t.n t.role union ≡ false) (low : Option ℕ)
        (e : low ≡ found count (out_of_order 0 (words_from b count i))) where
      -- no mask has a stray bit, so their order decides
      ordered : leb count (first_stray count i) ≡ true
      ordered = le-leb count _ (ltb-false _ _ (sym noisy ∙ clean))

      pub masks-low : (k : ℕ) → low ≡ Some k → at-fault 5 (i + 2 * k) ≡ on_result union_of (masks_from b t q count 0 i)
      unfolding masks_from check then
      masks-low k h =
          let w = found-some count (out_of_order 0 (words_from b count i)) k (sym e ∙ h) in rw (ordered, w.0, lt-leb count _ w.1) refl

      pub masks-whole : low ≡ None → good union ≡ on_result union_of (masks_from b t q count 0 i)
      unfolding masks_from check then
      masks-whole h = rw (ordered, le-leb count _ (found-none count (out_of_order 0 (words_from b count i)) (sym e ∙ h)), u) refl

  -- ---- successors
  pub successors-none : (left i : ℕ) → left ≤ 0 → whole (successors_from b t q left i) ≡ good tt
  unfolding successors_from then
  successors-none zero i h = refl
  successors-none (suc left) i h = absurd (omega arith)

  pub successors-fault : (left i : ℕ) → 0 < left → t.count ≤ byte b i → whole (successors_from b t q left i) ≡ at-fault 7 i
  unfolding successors_from check then
  successors-fault zero i h l = absurd (omega arith)
  successors-fault (suc left) i h l = simp (le-ltb (byte b i) t.count l)

  pub successors-more : (left i : ℕ) → 0 < left → byte b i < t.count
      → whole (successors_from b t q left i) ≡ whole (successors_from b t q (left - 1) (i + 1))
  unfolding successors_from check
  successors-more zero i h l = absurd (omega arith)
  successors-more (suc left) i h l =
      rw (sub-one (suc left))
      (simp (lt-ltb (byte b i) t.count l)
      (on-then (λ s. tt) (λ successors. byte b i ∷ successors) (successors_from b t q left (i + 1))))

  -- ---- what follows the masks at i: the answer depends only on how many actions are offered
  behind_masks : (i offered : ℕ) → Reading Fault ℕ
  behind_masks i offered =
      cond (leb (i + offered) t.index)
      (on_result (λ s. i + offered) (successors_from b t q offered i))
      (at-fault 4 t.index)

  module _ (ready : List ℕ) where
    row_of : ℕ → List ℕ → Row
    row_of i successors = record { state = record { ready = ready; successors = successors }; behind = i }

    behind_test : (i offered : ℕ) (present : Bool)
        → on_result behind_of (check present (record { number = 4; state = q; offset = t.index })
        (on_result (row_of (i + offered)) (successors_from b t q offered i)))
        ≡ cond present (on_result (λ s. i + offered) (successors_from b t q offered i)) (at-fault 4 t.index)
    unfolding check then row_of
    behind_test i offered true = on-then behind_of (row_of (i + offered)) (successors_from b t q offered i)
    behind_test i offered false = refl

    behind-masks : (i : ℕ) → on_result behind_of (row_with b t q i ready) ≡ behind_masks i (ones_below (union_of ready) 14)
    unfolding row_with behind_masks row_of
    behind-masks i =
        let offered = length (keep (offers_in ready) actions) in
        behind_test i offered (leb (i + offered) t.index) ∙ ap (behind_masks i) (ones-offered ready)

  behind-union : (i union : ℕ) → on_result behind_of (row_with b t q i (union ∷ [])) ≡ behind_masks i (ones_below union 14)
  unfolding union_of union_from
  behind-union i union =
      behind-masks (union ∷ []) i ∙ ap (λ (u : ℕ). behind_masks i (ones_below u 14)) (or_zero_l union)

  module _ (i union offered : ℕ) (o : offered ≡ ones_below union 14) where
    behind-offered : behind_masks i offered ≡ on_result behind_of (row_with b t q i (union ∷ []))
    behind-offered = ap (behind_masks i) o ∙ sym (behind-union i union)

    pub behind-short : t.index < i + offered → at-fault 4 t.index ≡ on_result behind_of (row_with b t q i (union ∷ []))
    unfolding behind_masks
    behind-short l = simp (lt-leb _ _ l) at behind-offered

    module _ (l : i + offered ≤ t.index) where
      behind-checked : on_result (λ s. i + offered) (successors_from b t q offered i) ≡ on_result behind_of (row_with b t q i (union ∷ []))
      unfolding behind_masks
      behind-checked = simp (le-leb _ _ l) at behind-offered

      pub behind-fault : (f : Fault) → refusal f ≡ whole (successors_from b t q offered i)
          → refusal f ≡ on_result behind_of (row_with b t q i (union ∷ []))
      unfolding then
      behind-fault f h =
          sym (ap (on_result (λ s. i + offered)) (was-refusal (λ s. tt) (successors_from b t q offered i) f h)) ∙ behind-checked

      pub behind-whole : good tt ≡ whole (successors_from b t q offered i)
          → good (i + offered) ≡ on_result behind_of (row_with b t q i (union ∷ []))
      unfolding then
      behind-whole h =
          sym (ap (on_result (λ s. i + offered)) (was-good (λ s. tt) (successors_from b t q offered i) tt h).1) ∙ behind-checked

  -- ---- a row
  module _ (i : ℕ) where
    abbrev behind : ℕ
    behind = i + 1 + 2 * byte b i

    pub row-none : t.index ≤ i → at-fault 4 t.index ≡ on_result behind_of (row_at b t q i)
    unfolding row_at check then
    row-none h = simp (le-ltb i t.index h)

    module _ (h : i < t.index) where
      pub row-few : byte b i < 1 → at-fault 5 i ≡ on_result behind_of (row_at b t q i)
      unfolding row_at check then
      row-few l = simp (lt-ltb i t.index h, lt-leb 1 (byte b i) l)

      pub row-many : 1 ≤ byte b i → 8 < byte b i → at-fault 5 i ≡ on_result behind_of (row_at b t q i)
      unfolding row_at check then
      row-many l m = simp (lt-ltb i t.index h, le-leb 1 (byte b i) l, lt-leb (byte b i) 8 m)

      module _ (l : 1 ≤ byte b i) (m : byte b i ≤ 8) where
        pub row_cut : t.index < behind → at-fault 4 t.index ≡ on_result behind_of (row_at b t q i)
        unfolding row_at check then
        row_cut c =
            simp (lt-ltb i t.index h, le-leb 1 (byte b i) l, le-leb (byte b i) 8 m, lt-leb behind t.index c)

        module _ (c : behind ≤ t.index) where
          row-masks : row_at b t q i ≡ then (masks_from b t q (byte b i) 0 (i + 1)) (row_with b t q behind)
          unfolding row_at check
          row-masks = simp (lt-ltb i t.index h, le-leb 1 (byte b i) l, le-leb (byte b i) 8 m, le-leb behind t.index c)

          pub row-fault : (f : Fault) → refusal f ≡ on_result union_of (masks_from b t q (byte b i) 0 (i + 1))
              → refusal f ≡ on_result behind_of (row_at b t q i)
          unfolding then
          row-fault f e = rw (row-masks, was-refusal union_of (masks_from b t q (byte b i) 0 (i + 1)) f e) refl

          pub row_union : (union : ℕ) → good union ≡ on_result union_of (masks_from b t q (byte b i) 0 (i + 1))
              → on_result behind_of (row_with b t q behind (union ∷ [])) ≡ on_result behind_of (row_at b t q i)
          unfolding then
          row_union union e =
              let w = was-good union_of (masks_from b t q (byte b i) 0 (i + 1)) union e in
              behind-union behind union ∙ ap (λ (u : ℕ). behind_masks behind (ones_below u 14)) w.2 ∙ sym (behind-masks w.0 behind)
              ∙ sym (ap (on_result behind_of) (row-masks ∙ ap (λ (r : Reading Fault (List ℕ)). then r (row_with b t q behind)) w.1))

    -- a row that is whole ends before the index
    pub row_inside : (behind : ℕ) → good behind ≡ on_result behind_of (row_at b t q i) → behind ≤ t.index
    row_inside behind e =
        let w = was-good behind_of (row_at b t q i) behind e in
        omega (arith, w.2, (row-reading b t q i w.0 w.1).1)
