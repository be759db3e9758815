-- The masks of a row under both readings of request 2/13 of document 02: read as before, or 5 became 6. By induction over the masks; one
-- that is neither out of order nor has a stray bit leaves both readings to the masks behind it.
-- Assumes nothing.
use mathlib.Core.Path.{◌≡◌, refl, sym, ap, ◌∙◌}
use mathlib.Core.Bool.{Bool, true, false}
use mathlib.Core.Logic.{◌⊎◌, inl, inr}
use mathlib.Core.List.{List, ◌∷◌}
use Prim.Native.Nat.{ℕ, zero, suc, ◌+◌, ◌*◌, ◌≤◌, ◌<◌}
use native.Mathlib.Omega.{arith}
use lib.Dec.{leb}
use borrow.Author.Tests.{le-leb, lt-leb, leb-true, leb-false}
use Rattle.model.specs.Lists.{place}
use Rattle.model.specs.Bytes.{word}
use Rattle.model.specs.Sheet.{Reading, good, refusal, check, then, Fault, Trailer, stray_bit, out_of_order, words_from, masks_from}
use Rattle.model.specs.Amended.{masks_before}
use Rattle.model.proofs.RowMasks.{low-here, low-later, first-here, first-later, masks-end, masks-stray, masks-low, masks-more}
use Rattle.model.proofs.Sheet.{then-refused}

module _ (b : List ℕ) (t : Trailer) (q : ℕ) where
  -- a refusal of state q
  abbrev fault : (number offset : ℕ) → Reading Fault (List ℕ)
  fault number offset = refusal (record { number = number; state = q; offset = offset })

  module _ (left least i : ℕ) where
    abbrev low : ℕ
    low = out_of_order least (words_from b left i)

    abbrev stray : ℕ
    stray = place (stray_bit t.n t.role) (words_from b left i)

    -- both readings agree, and no mask with a stray bit is behind the first one out of order
    pub record SameMasks : Type 0 where
      pub apart : low ≤ stray → left ≤ stray
      pub answer : masks_from b t q left least i ≡ masks_before b t q left least i

    -- one is, and 5 became 6
    pub record OtherMasks : Type 0 where
      pub behind : low ≤ stray
      pub within : stray < left
      pub before : masks_before b t q left least i ≡ fault 5 (i + 2 * low)
      pub now : masks_from b t q left least i ≡ fault 6 (i + 2 * stray)

  masks-none : (least i : ℕ) → SameMasks zero least i
  unfolding masks_before
  masks-none least i = record { apart = λ h. omega arith; answer = masks-end b t q least i }

  module _ (left least i : ℕ) where
    abbrev mask : ℕ
    mask = word b i

    -- the first mask's test, in the figure of bits and in the reading before
    stray-here : stray_bit t.n t.role mask ≡ true → stray (suc left) least i ≡ 0
    stray-here = first-here b (stray_bit t.n t.role) i left

    stray-later : stray_bit t.n t.role mask ≡ false → stray (suc left) least i ≡ suc (stray left (suc mask) (i + 2))
    stray-later = first-later b (stray_bit t.n t.role) i left

    before-low : mask < least → masks_before b t q (suc left) least i ≡ fault 5 i
    unfolding masks_before check
    before-low h = rw (lt-leb least mask h) refl

    before-stray : least ≤ mask → stray_bit t.n t.role mask ≡ true
        → masks_before b t q (suc left) least i ≡ fault 6 i
    unfolding masks_before check
    before-stray h s = rw (le-leb least mask h, s) refl

    before_more : least ≤ mask → stray_bit t.n t.role mask ≡ false
        → masks_before b t q (suc left) least i ≡ then (masks_before b t q left (suc mask) (i + 2)) (λ masks. good (mask ∷ masks))
    unfolding masks_before check
    before_more h s = rw (le-leb least mask h, s) refl

    low_first : mask < least → SameMasks (suc left) least i ⊎ OtherMasks (suc left) least i
    unfolding check
    low_first h = go (leb (suc left) (stray (suc left) least i)) refl (masks-low b t q least i left h)
      where
        go : (none : Bool) → leb (suc left) (stray (suc left) least i) ≡ none
            → masks_from b t q (suc left) least i
            ≡ check none (record { number = 6; state = q; offset = i + 2 * stray (suc left) least i }) (fault 5 i)
            → SameMasks (suc left) least i ⊎ OtherMasks (suc left) least i
        go true e r = inl (record { apart = λ l. leb-true _ _ e; answer = r ∙ sym (before-low h) })
        go false e r =
            let here : i ≡ i + 2 * low (suc left) least i = omega (arith, low-here b least i left h) in
            inr
            (record {
              behind = omega (arith, low-here b least i left h);
              within = leb-false _ _ e;
              before = before-low h ∙ ap (fault 5) here;
              now = r;
            })

    stray-first : least ≤ mask → stray_bit t.n t.role mask ≡ true → SameMasks (suc left) least i
    stray-first h s =
        record {
          apart = λ l. absurd (omega (arith, low-later b least i left h, stray-here s));
          answer = masks-stray b t q least i left s ∙ sym (before-stray h s);
        }

    module _ (up : least ≤ mask) (clean : stray_bit t.n t.role mask ≡ false) where
      same_more : SameMasks left (suc mask) (i + 2) → SameMasks (suc left) least i
      same_more m =
          record {
            apart = λ l. let rest = m.apart (omega (arith, low-later b least i left up, stray-later clean)) in omega (arith, stray-later clean);
            answer = masks-more b t q least i left clean up
                ∙ ap (λ r. then r (λ masks. good (mask ∷ masks))) m.answer ∙ sym (before_more up clean);
          }

      other-more : OtherMasks left (suc mask) (i + 2) → OtherMasks (suc left) least i
      other-more m =
          let low-on : i + 2 + 2 * low left (suc mask) (i + 2) ≡ i + 2 * low (suc left) least i = omega (arith, low-later b least i left up) in
          let stray-on : i + 2 + 2 * stray left (suc mask) (i + 2) ≡ i + 2 * stray (suc left) least i =
          omega (arith, stray-later clean) in
          record {
            behind = omega (arith, m.behind, low-later b least i left up, stray-later clean);
            within = omega (arith, m.within, stray-later clean);
            before = before_more up clean ∙ then-refused _ m.before ∙ ap (fault 5) low-on;
            now = masks-more b t q least i left clean up ∙ then-refused _ m.now ∙ ap (fault 6) stray-on;
          }

  -- masks are read as before, or go from 5 to 6
  pub masks-amended : (left least i : ℕ) → SameMasks left least i ⊎ OtherMasks left least i
  masks-amended zero least i = inl (masks-none least i)
  masks-amended (suc left) least i =
      go (leb least (word b i)) refl (stray_bit t.n t.role (word b i)) refl (masks-amended left (suc (word b i)) (i + 2))
    where
      go : (up : Bool) → leb least (word b i) ≡ up → (noisy : Bool) → stray_bit t.n t.role (word b i) ≡ noisy
          → SameMasks left (suc (word b i)) (i + 2) ⊎ OtherMasks left (suc (word b i)) (i + 2)
          → SameMasks (suc left) least i ⊎ OtherMasks (suc left) least i
      go false u noisy s m = low_first left least i (leb-false _ _ u)
      go true u true s m = inl (stray-first left least i (leb-true _ _ u) s)
      go true u false s (inl m) = inl (same_more left least i (leb-true _ _ u) s m)
      go true u false s (inr m) = inr (other-more left least i (leb-true _ _ u) s m)
