-- Where the successor of an offered action stands. A row has a successor for each offered action, so it has one for this action; the
-- lower ones are counted as bits of the union of the ready sets.
-- Assumes nothing.
use mathlib.Core.Path.{◌≡◌, sym, ap, subst⁻¹, ◌∙◌}
use mathlib.Core.Bool.{true}
use mathlib.Core.List.{List}
use Prim.Native.Nat.{ℕ, ◌+◌, ◌*◌, ◌<◌, ◌≤◌}
use native.Mathlib.Omega.{arith}
use lib.ListN.{length}
use Rattle.model.specs.Bytes.{byte}
use Rattle.model.specs.Contract.{State, state, offers, offered_below, after}
use Rattle.model.specs.Sheet.{Trailer, read_sheet, row_start, sheet_of, contract_in}
use Rattle.sheet.specs.Union.{union_of}
use Rattle.sheet.specs.Offer.{offer_in, place_in, IsOffered}
use Rattle.sheet.specs.SuccessorAt.{successor_place, SuccessorAt}
use Rattle.sheet.specs.Whole.{IsState}
use Rattle.sheet.specs.declared.Offer.{Offer}
use Rattle.sheet.proofs.Union.{has-union}
use Rattle.sheet.proofs.Ones.{ones-offered, ones-less, ones-place}
use Rattle.sheet.proofs.Rows.{RowStands}
use Rattle.sheet.proofs.Whole.{stands, is_read, sheet-stands, row-of, row-stands}

-- fewer lower actions are offered than there are successors
below-few : (b : List ℕ) (t : Trailer) (i : ℕ) (s : State) → RowStands b t i s → (j : ℕ) → j < 14 → offers s j ≡ true
    → offered_below s j < length s.successors
unfolding offers
below-few b t i s row j a o =
    omega (
      arith,
      row.offered,
      ones-offered s.ready,
      ones-place s j (omega arith),
      ones-less (union_of s.ready) j 14 (has-union s.ready j ∙ o) a,
    )

pub successor-at : SuccessorAt
unfolding successor_place after
successor-at b s h q l j a o =
    let row = row-of b s h q l in
    let few = below-few b _ _ (state s.contract q) row j a o in
    (sym (row.successors _ few), omega (arith, few, row.inside, (stands b s h).ends))

-- ---- the theorem by what a state offers, as lookups cite it

-- the place that an offer says is the theorem's
place_is : (b : List ℕ) (q j : ℕ) → j ≤ 14 → place_in (offer_in b q) j ≡ successor_place (row_start b q) (state (contract_in b) q) j
unfolding place_in offer_in successor_place
place_is b q j h =
    ap (λ (n : ℕ). row_start b q + 1 + 2 * length (state (contract_in b) q).ready + n) (sym (ones-place (state (contract_in b) q) j h))

module _ {b : List ℕ} {q j : ℕ} (is : IsOffered b q j) where
  lies : (after (state (contract_in b) q) j ≡ byte b (place_in (offer_in b q) j)) × (place_in (offer_in b q) j < length b)
  unfolding contract_in
  lies =
      rw (place_is b q j (omega (arith, is.action)))
      (successor-at b (sheet_of (read_sheet b)) (is_read b is.at.sheet) q is.at.state j is.action is.offered)

  pub successor-within : {o : Offer} → o ≡ offer_in b q → place_in o j < length b
  successor-within e = subst⁻¹ (λ (o : Offer). place_in o j < length b) e lies.1

  pub successor-stands : {o : Offer} → o ≡ offer_in b q → byte b (place_in o j) ≡ after (state (contract_in b) q) j
  successor-stands e = ap (λ (o : Offer). byte b (place_in o j)) e ∙ sym lies.0

  -- the successor is a state
  pub successor-state : {to : ℕ} → to ≡ after (state (contract_in b) q) j → IsState b to
  unfolding after
  successor-state e =
      let row = row-stands is.at in
      let few = below-few b _ _ (state (contract_in b) q) row j is.action is.offered in
      record { sheet = is.at.sheet; state = rw e (omega (arith, row.within _ few, (sheet-stands b is.at.sheet).states.size)) }
