-- What a state offers, as its row in the bytes says it.
-- Assumes nothing.
use Rattle.std.specs.Prelude.{◌≡◌, true, List, ℕ, ◌+◌, ◌*◌, ◌<◌, length}
use Rattle.model.specs.Contract.{state, offers}
use Rattle.model.specs.Sheet.{row_start, contract_in}
use Rattle.sheet.specs.Union.{union_of, ones_below}
use Rattle.sheet.specs.Whole.{IsState}
use Rattle.sheet.specs.declared.Offer.{Offer}

-- "A row is: count of ready sets; each ready set as a 16-bit mask": the actions of state q, and where its successors begin
unfoldable pub offer_in : List ℕ → ℕ → Offer
offer_in b q =
    record {
      actions = union_of (state (contract_in b) q).ready;
      successors = row_start b q + 1 + 2 * length (state (contract_in b) q).ready;
    }

-- "one successor byte for each offered action, actions ascending": where that of action j stands
unfoldable pub place_in : Offer → ℕ → ℕ
place_in o j = o.successors + ones_below o.actions j

-- an action that a state of a sheet offers
pub record IsOffered (b : List ℕ) (q j : ℕ) : Type 0 where
  -- q is a state of the sheet
  pub at : IsState b q
  -- j is an action
  pub action : j < 14
  -- and some ready set of the state has it
  pub offered : offers (state (contract_in b) q) j ≡ true
