-- What stands in bytes that are a sheet: trailer, length and rows, each equal to a part of the contract that the model
-- reads. The laws take the reading backwards, test by test. Assumes nothing.
use mathlib.Core.Path.{◌≡◌, refl, sym, ap, subst, subst⁻¹, ◌∙◌}
use mathlib.Core.Bool.{true}
use mathlib.Core.List.{List}
use Prim.Native.Nat.{ℕ, ◌+◌, ◌*◌, ◌<◌, ◌≤◌}
use native.Mathlib.Omega.{arith}
use lib.Dec.{leb}
use lib.ListN.{length, get_or}
use borrow.Author.Tests.{leb-true, eqb-true}
use Rattle.model.specs.Bytes.{word}
use Rattle.model.specs.Contract.{State, state, nowhere, has, offers}
use Rattle.model.specs.Sheet.{Reading, Fault, Trailer, Sheet, good, trailer, good_trailer, row_start, read_sheet, sheet_of, contract_in, role_in}
use Rattle.model.proofs.Lists.{both_true}
use Rattle.model.proofs.Sheet.{WellFormed, good-injective, then-good, sheet-well-formed}
use Rattle.sheet.specs.Whole.{IsSheet, IsState}
use Rattle.sheet.specs.Offer.{offer_in}
use Rattle.sheet.specs.declared.Offer.{Offer}
use Rattle.sheet.proofs.Union.{has-union}
use Rattle.sheet.proofs.Reading.{check-true}
use Rattle.sheet.proofs.Rows.{RowStands, StatesStand, states-stand}

-- a trailer whose numbers are in range
pub record TrailerStands (t : Trailer) : Type 0 where
  pub some : 1 ≤ t.count
  pub few : t.count ≤ 64
  pub names : t.n ≤ 7
  pub roles : t.role ≤ 1

pub trailer-stands : (t : Trailer) → good_trailer t ≡ true → TrailerStands t
unfolding good_trailer
trailer-stands t h =
    let roles = both_true _ _ (both_true _ _ h).0 in
    let names = both_true _ _ roles.0 in
    let count = both_true _ _ names.0 in
    record {
      some = leb-true _ _ count.0;
      few = leb-true _ _ count.1;
      names = leb-true _ _ names.1;
      roles = leb-true _ _ roles.1;
    }

-- the sheet s stands in the bytes
pub record SheetStands (b : List ℕ) (s : Sheet) : Type 0 where
  pub long : 6 ≤ length b
  pub short : length b ≤ 2118
  pub numbers : TrailerStands (trailer b)
  pub ends : (trailer b).index + 2 * (trailer b).count + 6 ≡ length b
  pub names : (trailer b).n ≡ s.contract.n
  pub role : (trailer b).role ≡ s.role
  pub states : StatesStand b (trailer b) 0 (trailer b).count s.contract.states

pub stands : (b : List ℕ) (s : Sheet) → read_sheet b ≡ good s → SheetStands b s
unfolding read_sheet
stands b s h =
    let sizes = check-true _ _ _ h in
    let size = both_true (leb 6 (length b)) (leb (length b) 2118) sizes.0 in
    let numbers = check-true _ _ _ sizes.1 in
    let ends = check-true _ _ _ numbers.1 in
    let states = then-good _ _ ends.1 in
    subst (SheetStands b) (good-injective states.2)
    (record {
      long = leb-true _ _ size.0;
      short = leb-true _ _ size.1;
      numbers = trailer-stands (trailer b) numbers.0;
      ends = eqb-true _ _ ends.0;
      names = refl;
      role = refl;
      states = states-stand b (trailer b) _ 0 0 states.0 states.1;
    })

-- bytes that are a sheet are read as the sheet of that contract and role
pub is_read : (b : List ℕ) → IsSheet b → read_sheet b ≡ good (sheet_of (read_sheet b))
unfolding sheet_of
is_read b (s, h) = h ∙ sym (ap (λ (r : Reading Fault Sheet). good (sheet_of r)) h)

-- in bytes that are a sheet stands the sheet that the model reads
pub sheet-stands : (b : List ℕ) → IsSheet b → SheetStands b (record { contract = contract_in b; role = role_in b })
unfolding contract_in role_in
sheet-stands b whole = stands b (sheet_of (read_sheet b)) (is_read b whole)

-- the contract in bytes that are a sheet is well formed
pub sheet-formed : (b : List ℕ) → IsSheet b → WellFormed (contract_in b)
unfolding contract_in sheet_of
sheet-formed b (s, h) = subst⁻¹ (λ (r : Reading Fault Sheet). WellFormed (sheet_of r).contract) h (sheet-well-formed b s h)

-- the actions of an offer are those that the state offers
pub offer-has : (b : List ℕ) (q j : ℕ) {o : Offer} → o ≡ offer_in b q → has o.actions j ≡ offers (state (contract_in b) q) j
unfolding offer_in offers
offer-has b q j e = ap (λ (o : Offer). has o.actions j) e ∙ has-union (state (contract_in b) q).ready j

-- ---- the trailer

module _ (b : List ℕ) (whole : IsSheet b) where
  count-is : (trailer b).count ≡ length (contract_in b).states
  count-is = sym (sheet-stands b whole).states.size

  pub states-some : 1 ≤ length (contract_in b).states
  states-some = omega (arith, count-is, (sheet-stands b whole).numbers.some)

-- ---- the row of a state

-- every state's row stands where the index says, with the state's ready sets and successors
pub row-of : (b : List ℕ) (s : Sheet) → read_sheet b ≡ good s → (q : ℕ) → q < length s.contract.states
    → RowStands b (trailer b) (row_start b q) (state s.contract q)
unfolding row_start state
row-of b s h q l =
    let rows = (stands b s h).states in
    subst (λ (k : ℕ). RowStands b (trailer b) (word b ((trailer b).index + 2 * k)) (get_or s.contract.states q nowhere)) (omega arith)
    (rows.each q (omega (arith, rows.size)))

abbrev state_in : List ℕ → ℕ → State
state_in b q = state (contract_in b) q

module _ {b : List ℕ} {q : ℕ} (at : IsState b q) where
  pub row-stands : RowStands b (trailer b) (row_start b q) (state_in b q)
  unfolding contract_in
  row-stands = row-of b (sheet_of (read_sheet b)) (is_read b at.sheet) q at.state

  pub row_within : row_start b q + 1 + 2 * length (state_in b q).ready + length (state_in b q).successors ≤ length b
  row_within = omega (arith, row-stands.inside, (sheet-stands b at.sheet).ends)

  pub entry-within : (trailer b).index + 2 * q + 1 < length b
  entry-within = omega (arith, count-is b at.sheet, (sheet-stands b at.sheet).ends, at.state)
