-- A row has as many moves as its masks have bits: slot by slot, each bit is a kept move.
-- Assumes nothing.
use mathlib.Core.Path.{◌≡◌, refl, sym, ap, ◌∙◌}
use mathlib.Core.Bool.{Bool, true, false}
use mathlib.Core.Logic.{◌≢◌}
use mathlib.Core.List.{List}
use Prim.Native.Nat.{ℕ, zero, suc, ◌+◌, ◌*◌, ◌/◌, ◌%◌, ◌^◌, ◌≤◌, ◌<◌}
use native.Mathlib.Nat.{div-eq_of_lt, lt_of_lt_of_le}
use native.Mathlib.Omega.{arith}
use lib.ListN.{length}
use lib.Count.{ones, ones_step, ones-le}
use lib.Pow.{pow_mono, shr-shr}
use borrow.Author.Tests.{eqb-true, eqb-false}
use Rattle.model.specs.Contract.{has}
use Rattle.model.specs.Plan.{row_bytes}
use Rattle.keys.proofs.Bits.{slots_in}
use Rattle.lists.specs.Kept.{kept_row}
use Rattle.lists.proofs.numbering.Kept.{SiftedLists, slots_small, slot-none, slot-linked}
use Rattle.lists.proofs.numbering.Moves.{row_from, row-whole, row-end, row-none, row-some, row-few}
use Rattle.lists.proofs.numbering.Bytes.{length-row}

-- ---- the bits of a mask from a slot on

module _ (mask slot : ℕ) where
  ones-next : ones (mask / 2 ^ slot) ≡ mask / 2 ^ slot % 2 + ones (mask / 2 ^ (slot + 1))
  ones-next = ones_step (mask / 2 ^ slot) ∙ ap (λ (x : ℕ). mask / 2 ^ slot % 2 + ones x) (shr-shr mask slot 1)

  ones-set : has mask slot ≡ true → ones (mask / 2 ^ slot) ≡ 1 + ones (mask / 2 ^ (slot + 1))
  unfolding has
  ones-set t = omega (arith, ones-next, eqb-true (mask / 2 ^ slot % 2) 1 t)

  ones-clear : has mask slot ≡ false → ones (mask / 2 ^ slot) ≡ ones (mask / 2 ^ (slot + 1))
  unfolding has
  ones-clear f = let n : mask / 2 ^ slot % 2 ≢ 1 = eqb-false (mask / 2 ^ slot % 2) 1 f in omega (arith, ones-next)

ones-end : (mask slot : ℕ) → mask < 2 ^ 42 → 42 ≤ slot → ones (mask / 2 ^ slot) ≡ 0
ones-end mask slot small h =
    let z : mask / 2 ^ slot ≡ 0 = div-eq_of_lt (lt_of_lt_of_le small (pow_mono h)) in
    omega (arith, ones-le 0 (mask / 2 ^ slot) (omega arith))

-- ---- the moves of a row

module _ {count : ℕ} {links marks present : List ℕ} (lists : SiftedLists count links marks present) {i : ℕ} (here : i < count) where
  abbrev mask : ℕ
  mask = slots_in present i

  moves_from : (left slot : ℕ) → slot + left ≡ 42 → length (row_from links marks count i slot) ≡ ones (mask / 2 ^ slot)
  moves_from zero slot e =
      ap length (row-end links marks count i slot (omega arith)) ∙ sym (ones-end mask slot (slots_small lists here) (omega arith))
  moves_from (suc left) slot e = go (has mask slot) refl (moves_from left (slot + 1) (omega arith))
    where
      go : (b : Bool) → has mask slot ≡ b → length (row_from links marks count i (slot + 1)) ≡ ones (mask / 2 ^ (slot + 1))
          → length (row_from links marks count i slot) ≡ ones (mask / 2 ^ slot)
      go true t rest =
          let kept = slot-linked lists here slot (omega arith) t in
          omega (arith, row-some links marks count i lists here slot _ (omega arith) (sym kept.0) kept.1, ones-set mask slot t)
      go false f rest =
          ap length (row-none links marks count i lists here slot (omega arith) (slot-none lists here slot (omega arith) f))
          ∙ rest ∙ sym (ones-clear mask slot f)

  -- a row has a move for each bit of its masks, 42 at most
  pub moves-shown : {slots : ℕ} → slots ≡ mask → ones slots ≡ length (kept_row links marks count i)
  moves-shown e =
      let whole : mask / 1 ≡ mask = omega arith in
      ap ones (e ∙ sym whole) ∙ sym (moves_from 42 0 refl) ∙ ap length (row-whole links marks count i)

  pub moves-few : {slots : ℕ} → slots ≡ mask → ones slots ≤ 42
  moves-few e = omega (arith, moves-shown e, row-few links marks count i)

  -- a row has a count byte and three bytes for each bit of its masks
  pub row-shown : {bytes : ℕ} → bytes ≡ 1 + 3 * ones mask → bytes ≡ length (row_bytes (kept_row links marks count i))
  row-shown e = omega (arith, moves-shown refl, length-row (kept_row links marks count i))
