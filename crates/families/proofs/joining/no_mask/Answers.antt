-- `families::joining::no_mask` meets its contract: a number is among the first half, or as far from the end as one that is.
-- Assumes nothing.
use mathlib.Core.Path.{◌≡◌, refl, ap, ◌∙◌}
use mathlib.Core.Bool.{Bool, true, false}
use Prim.Native.Nat.{ℕ, ◌-◌, ◌<◌}
use native.Mathlib.Omega.{arith}
use lib.ListN.{length, get_or}
use lib.Dec.{ltb}
use borrow.Author.Tests.{ltb-true, ltb-false}
use Rattle.families.proofs.joining.no_mask.Goals as goal
use Rattle.families.proofs.joining.no_mask.Goals.{After-loop-i}

-- all numbers are passed
passed : (c : After-loop-i) (i : ℕ) → i < length c.args.words.now → get_or c.args.words.now i 0 ≡ 0
passed c i h = go (ltb i c.loop-i.i) refl
  where
    go : (t : Bool) → ltb i c.loop-i.i ≡ t → get_or c.args.words.now i 0 ≡ 0
    go true e = (c.loop-i.invariant i (ltb-true i c.loop-i.i e)).0
    go false e =
        let words = c.args.words.now in
        let past = ltb-false i c.loop-i.i e in
        let half = c.loop-i-test.false in
        let back = length words - 1 - i in
        let is : i ≡ length words - 1 - back = omega (arith, h) in
        ap (λ (x : ℕ). get_or words x 0) is ∙ (c.loop-i.invariant back (omega (arith, h, past, half))).1

pub returns : goal.returns
returns c = ((λ t. passed c), λ none. tt)
