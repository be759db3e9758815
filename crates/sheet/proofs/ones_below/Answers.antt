-- `sheet::ones_below` meets its contract: the bits of the mask's lowest digits are counted.
-- Assumes nothing.
use mathlib.Core.Path.{◌≡◌, ap, ◌∙◌}
use Prim.Native.Nat.{ℕ, ◌-◌, ◌*◌, ◌%◌, ◌^◌, ◌≤◌}
use native.Mathlib.Omega.{arith}
use lib.Bits.{bit_and, and_mask}
use lib.Count.{ones}
use Rattle.sheet.specs.Union.{ones_below}
use Rattle.sheet.proofs.Ones.{one_shifted, ones_low}
use Rattle.sheet.proofs.ones_below.Goals as goal

-- what is counted, as the code writes it
counted : (mask j : ℕ) → j ≤ 16 → ones (bit_and mask (1 * 2 ^ j % 4294967296 - 1)) ≡ ones_below mask j
counted mask j h =
    ap (λ (p : ℕ). ones (bit_and mask (p - 1))) (one_shifted j 16 h (omega arith)) ∙ ap ones (and_mask mask j) ∙ ones_low mask j

pub returns : goal.returns
returns c = rw c.from.ensures (counted c.args.mask c.args.j c.requires)
