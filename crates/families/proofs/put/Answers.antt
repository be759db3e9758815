-- `families::put` meets its contract: a shift to the left is a product with a power of 2, and this one is below 2 ^ 64.
-- Assumes nothing.
use mathlib.Core.Path.{◌≡◌}
use Prim.Native.Nat.{◌*◌, ◌%◌, ◌^◌, ◌<◌}
use native.Mathlib.Omega.{arith}
use lib.ListN.{length-set}
use lib.Pow.{pow-lt}
use Rattle.families.proofs.Families.{one_more}
use Rattle.families.proofs.put.Goals as goal

pub returns : goal.returns
returns c =
    let within : c.args.mask % 64 < 64 = omega arith in
    let bit : 1 * 2 ^ (c.args.mask % 64) % 2 ^ 64 ≡ 2 ^ (c.args.mask % 64) = omega (arith, pow-lt within) in
    (simp length-set c.requires.0, one_more c.args.family.now c.args.mask c.requires.0 c.requires.1 bit)
