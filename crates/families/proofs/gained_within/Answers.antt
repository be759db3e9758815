-- `families::gained_within` meets its contract: a shift to the left leads from a place to that with bit j.
-- Assumes nothing.
use mathlib.Core.Path.{◌≡◌}
use Prim.Native.Nat.{◌*◌, ◌%◌, ◌^◌, ◌<◌}
use native.Mathlib.Omega.{arith}
use lib.Pow.{pow-lt}
use Rattle.families.proofs.Gaining.{shifted-or}
use Rattle.families.proofs.Tables.{places-with}
use Rattle.families.proofs.gained_within.Goals as goal

pub overflow_shl-result : goal.overflow_shl-result
overflow_shl-result c = let small : 2 ^ c.args.j < 2 ^ 6 = pow-lt {j = 6} (omega arith) in omega arith

pub returns : goal.returns
returns c =
    let a = c.args in
    let small : 2 ^ a.j < 2 ^ 6 = pow-lt {j = 6} (omega arith) in
    let step : 1 * 2 ^ a.j % 2 ^ 64 ≡ 2 ^ a.j = omega arith in
    shifted-or a.word a.j _ (1 * 2 ^ a.j % 2 ^ 64) step (places-with a.j c.requires)
