-- `families::gained_across` meets its contract: a place with the bit is not below the step.
-- Assumes nothing.
use mathlib.Core.Path.{◌≡◌, subst}
use mathlib.Core.Bool.{true}
use Prim.Native.Nat.{ℕ, ◌^◌, ◌<◌}
use native.Mathlib.Omega.{arith}
use lib.Dec.{T}
use lib.Pow.{pow-lt}
use Rattle.model.specs.Contract.{has}
use Rattle.families.proofs.Gaining.{bit-fits}
use Rattle.families.proofs.gained_across.Goals as goal

pub overflow_sub-result : goal.overflow_sub-result
overflow_sub-result c =
    let a = c.args in
    let set = c.if-has.ensures in
    let there : true ≡ has a.w a.b = subst (λ (x : ℕ). true ≡ has x a.b) set.1 set.2 in
    let small : 2 ^ a.b < 2 ^ 8 = pow-lt {j = 8} (omega arith) in
    omega (arith, bit-fits a.w a.b (subst T there tt))
