-- `sheet::decide` meets its contract. The loop's invariant: no ready set before place i decides, so the rest does.
-- Assumes nothing.
use Rattle.std.proofs.Common.{◌≡◌, Bool, true, false, not, ℕ, refl, arith}
use Rattle.std.proofs.Math.Bool.{beq}
use Rattle.model.proofs.Loops.{Decisive, any-decides, all-decides}
use Rattle.sheet.specs.Tests.{asked}
use Rattle.sheet.proofs.ReadySets.{sets-decided, sets-onward, sets-ended}
use Rattle.sheet.proofs.decide.Goals as goal

asked-decides : (p : ℕ → Bool) (stop : Bool) → Decisive p (asked p stop) stop
asked-decides p true = any-decides p
asked-decides p false = all-decides p

same : (a b : Bool) → beq a b ≡ true → a ≡ b
same true true e = refl
same true false e = cc
same false true e = cc
same false false e = refl

other : (a b : Bool) → beq a b ≡ false → a ≡ not b
other true true e = cc
other true false e = refl
other false true e = refl
other false false e = cc

pub returns-then-test-stop : goal.returns-then-test-stop
returns-then-test-stop g c = λ p computes.
    sets-decided (c.loop-i.invariant p computes) (asked-decides p c.args.stop) (omega arith) c.ready_set.ensures
    (computes c.ready_set.result c.test.result (omega arith) c.test.ensures) (same _ _ c.if-test-stop.true)

pub loop-i-preserved : goal.loop-i-preserved
loop-i-preserved g c = λ p computes.
    sets-onward (c.loop-i.invariant p computes) (asked-decides p c.args.stop) (omega arith) c.ready_set.ensures
    (computes c.ready_set.result c.test.result (omega arith) c.test.ensures) (other _ _ c.if-test-stop.false)

pub returns : goal.returns
returns g c = λ p computes. sets-ended (c.loop-i.invariant p computes) (asked-decides p c.args.stop) (omega arith)
