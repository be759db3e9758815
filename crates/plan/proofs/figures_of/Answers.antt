-- `plan::figures_of` meets its contract: n and k stand at the end of a plan.
-- Assumes nothing.
use native.Mathlib.Omega.{arith}
use Rattle.model.specs.Bytes.{byte}
use Rattle.plan.proofs.Stands.{stands, figures-read}
use Rattle.plan.proofs.figures_of.Goals as goal

pub overflow_sub-result : goal.overflow_sub-result
overflow_sub-result c = omega (arith, (stands _ c.requires).room)

pub bounds-plan-end : goal.bounds-plan-end
bounds-plan-end c = omega (arith, (stands _ c.requires).room)

pub overflow_sub-result-2 : goal.overflow_sub-result-2
overflow_sub-result-2 c = omega (arith, (stands _ c.requires).room)

pub bounds-plan-end-2 : goal.bounds-plan-end-2
bounds-plan-end-2 c = omega (arith, (stands _ c.requires).room)

pub returns : goal.returns
unfolding byte
returns c = figures-read _ c.requires
