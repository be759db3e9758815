-- `plan::read::named_below` meets its contract: a law for each range of the code.
-- Assumes nothing.
use mathlib.Core.Path.{◌∙◌}
use native.Mathlib.Omega.{arith}
use Rattle.plan.proofs.Codes.{named-straight, named-client, named-service, stray-low, stray-middle, stray-high}
use Rattle.plan.proofs.read.named_below.Goals as goal

pub returns-in-0-to-13 : goal.returns-in-0-to-13
returns-in-0-to-13 c = c.named.ensures ∙ named-straight _ _ (omega arith)

pub returns-in-16-to-29 : goal.returns-in-16-to-29
returns-in-16-to-29 c = c.named-in-16-to-29.ensures ∙ named-client _ _ (omega arith) (omega arith)

pub returns-in-32-to-45 : goal.returns-in-32-to-45
returns-in-32-to-45 c = c.named-in-32-to-45.ensures ∙ named-service _ _ (omega arith) (omega arith)

pub returns-in_default : goal.returns-in_default
returns-in_default c = stray-low _ _ (omega arith) (omega arith)

pub returns-in_default-2 : goal.returns-in_default-2
returns-in_default-2 c = stray-middle _ _ (omega arith) (omega arith)

pub returns-in_default-3 : goal.returns-in_default-3
returns-in_default-3 c = stray-high _ _ (omega arith)
