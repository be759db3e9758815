-- `runs::followed` meets its contract: the loop passes the attempts five bytes at a time, and those that are left lead the run where all of
-- them lead the start. Assumes nothing.
use mathlib.Core.Path.{◌∙◌}
use native.Mathlib.Omega.{arith}
use Rattle.runs.proofs.Following.{followed-more, followed-end}
use Rattle.runs.proofs.followed.Goals as goal

pub loop-attempt-preserved : goal.loop-attempt-preserved
loop-attempt-preserved g c =
    let inv = c.loop-attempt.invariant in
    let step = c.in-Some.ensures.steps in
    let size = step.0 ∙ inv.2 in
    let cut = step.1 in
    let after = c.in_ok-run.ensures in
    (omega arith, tt, size, followed-more _ _ _ _ _ _ inv.3 cut.0 (cut.1 ∙ inv.2) after.0, after.1)

pub returns : goal.returns
returns g c =
    let inv = c.loop-attempt.invariant in
    let none-left = c.in-None.ensures.steps.1 in
    (followed-end _ _ _ _ _ inv.3 (omega arith), inv.4)
