-- `check_plan::checked` meets its contract. What is refused before pairs are counted is the outcome already, and leaves the records as they
-- were. Else the walk decides, and leaves every record zero.
-- Assumes nothing.
use mathlib.Core.Path.{ap, ◌∙◌}
use Rattle.std.specs.Prelude.{Ok}
use Rattle.std.proofs.lemmas.Result.{err_from_is_err_and}
use Rattle.edits_walk.specs.Faults.{fault_found}
use Rattle.edits_walk.specs.Walk.{fault_in}
use Rattle.check_plan.specs.Answers.{number_of_walk}
use Rattle.check_plan.proofs.Outcomes.{check-refused, fault-refused, check-walked, fault_walked}
use Rattle.check_plan.proofs.checked.Goals as goal

pub returns-in_err-admitted-clause-told : goal.returns-in_err-admitted-clause-told
returns-in_err-admitted-clause-told c =
    let why = err_from_is_err_and c.from_residual.result c.from_residual.ensures.1 in
    rw (why.1, why.2) (check-refused c.args.mode c.args.old.now c.args.new.now c.args.plan.now c.args.work.now c.in_err-admitted.ensures.admits)

pub returns-in_err-admitted-clause-blamed : goal.returns-in_err-admitted-clause-blamed
returns-in_err-admitted-clause-blamed c =
    let why = err_from_is_err_and c.from_residual.result c.from_residual.ensures.1 in
    rw (why.1, why.2) (fault-refused c.args.mode c.args.old.now c.args.new.now c.args.plan.now c.args.work.now c.in_err-admitted.ensures.admits)

pub walk_admitted-requires : goal.walk_admitted-requires
walk_admitted-requires c = record { admitted = c.in_ok-admitted.ensures.admits }

pub returns-in-Ok-None-clause-told : goal.returns-in-Ok-None-clause-told
returns-in-Ok-None-clause-told c =
    check-walked c.args.mode c.args.old.now c.args.new.now c.args.plan.now c.args.work.now c.walk_admitted.ensures.walks (ap number_of_walk (c.in-Ok-None.is ∙ ap Ok c.in-Ok-None.field-0-is))

pub returns-in-Ok-None-clause-blamed : goal.returns-in-Ok-None-clause-blamed
unfolding fault_found
returns-in-Ok-None-clause-blamed c =
    fault_walked c.args.mode c.args.old.now c.args.new.now c.args.plan.now c.args.work.now c.walk_admitted.ensures.walks (ap fault_in (c.in-Ok-None.is ∙ ap Ok c.in-Ok-None.field-0-is))

pub returns-in-Ok-Some-clause-told : goal.returns-in-Ok-Some-clause-told
returns-in-Ok-Some-clause-told c =
    check-walked c.args.mode c.args.old.now c.args.new.now c.args.plan.now c.args.work.now c.walk_admitted.ensures.walks (ap number_of_walk (c.in-Ok-Some.is ∙ ap Ok c.in-Ok-Some.field-0-is))

pub returns-in-Ok-Some-clause-blamed : goal.returns-in-Ok-Some-clause-blamed
unfolding fault_found
returns-in-Ok-Some-clause-blamed c =
    fault_walked c.args.mode c.args.old.now c.args.new.now c.args.plan.now c.args.work.now c.walk_admitted.ensures.walks (ap fault_in (c.in-Ok-Some.is ∙ ap Ok c.in-Ok-Some.field-0-is))

pub returns-in-Err-clause-told : goal.returns-in-Err-clause-told
returns-in-Err-clause-told c =
    check-walked c.args.mode c.args.old.now c.args.new.now c.args.plan.now c.args.work.now c.walk_admitted.ensures.walks (ap number_of_walk c.in-Err.is)

pub returns-in-Err-clause-blamed : goal.returns-in-Err-clause-blamed
returns-in-Err-clause-blamed c =
    fault_walked c.args.mode c.args.old.now c.args.new.now c.args.plan.now c.args.work.now c.walk_admitted.ensures.walks (ap fault_in c.in-Err.is)
