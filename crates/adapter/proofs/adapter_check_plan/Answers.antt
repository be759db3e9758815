-- `adapter::adapter_check_plan` meets its contract. The function passes everything on to `check_plan::check_plan`, with the mode that the
-- number names. What that one ensures is of this mode, so it is what is to be shown.
-- Assumes nothing.
use Rattle.check_plan.proofs.Outcomes.{check-named}
use Rattle.adapter.proofs.adapter_check_plan.Goals as goal

pub returns : goal.returns
returns c = record { outcome = check-named c.args.old.now c.args.new.now c.args.plan.now c.args.work.now c.from.result c.from.ensures c.check_plan.ensures.outcome }
