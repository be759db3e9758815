-- `adapter::adapter_plan_fault` meets its contract. The function passes everything on to `check_plan::plan_fault`, with the mode that the
-- number names. What that one ensures is of this mode, so it is what is to be shown.
-- Assumes nothing.
use Rattle.check_plan.proofs.Outcomes.{fault-named}
use Rattle.adapter.proofs.adapter_plan_fault.Goals as goal

pub returns : goal.returns
returns c = record { outcome = fault-named c.args.old.now c.args.new.now c.args.plan.now c.args.work.now c.from.result c.from.ensures c.plan_fault.ensures.outcome }
