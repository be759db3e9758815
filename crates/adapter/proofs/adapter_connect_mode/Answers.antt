-- `adapter::adapter_connect_mode` meets its contract. The function passes everything on to `connect::connect_mode`, with the mode that
-- the number names. What that one ensures is of this mode, so it is what is to be shown.
-- Assumes nothing.
use Rattle.connect.proofs.Outcomes.{connect-named}
use Rattle.adapter.proofs.adapter_connect_mode.Goals as goal

pub returns : goal.returns
returns c = record { outcome = connect-named c.args.k c.args.old.now c.args.new.now c.args.work.now c.args.plan.now c.from.result c.from.ensures c.connect_mode.ensures.outcome }
