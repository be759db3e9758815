-- `connect::connect_mode` meets its contract. What the check refuses is the outcome already, and leaves plan and records untouched. Else
-- the two sheets are good: what connecting them writes is the outcome, and clearing leaves every record zero.
-- Assumes nothing.
use Rattle.connect.proofs.Outcomes.{connect-refused, connect-done}
use Rattle.connect.proofs.connect_mode.Goals as goal

pub returns-in-Err : goal.returns-in-Err
returns-in-Err c = record {
  outcome = connect-refused c.args.mode c.args.k c.args.old.now c.args.new.now c.args.work.now c.args.plan.now c.from.result
      c.in-Err.ensures.admits c.from.ensures;
}

pub returns-in-Ok : goal.returns-in-Ok
returns-in-Ok c = record {
  outcome = connect-done c.args.mode c.args.k c.args.old.now c.args.new.now c.args.work.now c.args.plan.now c.from-in-Ok.result
      c.connect_checked-found.new.work c.in_default.ensures.admits c.in-Ok.ensures.written c.connect_checked-found.auto.work c.clear.ensures
      c.from-in-Ok.ensures;
}

pub returns-in-Err-found : goal.returns-in-Err-found
returns-in-Err-found c = record {
  outcome = connect-done c.args.mode c.args.k c.args.old.now c.args.new.now c.args.work.now c.args.plan.now c.from-in-Err-found.result
      c.connect_checked-found.new.work c.in_default.ensures.admits c.in-Err-found.ensures.written c.connect_checked-found.auto.work
      c.clear.ensures c.from-in-Err-found.ensures;
}
