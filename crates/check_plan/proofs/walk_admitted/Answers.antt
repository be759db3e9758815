-- `check_plan::walk_admitted` meets its contract. The plan is read, so it has a rank: with it and the limit the walk of the records is
-- that of the definition. Clearing leaves every record zero, whatever the walk wrote there.
-- Assumes nothing.
use Rattle.check_plan.proofs.Walking.{plan-read, walk-needs, walk-answers}
use Rattle.check_plan.proofs.walk_admitted.Goals as goal

pub figures_of-k-requires : goal.figures_of-k-requires
figures_of-k-requires c = plan-read c.args.old.now c.args.new.now c.args.plan.now c.requires.admitted

pub walk_pairs-walk-requires : goal.walk_pairs-walk-requires
walk_pairs-walk-requires c = record {
  walkable =
      walk-needs c.args.old.now c.args.new.now c.args.plan.now c.requires.admitted c.figures_of-k.ensures c.limit_of-limit.result
      c.args.work.now c.limit_of-limit.ensures;
}

pub returns : goal.returns
returns c = record {
  walks =
      walk-answers c.args.old.now c.args.new.now c.args.plan.now c.requires.admitted c.figures_of-k.ensures c.limit_of-limit.result
      c.args.work.now c.limit_of-limit.ensures c.args.mode c.walk_pairs-walk.result c.walk_pairs-walk.new.work c.clear.new.work
      c.walk_pairs-walk.ensures.walked c.clear.ensures;
}
