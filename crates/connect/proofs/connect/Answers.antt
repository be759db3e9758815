-- `connect::connect` meets its contract. With the paper's mode named: its outcome is that of the mode.
-- Assumes nothing.
use mathlib.Core.Path.{refl}
use Rattle.moves.specs.Modes.{mode_of}
use Rattle.moves.specs.declared.Mode.TheVariants.{Paper}
use Rattle.connect.proofs.Outcomes.{connect-named}
use Rattle.connect.proofs.connect.Goals as goal

pub returns : goal.returns
unfolding mode_of
returns c = record {
  outcome = connect-named c.args.k c.args.old.now c.args.new.now c.args.work.now c.args.plan.now Paper refl c.connect_mode.ensures.outcome;
}
