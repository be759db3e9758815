-- `numbering::write::Numbered::state_at` meets its contract. The states stand in order, so record p names the situation of state p: no loop.
-- Assumes nothing.
use Rattle.numbering.proofs.records.States.{place-there, state-held}
use Rattle.numbering.proofs.write.Numbered.state_at.Goals as goal

pub load-requires : goal.load-requires
load-requires c = record { inside = place-there c.args.self.now.work.now c.requires.state }

pub returns : goal.returns
returns c = record { situation = state-held c.args.self.now.work.now c.requires.state c.load.ensures c.order_of.ensures }
