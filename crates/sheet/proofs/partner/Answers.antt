-- `sheet::partner` meets its contract: the actions that take a name come first.
-- Assumes nothing.
use mathlib.Core.Path.{sym}
use native.Mathlib.Omega.{arith}
use Rattle.model.proofs.Actions.{partner-taken, partner-sent}
use Rattle.sheet.proofs.partner.Goals as goal

pub returns-then-j-lt7 : goal.returns-then-j-lt7
returns-then-j-lt7 c = (sym (partner-taken c.args.j c.if-j-lt7.true), omega arith)

pub returns-else-j-lt7 : goal.returns-else-j-lt7
returns-else-j-lt7 c = (sym (partner-sent c.args.j c.if-j-lt7.false), omega arith)
