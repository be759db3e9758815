-- `text_ready::Parts::held_body` meets its contract: the part of the families that is lent has 256 numbers.
-- Assumes nothing.
use native.Mathlib.Omega.{arith}
use Rattle.text_ready.proofs.Slots.{slot_is}
use Rattle.text_ready.proofs.Parts.held_body.Goals as goal

pub returns-then-r-self : goal.returns-then-r-self
returns-then-r-self c = (omega (arith, c.if-r-self.true), slot_is c.args.r c.args.self.now.held.now)
