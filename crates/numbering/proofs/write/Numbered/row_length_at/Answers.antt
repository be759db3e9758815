-- `numbering::write::Numbered::row_length_at` meets its contract. A row has a count byte and three bytes for each bit of its situation's masks,
-- since these hold exactly the kept moves: no loop.
-- Assumes nothing.
use mathlib.Core.Path.{ap}
use Prim.Native.Nat.{ℕ, ◌+◌, ◌*◌}
use native.Mathlib.Omega.{arith}
use lib.Count.{ones, ones-le}
use Rattle.numbering.proofs.records.States.{state-there, state-row-at}
use Rattle.numbering.proofs.write.Numbered.row_length_at.Goals as goal

pub state_at-requires : goal.state_at-requires
state_at-requires c = record { state = c.requires.state }

pub load-y-requires : goal.load-y-requires
load-y-requires c = record { inside = state-there c.args.self.now.work.now c.requires.state c.state_at.ensures.situation }

pub returns : goal.returns
returns c = record { measured = state-row-at c.args.self.now.work.now c.requires.state c.state_at.ensures.situation c.load-y.ensures (ap (λ (mask : ℕ). 1 + 3 * ones mask) c.slots.ensures) }

pub overflow_mul-result : goal.overflow_mul-result
overflow_mul-result c = omega (arith, ones-le 64 c.slots.result (omega arith))

pub overflow_add-result : goal.overflow_add-result
overflow_add-result c = omega (arith, ones-le 64 c.slots.result (omega arith))
