-- `plan::read::good_move` meets its contract: its two tests, one after the other.
-- Assumes nothing.
use mathlib.Core.Path.{sym, ap}
use mathlib.Core.Bool.{Bool}
use Prim.Native.Nat.{ℕ}
use lib.Dec.{ltb}
use Rattle.model.specs.Bytes.{byte}
use Rattle.plan.specs.Layout.{good_move, move_at}
use Rattle.plan.proofs.read.good_move.Goals as goal

pub returns-then-named_below : goal.returns-then-named_below
unfolding good_move move_at byte
returns-then-named_below c =
    let below : ℕ → Bool = λ w. ltb w c.args.count in
    rw (sym c.named_below.ensures, c.if-named_below.true) (ap below c.word_at.ensures)

pub returns-else-named_below : goal.returns-else-named_below
unfolding good_move move_at byte
returns-else-named_below c = rw (sym c.named_below.ensures, c.if-named_below.false)
