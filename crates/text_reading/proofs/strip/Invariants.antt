-- `text_reading::strip` meets its contract. The invariant: the bytes before one are dropped to the first ones of `out`.
-- Assumes nothing.
use Rattle.text_reading.proofs.Stripping.{Stripped}
use Rattle.text_reading.proofs.strip.Given as goal

abbrev pub invariant-loop-b : goal.invariant-loop-b
invariant-loop-b l = Stripped l.text l.out l.count l.b-index
