-- `text_reading::place_of_byte` meets its contract. The invariant: the byte stands `at` places and as many more as the rest says.
-- Assumes nothing.
use Rattle.text_reading.proofs.Stripping.{Seeking}
use Rattle.text_reading.proofs.place_of_byte.Given as goal

abbrev pub invariant-loop-at : goal.invariant-loop-at
invariant-loop-at l = Seeking l.text l.i l.left l.at
