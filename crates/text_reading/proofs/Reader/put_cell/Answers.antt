-- `text_reading::Reader::put_cell` meets its contract: the number that is put is the packed cell.
-- Assumes nothing.
use mathlib.Core.Path.{refl}
use Rattle.text.specs.Cells.{packed}
use Rattle.text_reading.proofs.Reader.put_cell.Goals as goal

pub returns : goal.returns
unfolding packed
returns c =
    record {
      same = (refl, refl, refl);
      bodies_stay = refl;
      put = λ last. record { to_is = refl; cells_are = rw (c.from.ensures, c.from-2.ensures, c.from-3.ensures) refl };
    }
