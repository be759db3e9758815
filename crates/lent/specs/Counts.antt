-- Lent records are told apart by their numbers: how many of them have one value in all their numbers.
-- Assumes nothing.
use Rattle.std.specs.Prelude.{Bool, ◌&&◌, cond, List, [], ◌∷◌, ℕ, ◌+◌, ◌*◌, ◌%◌, eqb}
use Rattle.model.specs.Lists.{all}
use Rattle.table.specs.declared.Record.{Record}

-- the digest of bytes and one more behind them
unfoldable pub digested : ℕ → ℕ → ℕ
digested figure byte = (257 * figure + byte + 1) % 4294967291

-- the numbers of a record that stand alone
unfoldable pub singles : Record → List ℕ
singles y =
    y.at.old ∷ y.at.new ∷ y.slot ∷ y.order ∷ y.mark ∷ y.number ∷ y.present.straight ∷ y.present.client ∷ y.present.service ∷
    []

-- all numbers of a record have a value
unfoldable pub filled_with : ℕ → Record → Bool
filled_with v y =
    ((all (eqb v) y.at.buffer.counts) && (eqb v y.packed))
    && (((all (eqb v) (singles y)) && (all (eqb v) y.last)) && ((all (eqb v) y.next) && (all (eqb v) y.before)))

-- how many records have it
unfoldable pub count_of : ℕ → List Record → ℕ
count_of v [] = 0
count_of v (y ∷ ys) =
    cond (filled_with v y) 1 0 + count_of v ys
