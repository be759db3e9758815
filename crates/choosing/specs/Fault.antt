-- Where a choosing sheet is at fault: a row for refusals 17 and 18, which carry none. Request 1/13.
-- Assumes nothing.
use Rattle.std.specs.Prelude.{cond, List, ℕ, zero, suc, ◌+◌, ◌-◌, ◌*◌, get_or, eqb}
use Rattle.std.proofs.Math.Option.{Option, none, some, Option-elim}
use Rattle.model.specs.Lists.{place}
use Rattle.model.specs.Bytes.{word}
use Rattle.model.specs.Contract.{has}
use Rattle.model.specs.Sheet.{Trailer, trailer}
use Rattle.choosing.specs.Rows.{ChoosingRow, Choosing}
use Rattle.choosing.specs.Read.{Part, choosing_row_at, framed}
use Rattle.choosing.specs.Convert.{row_numbers, leads_of}

module _ (b : List ℕ) (t : Trailer) where
  -- the first row at fault, as `rows_from` reads them: not where the index says, or not of the right form; a gap after the last row counts
  -- for the last
  unfoldable pub fault_from : (left q i : ℕ) → Option ℕ
  fault_from zero q i = cond (eqb i t.index) none (some (q - 1))
  fault_from (suc left) q i =
      let rest = Option-elim (choosing_row_at b t i) (some q) (λ (p : Part ChoosingRow). fault_from left (suc q) p.behind) in
      cond (eqb (word b (t.index + 2 * q)) i) rest (some q)

-- 17: the first row at fault; none if trailer or length are wrong, or if nothing is
unfoldable pub fault_row : List ℕ → Option ℕ
fault_row b = cond (framed b) (fault_from b (trailer b) (trailer b).count 0 0) none

-- 18: the first row that leads back to itself; the number of rows if none does
unfoldable pub circle_row : Choosing → ℕ
circle_row c = place (λ r. has (get_or (leads_of c) r 0) r) (row_numbers c)
