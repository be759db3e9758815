-- Tables of zeros hold no row.
-- Assumes nothing.
use Prim.Native.Nat.{ℕ}
use lib.ListN.{length-replicate}
use Rattle.nodes.proofs.Blank.{zeros, zeros-blank}
use Rattle.choosing_rows.specs.Holding.{NoRows}

pub blank-rows : NoRows (zeros 32) (zeros 32) (zeros 448)
blank-rows =
    record {
      hidden_room = length-replicate {A = ℕ} 32 0;
      masks_room = length-replicate {A = ℕ} 32 0;
      targets_room = length-replicate {A = ℕ} 448 0;
      blank = λ p h. zeros-blank 448 p;
    }
