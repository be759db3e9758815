-- `nodes::write::put_masks` meets its contract. The invariant: all but the masks from i on are written, up to place 2·i.
-- Assumes nothing.
use Prim.Native.Nat.{◌*◌}
use lib.ListN.{drop}
use Rattle.nodes.specs.SheetBytes.{mask_bytes}
use Rattle.nodes.proofs.Writing.{Writing}
use Rattle.nodes.proofs.write.put_masks.Given as goal

abbrev pub invariant-loop-i : goal.invariant-loop-i
invariant-loop-i l =
    Writing (mask_bytes l.masks) (mask_bytes (drop l.i l.masks)) (2 * l.i) l.initial.out l.out
