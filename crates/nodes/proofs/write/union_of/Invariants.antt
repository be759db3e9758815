-- `nodes::write::union_of` meets its contract. The invariant: the union so far, with the masks that are left, is that of all.
-- Assumes nothing.
use mathlib.Core.Path.{◌≡◌}
use lib.ListN.{drop}
use Rattle.sheet.specs.Union.{union_from, union_of}
use Rattle.nodes.proofs.write.union_of.Given as goal

abbrev pub invariant-loop-m : goal.invariant-loop-m
invariant-loop-m l = union_of l.masks ≡ union_from l.union (drop l.m-index l.masks)
