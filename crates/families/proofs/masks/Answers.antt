-- `families::masks` meets its contract. The loop's invariant: n of the family's masks are written, and those of the numbers from w on are left.
-- Assumes nothing.
use Prim.Native.Nat.{◌-◌}
use native.Mathlib.Omega.{arith}
use lib.ListN.{get_or}
use Rattle.families.specs.Families.{masks_of, masks_in}
use Rattle.families.proofs.MasksOf.{from_all, from_end, from_more}
use Rattle.little_endian.proofs.OneByOne.{writing-none, writing-length, writing-end, most-length, rest-room}
use Rattle.families.proofs.Pieces.{piece-all, piece-over}
use Rattle.families.proofs.masks.Goals as goal

pub loop-w-init : goal.loop-w-init
loop-w-init c = (omega arith, writing-none _ _ (from_all _))

pub returns-then-n-gt-MOST : goal.returns-then-n-gt-MOST
returns-then-n-gt-MOST c =
    let l = c.loop-w in
    let family = c.args.family.now in
    piece-over l.invariant.1 (masks_in l.w (get_or family l.w 0)) _ (from_more family l.w (omega arith)) (8 - l.n) (omega arith)
    c.masks_in-n.ensures 8 (omega arith) (omega arith)

pub loop-w-preserved : goal.loop-w-preserved
loop-w-preserved c =
    let l = c.loop-w in
    let family = c.args.family.now in (
      omega arith,
      piece-all l.invariant.1 (masks_in l.w (get_or family l.w 0)) _ (from_more family l.w (omega arith)) (8 - l.n) (omega arith)
          c.masks_in-n.ensures (omega arith),
    )

pub returns : goal.returns
returns c = let l = c.loop-w in writing-end l.invariant.1 (from_end _ l.w (omega arith)) 8 l.invariant.0
