-- `nodes::write::put_masks` meets its contract. The invariant: all but the masks from i on are written, up to place 2·i.
-- Assumes nothing.
use mathlib.Core.Path.{refl}
use native.Mathlib.Omega.{arith}
use lib.ListN.{get_or}
use Rattle.model.proofs.PlanBytes.{length-16}
use Rattle.nodes.proofs.Sheets.{length-masks}
use Rattle.nodes.proofs.Writing.{writing-begun, writing-length, writing-room, writing-ends}
use Rattle.nodes.proofs.Writing.{wrote-word, piece-room, writing_more, writing-at}
use Rattle.nodes.proofs.Tables.{masks-more, masks-end}
use Rattle.nodes.proofs.write.put_masks.Goals as goal

pub loop-i-init : goal.loop-i-init
loop-i-init c = writing-begun refl (omega (arith, length-masks c.args.masks.now))

pub slice_bounds-put_word-count : goal.slice_bounds-put_word-count
slice_bounds-put_word-count c = omega (arith, writing-room c.loop-i.invariant)

pub slice_bounds-put_word-start : goal.slice_bounds-put_word-start
slice_bounds-put_word-start c = omega (arith, writing-room c.loop-i.invariant)

pub put_word-requires : goal.put_word-requires
put_word-requires c =
    record {
      room =
          let l = c.loop-i in
          let masks = c.args.masks.now in
          omega (arith, piece-room l.invariant (masks-more masks l.i (omega arith)), length-16 (get_or masks l.i 0));
    }

pub loop-i-preserved : goal.loop-i-preserved
loop-i-preserved c =
    let l = c.loop-i in
    let masks = c.args.masks.now in
    let word = wrote-word (get_or masks l.i 0) c.put_word.ensures in
    writing-at (writing_more l.invariant (masks-more masks l.i (omega arith)) word) (omega arith)

pub shape_of-out : goal.shape_of-out
shape_of-out c = writing-length c.loop-i.invariant

pub returns : goal.returns
returns c =
    let l = c.loop-i in
    let masks = c.args.masks.now in
    (writing-ends l.invariant (masks-end masks l.i (omega arith))).in_front
