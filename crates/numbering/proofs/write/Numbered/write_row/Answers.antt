-- `numbering::write::Numbered::write_row` meets its contract. `rest` holds the slots of situation i whose moves are not written yet: those of the
-- slots before stand behind the row's count, up to `at`. With no slot left, the row is written.
-- Assumes nothing.
use mathlib.Core.Path.{refl}
use native.Mathlib.Omega.{arith}
use Rattle.numbering.proofs.records.Row.{row-there, count_room, row-starts, row_ends, row_within, move-small}
use Rattle.numbering.proofs.records.Row.{slot_small, row-nearer, link-named, target-there, move_needs, row_on}
use Rattle.numbering.proofs.write.Numbered.write_row.Goals as goal

pub load-y-requires : goal.load-y-requires
load-y-requires c = record { inside = row-there c.args.self.now.work.now c.requires.writing }

pub put_byte-requires : goal.put_byte-requires
put_byte-requires c = record { room = count_room c.args.self.now.work.now c.requires.writing }

pub loop-rest-init : goal.loop-rest-init
loop-rest-init c = row-starts c.args.self.now.work.now c.requires.writing c.load-y.ensures c.slots-rest.ensures refl c.put_byte.ensures

pub lowest-slot-requires : goal.lowest-slot-requires
lowest-slot-requires c = slot_small c.args.self.now.work.now c.requires.writing c.loop-rest.invariant c.loop-rest-test.true

pub next_at-link-requires : goal.next_at-link-requires
next_at-link-requires c = record { inside = row-there c.args.self.now.work.now c.requires.writing; among = omega (arith, c.lowest-slot.ensures, slot_small c.args.self.now.work.now c.requires.writing c.loop-rest.invariant c.loop-rest-test.true) }

pub place_of-requires : goal.place_of-requires
place_of-requires c = link-named c.args.self.now.work.now c.requires.writing c.loop-rest.invariant c.loop-rest-test.true c.lowest-slot.ensures c.next_at-link.ensures

pub load-t-requires : goal.load-t-requires
load-t-requires c = record { inside = target-there c.args.self.now.work.now c.requires.writing c.loop-rest.invariant c.loop-rest-test.true c.lowest-slot.ensures c.next_at-link.ensures c.place_of.ensures }

pub write_move-requires : goal.write_move-requires
write_move-requires c = move_needs c.args.self.now.work.now c.requires.writing c.loop-rest.invariant c.loop-rest-test.true c.lowest-slot.ensures c.next_at-link.ensures c.place_of.ensures c.load-t.ensures

pub without_lowest-rest-requires : goal.without_lowest-rest-requires
without_lowest-rest-requires c = omega (arith, c.loop-rest-test.true)

pub loop-rest-preserved : goal.loop-rest-preserved
loop-rest-preserved c = row_on c.args.self.now.work.now c.requires.writing c.loop-rest.invariant c.loop-rest-test.true c.lowest-slot.ensures c.next_at-link.ensures c.place_of.ensures c.load-t.ensures c.write_move.ensures c.without_lowest-rest.ensures

pub loop-rest-smaller : goal.loop-rest-smaller
loop-rest-smaller c = row-nearer c.args.self.now.work.now c.requires.writing c.loop-rest.invariant c.loop-rest-test.true c.without_lowest-rest.ensures

pub returns : goal.returns
returns c = record { written = row_ends c.args.self.now.work.now c.requires.writing c.loop-rest.invariant c.loop-rest-test.false }

pub slice_bounds-write_move-count : goal.slice_bounds-write_move-count
slice_bounds-write_move-count c = omega (arith, row_within c.args.self.now.work.now c.requires.writing c.loop-rest.invariant, c.loop-rest.auto.out)

pub slice_bounds-write_move-start : goal.slice_bounds-write_move-start
slice_bounds-write_move-start c = omega (arith, row_within c.args.self.now.work.now c.requires.writing c.loop-rest.invariant, c.loop-rest.auto.out)

pub overflow_add-at : goal.overflow_add-at
overflow_add-at c = omega (arith, move-small c.args.self.now.work.now c.requires.writing c.loop-rest.invariant c.loop-rest-test.true)
