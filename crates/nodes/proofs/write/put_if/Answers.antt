-- `nodes::write::put_if` meets its contract: a byte that is wanted is written as one byte, and nothing else is.
-- Assumes nothing.
use Rattle.nodes.proofs.Writing.{wanted_room, wrote-wanted, wrote-unwanted}
use Rattle.nodes.proofs.write.put_if.Goals as goal

pub put_byte-requires : goal.put_byte-requires
put_byte-requires c = record { room = wanted_room c.args.x c.if-wanted.true c.requires }

pub returns-then-wanted : goal.returns-then-wanted
returns-then-wanted c =
    wrote-wanted c.args.x c.if-wanted.true
    c.put_byte.ensures

pub returns : goal.returns
returns c = wrote-unwanted c.args.x c.args.out.now c.if-wanted.false
