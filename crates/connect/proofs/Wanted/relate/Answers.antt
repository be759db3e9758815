-- `connect::Wanted::relate` meets its contract. The rounds sift the situations. If the start has a mark it was removed, which is refusal 12.
-- Else the table is sifted with no state numbered yet, and what follows is that of the plan.
-- Assumes nothing.
use Rattle.connect.proofs.Relating.{start-there, relate-removed, emit-needs, relate-kept}
use Rattle.connect.proofs.Wanted.relate.Goals as goal

pub sift-rounds-requires : goal.sift-rounds-requires
sift-rounds-requires c = record { searched = c.requires.searched }

pub load-requires : goal.load-requires
load-requires c = record {
  inside = start-there c.args.self.now.mode c.args.self.now.k c.args.self.now.old.now c.args.self.now.new.now c.args.count c.sift-rounds.result c.args.work.now c.requires.searched
      c.requires.some_situation c.sift-rounds.ensures.sifted;
}

pub returns-then-load-ne0 : goal.returns-then-load-ne0
returns-then-load-ne0 c = record {
  written = relate-removed c.args.self.now.mode c.args.self.now.k c.args.self.now.old.now c.args.self.now.new.now c.args.count c.sift-rounds.result c.args.work.now c.requires.searched
      c.requires.some_situation c.sift-rounds.ensures.sifted
      c.load.ensures c.if-load-ne0.true c.args.plan.now;
}

pub emit-requires : goal.emit-requires
emit-requires c = record {
  old_sheet = c.requires.searched.situated.old_sheet;
  unnumbered = emit-needs c.args.self.now.mode c.args.self.now.k c.args.self.now.old.now c.args.self.now.new.now c.args.count c.sift-rounds.result c.args.work.now c.requires.searched
      c.requires.some_situation c.sift-rounds.ensures.sifted
      c.load.ensures c.if-load-ne0.false;
}

pub returns : goal.returns
returns c = record {
  written = relate-kept c.args.self.now.mode c.args.self.now.k c.args.self.now.old.now c.args.self.now.new.now c.args.count c.sift-rounds.result c.args.work.now c.requires.searched
      c.requires.some_situation c.sift-rounds.ensures.sifted
      c.load.ensures c.if-load-ne0.false c.args.plan.now c.emit.new.plan c.emit.ensures.written;
}
