-- `connect::Wanted::connect_checked` meets its contract. A search without room is refusal 11. Else the records hold all that is reached, and
-- what follows is that of the rounds.
-- Assumes nothing.
use Rattle.std.proofs.lemmas.Result.{err_from_is_err_and}
use Rattle.connect.proofs.Connecting.{search-needs, writes-over, searched-table, some-total, writes-whole}
use Rattle.connect.proofs.Wanted.connect_checked.Goals as goal

pub explore-requires : goal.explore-requires
explore-requires c = record {
  searchable = search-needs c.args.work.now c.requires.old_sheet c.requires.new_sheet c.requires.rank c.limit_of-limit.ensures;
}

pub returns-in_err-count : goal.returns-in_err-count
returns-in_err-count c =
    let why = err_from_is_err_and c.from_residual.result c.from_residual.ensures.1 in
    record {
      written = rw (why.1, why.2)
          (writes-over c.args.self.now.k c.args.self.now.old.now c.args.self.now.new.now c.limit_of-limit.result c.args.work.now c.explore.new.work c.in_err-count.ensures.explored
          c.args.self.now.mode c.limit_of-limit.ensures c.args.plan.now);
    }

pub relate-requires : goal.relate-requires
relate-requires c = record {
  searched = searched-table c.args.self.now.k c.args.self.now.old.now c.args.self.now.new.now c.limit_of-limit.result c.args.work.now c.explore.new.work c.in_ok-count.ensures.explored
      c.requires.old_sheet c.requires.new_sheet c.requires.rank c.from.ensures;
  some_situation = some-total c.args.self.now.k c.args.self.now.old.now c.args.self.now.new.now c.limit_of-limit.result c.args.work.now c.explore.new.work c.in_ok-count.ensures.explored
      c.requires.old_sheet c.requires.new_sheet c.requires.rank c.from.ensures;
}

pub returns : goal.returns
returns c = record {
  written = writes-whole c.args.self.now.k c.args.self.now.old.now c.args.self.now.new.now c.limit_of-limit.result c.args.work.now c.explore.new.work c.in_ok-count.ensures.explored
      c.requires.old_sheet c.requires.new_sheet c.requires.rank c.from.ensures
      c.args.self.now.mode c.limit_of-limit.ensures c.args.plan.now c.relate.new.plan c.relate.ensures.written;
}
