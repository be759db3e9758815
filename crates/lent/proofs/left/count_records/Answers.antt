-- `lent::left::count_records` meets its contract: what is counted is what the definition counts.
-- Assumes nothing.
use Rattle.std.proofs.Common.{◌≡◌, ◌∙◌, rules}
use Rattle.std.specs.List.{count_by}
use Rattle.lent.specs.Counts.{filled_with}
use Rattle.lent.proofs.Counts.{count-is}
use Rattle.lent.proofs.left.count_records.Goals as goal

pub returns : goal.returns
returns c =
    let e : c.count.result ≡ count_by (filled_with c.args.value) c.args.work.now = search rules in
    e ∙ count-is _ _
