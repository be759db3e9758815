-- `lent::left::all_are` meets its contract: what the iterator answers is what the definition says.
-- Assumes nothing.
use Rattle.std.proofs.Common.{◌∙◌, rules, tests}
use Rattle.std.proofs.lemmas.Iterator.{YieldsList-from_slice}
use Rattle.std.proofs.lemmas.Iterator.Search.{all_from_yields_List}
use Rattle.lent.proofs.Counts.{all-is}
use Rattle.lent.proofs.left.all_are.Goals as goal

pub returns : goal.returns
returns g c =
    all_from_yields_List (λ x. g.T.PartialEq.eq c.args.value.now x) _ _ _ c.all.ensures.ran (YieldsList-from_slice _ cc) (λ x b q k. search (rules, tests))
    ∙ all-is _ _
