-- `families::join` meets its contract: in a family that has nothing before, there are the unions alone.
-- Assumes nothing.
use mathlib.Core.Path.{sym, ap, subst, ◌∙◌}
use lib.ListN.{length}
use Rattle.families.specs.Families.{Unions}
use Rattle.families.proofs.Numbers.{unions-all}
use Rattle.families.proofs.join.Goals as goal

pub returns : goal.returns
returns c =
    let a = c.args in
    let made = c.unions in
    let all = c.copy.ensures in (
      ap length all ∙ made.ensures.0,
      subst (Unions a.family.now a.other.now) (sym all) (unions-all _ _ _ made.ensures.1),
    )
