-- `check_plan::admitted` meets its contract: sheets that are refused, or what is said of the plan.
-- Assumes nothing.
use mathlib.Core.Path.{sym, ◌∙◌}
use Rattle.std.proofs.lemmas.Result.{err_from_is_err_and}
use Rattle.check_plan.proofs.Admitting.{admits-sheets, old-is-sheet, admits-none, admits-names, admits-plan}
use Rattle.check_plan.proofs.admitted.Goals as goal

pub returns-in_err-check_pair : goal.returns-in_err-check_pair
returns-in_err-check_pair c =
    let why = err_from_is_err_and c.from_residual.result c.from_residual.ensures.1 in
    record { admits = rw (why.1, why.2) (admits-sheets _ _ _ c.check_pair.ensures c.in_err-check_pair.was) }

pub returns-then-not-is_plan : goal.returns-then-not-is_plan
returns-then-not-is_plan c =
    record { admits = admits-none _ _ _ c.check_pair.ensures c.in_ok-check_pair.was (sym c.is_plan.ensures ∙ c.if-not-is_plan.true) }

pub figures_of-requires : goal.figures_of-requires
figures_of-requires c = sym c.is_plan.ensures ∙ c.if-not-is_plan.false

pub name_count-requires : goal.name_count-requires
name_count-requires c = old-is-sheet _ _ c.args.plan.now c.check_pair.ensures c.in_ok-check_pair.was

pub returns-then-figures_of-name_count : goal.returns-then-figures_of-name_count
returns-then-figures_of-name_count c =
    record {
      admits =
          admits-names _ _ _ c.check_pair.ensures c.in_ok-check_pair.was c.figures_of.ensures
          (λ e. c.if-figures_of-name_count.true (e ∙ sym c.name_count.ensures));
    }

pub returns : goal.returns
returns c =
    record {
      admits =
          admits-plan _ _ _ c.check_pair.ensures c.in_ok-check_pair.was c.figures_of.ensures
          (c.if-figures_of-name_count.false ∙ c.name_count.ensures);
    }
