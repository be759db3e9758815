-- `pair::check_pair` meets its contract: place by place, role by role, then the names.
-- Assumes nothing.
use Rattle.std.proofs.Common.{sym, ◌∙◌}
use Rattle.sheet.proofs.Answers.{passed-up, placed}
use Rattle.pair.specs.Pairs.{refusal_of}
use Rattle.pair.proofs.Pairs.{first-refused, second-refused, first-role, second-role, other-names, good-pair}
use Rattle.pair.proofs.check_pair.Goals as goal

pub returns-in_err-check_in_place : goal.returns-in_err-check_in_place
returns-in_err-check_in_place c =
    passed-up refusal_of c.from_residual.result _ c.from_residual.ensures.1
    ∙ first-refused _ _ _ _ _ c.in_err-check_in_place.ensures

pub returns-in_err-check_in_place-2 : goal.returns-in_err-check_in_place-2
returns-in_err-check_in_place-2 c =
    passed-up refusal_of c.from_residual-in_err-check_in_place-2.result _ c.from_residual-in_err-check_in_place-2.ensures.1
    ∙ second-refused _ _ _ _ (placed 1 _ c.in_ok-check_in_place.ensures) _ c.in_err-check_in_place-2.ensures

pub role-requires : goal.role-requires
role-requires c = placed 1 _ c.in_ok-check_in_place.ensures

pub role-requires-2 : goal.role-requires-2
role-requires-2 c = placed 2 _ c.in_ok-check_in_place-2.ensures

pub name_count-requires : goal.name_count-requires
name_count-requires c = placed 1 _ c.in_ok-check_in_place.ensures

pub name_count-requires-2 : goal.name_count-requires-2
name_count-requires-2 c = placed 2 _ c.in_ok-check_in_place-2.ensures

pub returns-then-role-role1 : goal.returns-then-role-role1
returns-then-role-role1 c =
    let one = placed 1 _ c.in_ok-check_in_place.ensures in
    let two = placed 2 _ c.in_ok-check_in_place-2.ensures in
    first-role _ _ _ _ one two (λ e. c.if-role-role1.true (c.role.ensures ∙ e))

pub returns-then-role-role2 : goal.returns-then-role-role2
returns-then-role-role2 c =
    let one = placed 1 _ c.in_ok-check_in_place.ensures in
    let two = placed 2 _ c.in_ok-check_in_place-2.ensures in
    second-role _ _ _ _ one two (sym c.role.ensures ∙ c.if-role-role1.false) (λ e. c.if-role-role2.true (c.role-2.ensures ∙ e))

pub returns-then-name_count : goal.returns-then-name_count
returns-then-name_count c =
    let one = placed 1 _ c.in_ok-check_in_place.ensures in
    let two = placed 2 _ c.in_ok-check_in_place-2.ensures in
    other-names _ _ _ _ one two (sym c.role.ensures ∙ c.if-role-role1.false) (sym c.role-2.ensures ∙ c.if-role-role2.false)
    (λ e. c.if-name_count.true (c.name_count.ensures ∙ e ∙ sym c.name_count-2.ensures))

pub returns : goal.returns
returns c =
    let one = placed 1 _ c.in_ok-check_in_place.ensures in
    let two = placed 2 _ c.in_ok-check_in_place-2.ensures in
    good-pair _ _ _ _ one two (sym c.role.ensures ∙ c.if-role-role1.false) (sym c.role-2.ensures ∙ c.if-role-role2.false)
    (sym c.name_count.ensures ∙ c.if-name_count.false ∙ c.name_count-2.ensures)
