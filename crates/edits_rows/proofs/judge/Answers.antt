-- `edits_rows::judge` meets its contract: the first condition that is broken decides, and the masks of the row stand for its codes.
-- Assumes nothing.
use mathlib.Core.Path.{refl}
use Rattle.std.proofs.Common.{rules}
use Rattle.model.specs.Contract.{state}
use Rattle.model.specs.Sheet.{contract_in}
use Rattle.model.specs.Situation.{alike, kind_of}
use Rattle.model.specs.Test.{answered}
use Rattle.moves.specs.Present.{codes_of}
use Rattle.edits.specs.Sound.{blamed}
use Rattle.edits_rows.specs.Rows.{keeps_counts, met_by}
use Rattle.edits_rows.proofs.Judging.{found-some, found-none, kept, told}
use Rattle.edits_rows.proofs.judge.Goals as goal

pub returns-in-Some : goal.returns-in-Some
unfolding blamed
returns-in-Some c =
    let within = c.first_code_not.ensures (keeps_counts (alike c.args.k) c.args.at.buffer.counts) (λ x r e. search (rules, kept)) in
    told _ c.requires _ _ refl (found-some _ within c.in-Some.is) refl refl refl

pub returns-in-Some-first_code_not : goal.returns-in-Some-first_code_not
unfolding blamed
returns-in-Some-first_code_not c =
    let within = c.first_code_not.ensures (keeps_counts (alike c.args.k) c.args.at.buffer.counts) (λ x r e. search (rules, kept)) in
    let meets = c.first_code_not-2.ensures (λ code. met_by c.args.old_offer.actions c.args.new_offer.actions (kind_of code)) (λ x r e. search rules) in
    told _ c.requires _ _ refl (found-none _ within c.in_default.not-Some) (found-some _ meets c.in-Some-first_code_not.is) refl refl

pub returns-in-Some-first_ready_not : goal.returns-in-Some-first_ready_not
unfolding blamed
returns-in-Some-first_ready_not c =
    let within = c.first_code_not.ensures (keeps_counts (alike c.args.k) c.args.at.buffer.counts) (λ x r e. search (rules, kept)) in
    let meets = c.first_code_not-2.ensures (λ code. met_by c.args.old_offer.actions c.args.new_offer.actions (kind_of code)) (λ x r e. search rules) in
    let answers = c.first_ready_not.ensures (answered (state (contract_in c.args.old.now) c.args.at.old).ready (codes_of c.present_in-present.result)) (λ x r e. search rules) in
    told _ c.requires _ _ c.present_in-present.ensures (found-none _ within c.in_default.not-Some) (found-none _ meets c.in_default-first_code_not.not-Some)
    (found-some _ answers c.in-Some-first_ready_not.is) refl

pub returns-in-Some-undelivered : goal.returns-in-Some-undelivered
unfolding blamed
returns-in-Some-undelivered c =
    let within = c.first_code_not.ensures (keeps_counts (alike c.args.k) c.args.at.buffer.counts) (λ x r e. search (rules, kept)) in
    let meets = c.first_code_not-2.ensures (λ code. met_by c.args.old_offer.actions c.args.new_offer.actions (kind_of code)) (λ x r e. search rules) in
    let answers = c.first_ready_not.ensures (answered (state (contract_in c.args.old.now) c.args.at.old).ready (codes_of c.present_in-present.result)) (λ x r e. search rules) in
    told _ c.requires _ _ c.present_in-present.ensures (found-none _ within c.in_default.not-Some) (found-none _ meets c.in_default-first_code_not.not-Some)
    (found-none _ answers c.in_default-first_ready_not.not-Some) (found-some _ c.undelivered.ensures c.in-Some-undelivered.is)

pub returns : goal.returns
unfolding blamed
returns c =
    let within = c.first_code_not.ensures (keeps_counts (alike c.args.k) c.args.at.buffer.counts) (λ x r e. search (rules, kept)) in
    let meets = c.first_code_not-2.ensures (λ code. met_by c.args.old_offer.actions c.args.new_offer.actions (kind_of code)) (λ x r e. search rules) in
    let answers = c.first_ready_not.ensures (answered (state (contract_in c.args.old.now) c.args.at.old).ready (codes_of c.present_in-present.result)) (λ x r e. search rules) in
    told _ c.requires _ _ c.present_in-present.ensures (found-none _ within c.in_default.not-Some) (found-none _ meets c.in_default-first_code_not.not-Some)
    (found-none _ answers c.in_default-first_ready_not.not-Some) (found-none _ c.undelivered.ensures c.in_default-undelivered.not-Some)
