-- `families::gain_low` meets its contract: a number gains the action, and those before it have.
-- Assumes nothing.
use mathlib.Core.Path.{◌≡◌, ◌∙◌}
use native.Mathlib.Omega.{arith}
use lib.Seq.{get_or-set_other}
use Rattle.families.proofs.Replacing.{replaced_at}
use Rattle.families.proofs.Gaining.{GainedWord, gained-low, gained-all}
use Rattle.families.proofs.gain_low.Goals as goal

pub loop-word-preserved : goal.loop-word-preserved
loop-word-preserved c =
    let l = c.loop-word in
    let family = c.args.family.now in
    let j = c.args.j in
    let w = l.word-index in
    let here = gained-low family j w c.gained_within.result c.requires.1 (l.invariant.1 w (omega arith)) c.gained_within.ensures in (
      λ i h. replaced_at (GainedWord family j) l.family w c.gained_within.result i (omega arith) here (λ other. l.invariant.0 i (omega arith)),
      λ i h. get_or-set_other l.family w i _ 0 (λ same. omega arith) ∙ l.invariant.1 i (omega arith),
    )

pub returns : goal.returns
returns c =
    let l = c.loop-word in
    gained-all c.args.family.now c.args.j _ (omega arith) (λ i h. l.invariant.0 i (omega arith))
