-- `families::gain_high` meets its contract: a number gains the action from one that is as lent, and those behind it have.
-- Assumes nothing.
use mathlib.Core.Path.{◌≡◌, ◌∙◌}
use Prim.Native.Nat.{◌+◌, ◌-◌}
use native.Mathlib.Omega.{arith}
use lib.Seq.{get_or-set_other}
use Rattle.families.proofs.Replacing.{replaced_at}
use Rattle.families.proofs.Gaining.{GainedWord, gained-high, gained-all}
use Rattle.families.proofs.gain_high.Goals as goal

pub loop-w-preserved : goal.loop-w-preserved
loop-w-preserved c =
    let l = c.loop-w in
    let family = c.args.family.now in
    let b = c.args.b in
    let w = l.w - 1 in
    let here = gained-high family l.family b w (λ k h. l.invariant.1 k (omega arith)) c.gained_across.ensures in (
      λ i h k. replaced_at (GainedWord family (6 + b)) l.family w _ i (omega arith) here (λ other. l.invariant.0 i (omega arith) k),
      λ i h. get_or-set_other l.family w i _ 0 (λ same. omega arith) ∙ l.invariant.1 i (omega arith),
    )

pub returns : goal.returns
returns c =
    let l = c.loop-w in
    gained-all c.args.family.now (6 + c.args.b) _ (omega arith) (λ i h. l.invariant.0 i (omega arith) h)
