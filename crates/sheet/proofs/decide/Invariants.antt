-- `sheet::decide` meets its contract. The loop's invariant: no ready set before place i decides, so the rest does.
-- Assumes nothing.
use Rattle.std.proofs.Common.{Bool, ℕ}
use Rattle.sheet.specs.Tests.{Computes, asked}
use Rattle.sheet.proofs.ReadySets.{ReadySets}
use Rattle.sheet.proofs.decide.Given as goal

abbrev pub invariant-loop-i : goal.invariant-loop-i
invariant-loop-i g l = (p : ℕ → Bool) → Computes (goal.F-post g l.test) p → ReadySets l.b l.q (asked p l.stop) l.i-end l.i
