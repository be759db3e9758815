-- `text_reading::place_of_byte` meets its contract. The invariant: the byte stands `at` places and as many more as the rest says.
-- Assumes nothing.
use native.Mathlib.Omega.{arith}
use Rattle.text_reading.proofs.Stripping.{seeking-blank, seeking-found, seeking-on, seeking-ends}
use Rattle.text_reading.proofs.place_of_byte.Goals as goal

pub loop-at-preserved-then-b-eq32 : goal.loop-at-preserved-then-b-eq32
loop-at-preserved-then-b-eq32 c = seeking-blank c.loop-at.invariant c.loop-at-test.true c.if-b-eq32.true

pub returns-then-left-eq0 : goal.returns-then-left-eq0
returns-then-left-eq0 c = seeking-found c.loop-at.invariant c.loop-at-test.true c.if-b-eq32.false c.if-left-eq0.true

pub loop-at-preserved : goal.loop-at-preserved
loop-at-preserved c = seeking-on c.loop-at.invariant c.loop-at-test.true c.if-b-eq32.false c.if-left-eq0.false

pub returns : goal.returns
returns c = omega (arith, seeking-ends c.loop-at.invariant c.loop-at-test.false)
