-- `lent::left::digest` meets its contract: the figure is that of the bytes before the place, and it stays below the prime.
-- Assumes nothing.
use Rattle.std.proofs.Common.{◌≡◌, ◌<◌, fold, take}
use Rattle.lent.specs.Counts.{digested}
use Rattle.lent.proofs.left.digest.Given as goal

abbrev pub invariant-loop-byte : goal.invariant-loop-byte
invariant-loop-byte l = (l.figure < 4294967291) × (l.figure ≡ fold digested 0 (take l.byte-index l.bytes))
