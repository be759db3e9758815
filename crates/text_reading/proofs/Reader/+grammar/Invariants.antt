-- Each measure is four times the depth that is left: a tight part is below its chains, these below their brackets, and all of them below a
-- tight part with one more depth left. A loop's invariant: a part was read that can go on. Assumes nothing.
use mathlib.Core.List.{[], ◌∷◌}
use Prim.Native.Nat.{◌+◌, ◌-◌, ◌*◌}
use lib.ListN.{length, drop}
use Rattle.text.specs.Grammar.{summed, chosen}
use Rattle.text.specs.Parser.{tight_at, sums_of, whole_of}
use Rattle.text_reading.specs.Reader.{standing, SameTables}
use Rattle.text_reading.proofs.Chains.{Chained}
use Rattle.text_reading.proofs.Reader.+grammar.Given as goal

abbrev pub decreases-behind : goal.decreases-behind
decreases-behind l = 4 * l.depth + 1

abbrev pub decreases-bracket : goal.decreases-bracket
decreases-bracket l = 4 * l.depth + 3

abbrev pub decreases-rec : goal.decreases-rec
decreases-rec l = 4 * l.depth + 1

abbrev pub decreases-sums : goal.decreases-sums
decreases-sums l = 4 * l.depth + 1

abbrev pub decreases-tight : goal.decreases-tight
decreases-tight l = 4 * l.depth

abbrev pub decreases-whole : goal.decreases-whole
decreases-whole l = 4 * l.depth + 2

abbrev pub invariant-sums-loop-scope : goal.invariant-sums-loop-scope
invariant-sums-loop-scope l =
    let text = l.fn.self.text.now in
    SameTables l.fn.self l.self
    × Chained 43 [] (tight_at (length text) l.depth) summed text (standing l.fn.self 0) l.scope l.fn.self.cells.now l.fn.self.bodies.now
    (sums_of (length text) (tight_at (length text) l.depth) (drop l.fn.self.at text)) (standing l.self l.part) l.self.cells.now l.self.bodies.now

abbrev pub decreases-sums-loop-scope : goal.decreases-sums-loop-scope
decreases-sums-loop-scope l = length l.fn.self.text.now - l.self.at

abbrev pub invariant-whole-loop-scope : goal.invariant-whole-loop-scope
invariant-whole-loop-scope l =
    let text = l.fn.self.text.now in
    SameTables l.fn.self l.self
    × Chained 40 (43 ∷ 41 ∷ []) (sums_of (length text) (tight_at (length text) l.depth)) chosen text (standing l.fn.self 0) l.scope l.fn.self.cells.now
    l.fn.self.bodies.now (whole_of (length text) (tight_at (length text) l.depth) (drop l.fn.self.at text)) (standing l.self l.part)
    l.self.cells.now l.self.bodies.now

abbrev pub decreases-whole-loop-scope : goal.decreases-whole-loop-scope
decreases-whole-loop-scope l = length l.fn.self.text.now - l.self.at
