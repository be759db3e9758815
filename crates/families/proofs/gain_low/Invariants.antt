-- `families::gain_low` meets its contract. The loop's invariant: the numbers before this one have gained the action, the others are as lent.
-- Assumes nothing.
use mathlib.Core.Path.{◌≡◌}
use Prim.Native.Nat.{ℕ, ◌≤◌, ◌<◌}
use lib.ListN.{get_or}
use Rattle.families.proofs.Gaining.{GainedWord}
use Rattle.families.proofs.gain_low.Given as goal

abbrev pub invariant-loop-word : goal.invariant-loop-word
invariant-loop-word l =
    ((i : ℕ) → i < l.word-index → GainedWord l.initial.family l.j i (get_or l.family i 0))
    × ((i : ℕ) → l.word-index ≤ i → get_or l.family i 0 ≡ get_or l.initial.family i 0)
