-- The transitions of the rows of a choosing sheet, the arrows of Padovani 2010. Request 1/13.
-- Assumes nothing.
use mathlib.Core.List.{Memᴰ}
use Rattle.std.specs.Prelude.{ℕ}
use Rattle.nodes.specs.Transitions.{Silently}
use Rattle.choosing.specs.Rows.{Choosing, row_in, hidden_of, targets_of}

module _ (c : Choosing) where
  -- σ ⟶ σ': an internal move
  abbrev pub Hides : ℕ → ℕ → Type 0
  Hides r s = Memᴰ s (hidden_of (row_in c r))

  -- σ ⟶α σ': an action
  abbrev pub Does : ℕ → ℕ → ℕ → Type 0
  Does r j s = Memᴰ s (targets_of (row_in c r) j)

  -- "a circle of internal moves, reached or not"
  abbrev pub Circle : Type 0
  Circle = (r s : ℕ) × Hides r s × Silently Hides s r
