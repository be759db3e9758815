-- Whether a code has a name below n, by the range that the code is in: the tests of the ranges compute.
-- Assumes nothing.
use mathlib.Core.Path.{◌≡◌}
use mathlib.Core.Bool.{false}
use Prim.Native.Nat.{ℕ, ◌-◌, ◌<◌, ◌≤◌}
use native.Mathlib.Omega.{arith}
use lib.Dec.{ltb}
use borrow.Author.Tests.{lt-ltb, le-ltb, le-leb, lt-leb}
use Rattle.model.specs.Contract.{takes, name}
use Rattle.model.specs.Situation.{kind_of}
use Rattle.model.specs.Plan.{named_below}

module _ (j n : ℕ) where
  pub named-takes : j < 7 → ltb j n ≡ ltb (name j) n
  unfolding name takes
  named-takes h = simp (lt-ltb _ _ h)

  pub named-sends : 7 ≤ j → ltb (j - 7) n ≡ ltb (name j) n
  unfolding name takes
  named-sends h = simp (le-ltb _ _ h)

module _ (code n : ℕ) where
  pub named-straight : code ≤ 13 → ltb (name code) n ≡ named_below n (kind_of code)
  unfolding named_below kind_of
  named-straight h = simp (le-leb _ _ h)

  pub named-client : 16 ≤ code → code ≤ 29 → ltb (name (code - 16)) n ≡ named_below n (kind_of code)
  unfolding named_below kind_of
  named-client l h = simp (lt-leb code 13 (omega arith), le-leb _ _ l, le-leb _ _ h)

  pub named-service : 32 ≤ code → code ≤ 45 → ltb (name (code - 32)) n ≡ named_below n (kind_of code)
  unfolding named_below kind_of
  named-service l h = simp (
    lt-leb code 13 (omega arith),
    le-leb 16 code (omega arith),
    lt-leb code 29 (omega arith),
    le-leb _ _ l,
    le-leb
        _ _ h,
  )

  -- between the ranges and beyond them
  pub stray-low : 13 < code → code < 16 → false ≡ named_below n (kind_of code)
  unfolding named_below kind_of
  stray-low l h = simp (lt-leb _ _ l, lt-leb 16 code h, lt-leb 32 code (omega arith))

  pub stray-middle : 29 < code → code < 32 → false ≡ named_below n (kind_of code)
  unfolding named_below kind_of
  stray-middle l h = simp (lt-leb code 13 (omega arith), le-leb 16 code (omega arith), lt-leb _ _ l, lt-leb 32 code h)

  pub stray-high : 45 < code → false ≡ named_below n (kind_of code)
  unfolding named_below kind_of
  stray-high l = simp (
    lt-leb code 13 (omega arith),
    le-leb 16 code (omega arith),
    lt-leb code 29 (omega arith),
    le-leb 32 code
        (omega arith),
    lt-leb _ _ l,
  )
