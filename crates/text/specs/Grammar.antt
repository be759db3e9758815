-- The grammar of contracts typed as text, over bytes without blanks. Request 7/13, "Contracts typed as text"; docs/GRAMMAR.md has it in
-- the usual form.
-- Assumes nothing.
use Rattle.std.specs.Prelude.{List, [], ◌∷◌, ◌++◌, ℕ, suc, ◌+◌, ◌≤◌, max}

-- "a to g take, !a to !g send": the bytes of an action
pub data Spelled : ℕ → List ℕ → Type 0 where
  takes : (i : ℕ) → i ≤ 6 → Spelled i ((97 + i) ∷ [])
  sends : (i : ℕ) → i ≤ 6 → Spelled (7 + i) (33 ∷ (97 + i) ∷ [])

-- what was typed, as a tree
pub data Tree : Type 0 where
  -- "0 is the end"
  nought : Tree
  -- "an action with no dot after it is followed by the end"
  bare : ℕ → Tree
  -- "a dot prefixes"
  dotted : ℕ → Tree → Tree
  -- "+ is external choice"
  summed : Tree → Tree → Tree
  -- "(+) is internal choice"
  chosen : Tree → Tree → Tree
  -- "rec X. binds one of X, Y, Z", which are 0 to 2
  bound : ℕ → Tree → Tree
  variable : ℕ → Tree
  -- "brackets group"
  bracket : Tree → Tree

-- "Prefix and rec bind tightest, then +, then (+)"
pub data Level : Type 0 where
  tight : Level
  sums : Level
  whole : Level

-- bytes are a text of a tree, on a level
pub data Derives : Level → Tree → List ℕ → Type 0 where
  -- tight ::= 0 | variable | action | action . tight | rec variable . tight | ( whole )
  d_nought : Derives tight nought (48 ∷ [])
  d_variable : (v : ℕ) → v ≤ 2 → Derives tight (variable v) ((88 + v) ∷ [])
  d_bare : (j : ℕ) (x : List ℕ) → Spelled j x → Derives tight (bare j) x
  d_dotted : (j : ℕ) (t : Tree) (x y : List ℕ) → Spelled j x → Derives tight t y → Derives tight (dotted j t) (x ++ (46 ∷ y))
  d_bound : (v : ℕ) (t : Tree) (y : List ℕ) → v ≤ 2 → Derives tight t y
      → Derives tight (bound v t) (114 ∷ 101 ∷ 99 ∷ (88 + v) ∷ 46 ∷ y)
  d_bracket : (t : Tree) (x : List ℕ) → Derives whole t x → Derives tight (bracket t) (40 ∷ (x ++ (41 ∷ [])))
  -- sums ::= tight | sums + tight, "grouping to the left"
  d_one : (t : Tree) (x : List ℕ) → Derives tight t x → Derives sums t x
  d_summed : (t u : Tree) (x y : List ℕ) → Derives sums t x → Derives tight u y → Derives sums (summed t u) (x ++ (43 ∷ y))
  -- whole ::= sums | whole (+) sums, "grouping to the left"
  d_only : (t : Tree) (x : List ℕ) → Derives sums t x → Derives whole t x
  d_chosen : (t u : Tree) (x y : List ℕ) → Derives whole t x → Derives sums u y
      → Derives whole (chosen t u) (x ++ (40 ∷ 43 ∷ 41 ∷ y))

-- these bytes are a text of this tree
abbrev pub Text : Tree → List ℕ → Type 0
Text t s = Derives whole t s

-- "each bracket, prefix and rec over a place in the tree counting one and an action counting itself"
unfoldable pub depth_of : Tree → ℕ
depth_of nought = 0
depth_of (bare j) = 1
depth_of (dotted j t) = suc (depth_of t)
depth_of (summed t u) = max (depth_of t) (depth_of u)
depth_of (chosen t u) = max (depth_of t) (depth_of u)
depth_of (bound v t) = suc (depth_of t)
depth_of (variable v) = 0
depth_of (bracket t) = suc (depth_of t)
