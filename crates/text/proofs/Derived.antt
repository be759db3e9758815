-- What the grammar says of a term that was typed: its actions are among the fourteen, its variables are X, Y and Z, and a rec takes five
-- bytes, so that there are few. Each is a recursion on the derivation.
-- Assumes nothing.
use mathlib.Core.List.{List, [], ◌∷◌}
use Prim.Native.Nat.{ℕ, ◌*◌, ◌<◌, ◌≤◌}
use native.Mathlib.Omega.{arith}
use lib.ListN.{length, length-append}
use Rattle.text.specs.Grammar.{
  Spelled,
  takes,
  sends,
  Tree,
  Level,
  Derives,
  d_nought,
  d_variable,
  d_bare,
  d_dotted,
  d_bound,
  d_bracket,
  d_one,
  d_summed,
  d_only,
  d_chosen,
}
use Rattle.text.specs.Terms.{Term, end, before, plus, inner, loop, name, term_of}
use Rattle.text.specs.Cells.{recs_of}
use Rattle.text.proofs.Stands.{ActionsBelow}
use Rattle.text.proofs.Widths.{spelled-some}

-- all variables of a term are among the three
abbrev pub NamesBelow : Term → Type 0
NamesBelow end = Unit {0}
NamesBelow (before j t) = NamesBelow t
NamesBelow (plus t u) = NamesBelow t × NamesBelow u
NamesBelow (inner t u) = NamesBelow t × NamesBelow u
NamesBelow (loop v t) = (v ≤ 2) × NamesBelow t
NamesBelow (name v) = v ≤ 2

pub names-below : {l : Level} {t : Tree} {x : List ℕ} → Derives l t x → NamesBelow (term_of t)
unfolding term_of
names-below d_nought = tt
names-below (d_variable v h) = h
names-below (d_bare j x h) = tt
names-below (d_dotted j t x y h e) = names-below e
names-below (d_bound v t y h e) = (h, names-below e)
names-below (d_bracket t x e) = names-below e
names-below (d_one t x e) = names-below e
names-below (d_summed t u x y e f) = (names-below e, names-below f)
names-below (d_only t x e) = names-below e
names-below (d_chosen t u x y e f) = (names-below e, names-below f)

spelled-below : {j : ℕ} {x : List ℕ} → Spelled j x → j < 14
spelled-below (takes i h) = omega (arith, h)
spelled-below (sends i h) = omega (arith, h)

pub actions-below : {l : Level} {t : Tree} {x : List ℕ} → Derives l t x → ActionsBelow (term_of t)
unfolding term_of
actions-below d_nought = tt
actions-below (d_variable v h) = tt
actions-below (d_bare j x h) = (spelled-below h, tt)
actions-below (d_dotted j t x y h e) = (spelled-below h, actions-below e)
actions-below (d_bound v t y h e) = actions-below e
actions-below (d_bracket t x e) = actions-below e
actions-below (d_one t x e) = actions-below e
actions-below (d_summed t u x y e f) = (actions-below e, actions-below f)
actions-below (d_only t x e) = actions-below e
actions-below (d_chosen t u x y e f) = (actions-below e, actions-below f)

-- a rec takes five bytes, and what it binds another
recs-short : {l : Level} {t : Tree} {x : List ℕ} → Derives l t x → 5 * recs_of (term_of t) < length x
unfolding term_of recs_of
recs-short d_nought = omega arith
recs-short (d_variable v h) = omega arith
recs-short (d_bare j x h) = (spelled-some h).0
recs-short (d_dotted j t x y h e) = omega (arith, recs-short e, length-append x (46 ∷ y))
recs-short (d_bound v t y h e) = omega (arith, recs-short e)
recs-short (d_bracket t x e) = omega (arith, recs-short e, length-append x (41 ∷ []))
recs-short (d_one t x e) = recs-short e
recs-short (d_summed t u x y e f) = omega (arith, recs-short e, recs-short f, length-append x (43 ∷ y))
recs-short (d_only t x e) = recs-short e
recs-short (d_chosen t u x y e f) = omega (arith, recs-short e, recs-short f, length-append x (40 ∷ 43 ∷ 41 ∷ y))

pub few_recs : {l : Level} {t : Tree} {x : List ℕ} → Derives l t x → length x ≤ 256 → recs_of (term_of t) ≤ 51
few_recs e h = omega (arith, recs-short e, h)
