-- The terms of Padovani 2010, section 2, and the term that was typed. Request 7/13.
-- Assumes nothing.
use Rattle.std.specs.Prelude.{◌≡◌, ◌⊎◌, ℕ}
use Rattle.text.specs.Grammar.{Tree, nought, bare, dotted, summed, chosen, bound, variable, bracket}

-- 0, α.σ, σ + σ, σ ⊕ σ, rec x.σ, x
pub data Term : Type 0 where
  end : Term
  before : ℕ → Term → Term
  plus : Term → Term → Term
  inner : Term → Term → Term
  loop : ℕ → Term → Term
  name : ℕ → Term

-- the term that a tree means: "an action with no dot after it is followed by the end", "brackets group"
unfoldable pub term_of : Tree → Term
term_of nought = end
term_of (bare j) = before j end
term_of (dotted j t) = before j (term_of t)
term_of (summed t u) = plus (term_of t) (term_of u)
term_of (chosen t u) = inner (term_of t) (term_of u)
term_of (bound v t) = loop v (term_of t)
term_of (variable v) = name v
term_of (bracket t) = term_of t

-- ---- 23: "a variable unbound or under no prefix within its rec"

-- the variable stands somewhere under no rec of its name
pub data Free (v : ℕ) : Term → Type 0 where
  f_name : Free v (name v)
  f_before : (j : ℕ) (t : Term) → Free v t → Free v (before j t)
  f_plus_left : (t u : Term) → Free v t → Free v (plus t u)
  f_plus_right : (t u : Term) → Free v u → Free v (plus t u)
  f_inner_left : (t u : Term) → Free v t → Free v (inner t u)
  f_inner_right : (t u : Term) → Free v u → Free v (inner t u)
  f_loop : (w : ℕ) (t : Term) → (v ≡ w → ⊥) → Free v t → Free v (loop w t)

-- it stands so under no prefix
pub data Naked (v : ℕ) : Term → Type 0 where
  n_name : Naked v (name v)
  n_plus_left : (t u : Term) → Naked v t → Naked v (plus t u)
  n_plus_right : (t u : Term) → Naked v u → Naked v (plus t u)
  n_inner_left : (t u : Term) → Naked v t → Naked v (inner t u)
  n_inner_right : (t u : Term) → Naked v u → Naked v (inner t u)
  n_loop : (w : ℕ) (t : Term) → (v ≡ w → ⊥) → Naked v t → Naked v (loop w t)

-- somewhere a rec has its variable under no prefix within it
pub data Faulty : Term → Type 0 where
  y_here : (v : ℕ) (t : Term) → Naked v t → Faulty (loop v t)
  y_loop : (v : ℕ) (t : Term) → Faulty t → Faulty (loop v t)
  y_before : (j : ℕ) (t : Term) → Faulty t → Faulty (before j t)
  y_plus_left : (t u : Term) → Faulty t → Faulty (plus t u)
  y_plus_right : (t u : Term) → Faulty u → Faulty (plus t u)
  y_inner_left : (t u : Term) → Faulty t → Faulty (inner t u)
  y_inner_right : (t u : Term) → Faulty u → Faulty (inner t u)

-- "a variable unbound or under no prefix within its rec"
abbrev pub Wrong : Term → Type 0
Wrong t = ((v : ℕ) × Free v t) ⊎ Faulty t
