-- The transitions of terms, Padovani 2010, section 2: "The transition relation is the same as that of CCS without τ's". Request 7/13. What
-- follows from them, ready sets behind a sequence of actions, is said over any states in `nodes`.
-- Assumes nothing.
use Rattle.std.specs.Prelude.{cond, ℕ, eqb}
use Rattle.text.specs.Terms.{Term, end, before, plus, inner, loop, name}

-- a variable replaced where it is free: what replaces it has no free variable
unfoldable pub replaced : ℕ → Term → Term → Term
replaced v w end = end
replaced v w (before j t) = before j (replaced v w t)
replaced v w (plus t u) = plus (replaced v w t) (replaced v w u)
replaced v w (inner t u) = inner (replaced v w t) (replaced v w u)
replaced v w (loop x t) = cond (eqb v x) (loop x t) (loop x (replaced v w t))
replaced v w (name x) = cond (eqb v x) w (name x)

-- σ ⟶ σ', an internal move: ⊕ moves on to either side; rec to its body, in which its variable stands for the whole; and "the internal
-- transition σ ⟶ σ' does not preempt the τ branch" of σ + τ
pub data Hides : Term → Term → Type 0 where
  h_left : (t u : Term) → Hides (inner t u) t
  h_right : (t u : Term) → Hides (inner t u) u
  h_loop : (v : ℕ) (t : Term) → Hides (loop v t) (replaced v (loop v t) t)
  h_plus_left : (t s u : Term) → Hides t s → Hides (plus t u) (plus s u)
  h_plus_right : (t u s : Term) → Hides u s → Hides (plus t u) (plus t s)

-- σ ⟶α σ', an action: a prefix does its action, and + is resolved by what one side does
pub data Does : Term → ℕ → Term → Type 0 where
  v_before : (j : ℕ) (t : Term) → Does (before j t) j t
  v_plus_left : (t u : Term) (j : ℕ) (s : Term) → Does t j s → Does (plus t u) j s
  v_plus_right : (t u : Term) (j : ℕ) (s : Term) → Does u j s → Does (plus t u) j s
