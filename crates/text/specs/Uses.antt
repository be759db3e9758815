-- Where a variable is used in a text, and what stands over it there. Request 7/13.
-- Assumes nothing.
use Rattle.std.specs.Prelude.{◌≡◌, List, [], ◌∷◌, ℕ, suc, ◌+◌, ◌<◌}
use Rattle.text.specs.Grammar.{Tree, dotted, summed, chosen, bound, variable, bracket}
use Rattle.text.specs.Convert.{action_width, width_of}

-- what can stand over a variable
pub data Over : Type 0 where
  a_prefix : Over
  a_rec : ℕ → Over

-- In a tree whose text begins at byte i, under these, variable v is used at byte k, under those: the innermost first.
pub data Uses : List Over → ℕ → Tree → (v : ℕ) → List Over → (k : ℕ) → Type 0 where
  u_variable : (over : List Over) (i v : ℕ) → Uses over i (variable v) v over i
  u_dotted : (over : List Over) (i j : ℕ) (t : Tree) {v k : ℕ} {those : List Over}
      → Uses (a_prefix ∷ over) (i + suc (action_width j)) t v those k → Uses over i (dotted j t) v those k
  u_summed_left : (over : List Over) (i : ℕ) (t u : Tree) {v k : ℕ} {those : List Over} → Uses over i t v those k
      → Uses over i (summed t u) v those k
  u_summed_right : (over : List Over) (i : ℕ) (t u : Tree) {v k : ℕ} {those : List Over}
      → Uses over (i + suc (width_of t)) u v those k → Uses over i (summed t u) v those k
  u_chosen_left : (over : List Over) (i : ℕ) (t u : Tree) {v k : ℕ} {those : List Over} → Uses over i t v those k
      → Uses over i (chosen t u) v those k
  u_chosen_right : (over : List Over) (i : ℕ) (t u : Tree) {v k : ℕ} {those : List Over}
      → Uses over (i + (3 + width_of t)) u v those k → Uses over i (chosen t u) v those k
  u_bound : (over : List Over) (i w : ℕ) (t : Tree) {v k : ℕ} {those : List Over} → Uses (a_rec w ∷ over) (i + 5) t v those k
      → Uses over i (bound w t) v those k
  u_bracket : (over : List Over) (i : ℕ) (t : Tree) {v k : ℕ} {those : List Over} → Uses over (suc i) t v those k
      → Uses over i (bracket t) v those k

-- no rec of its name is over the variable
pub data Unbound (v : ℕ) : List Over → Type 0 where
  under_none : Unbound v []
  under_prefix : (over : List Over) → Unbound v over → Unbound v (a_prefix ∷ over)
  under_rec : (w : ℕ) (over : List Over) → (v ≡ w → ⊥) → Unbound v over → Unbound v (a_rec w ∷ over)

-- "a variable unbound or under no prefix within its rec": the nearest rec of its name comes before any prefix
pub data AtFault (v : ℕ) : List Over → Type 0 where
  unbound : (over : List Over) → Unbound v over → AtFault v over
  no_prefix : (over : List Over) → AtFault v (a_rec v ∷ over)
  past_rec : (w : ℕ) (over : List Over) → (v ≡ w → ⊥) → AtFault v over → AtFault v (a_rec w ∷ over)

-- a variable at fault is used at byte k of a tree's text
pub record FaultIn (t : Tree) (v k : ℕ) : Type 0 where
  pub over : List Over
  pub uses : Uses [] 0 t v over k
  pub at_fault : AtFault v over

-- and none before it
pub record FirstFault (t : Tree) (v k : ℕ) : Type 0 where
  pub here : FaultIn t v k
  pub earlier : (w i : ℕ) → i < k → FaultIn t w i → ⊥
