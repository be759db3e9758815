-- What a link to a part of a term leads to: the part's own place, or, where the part is recs around a variable and nothing else, what that
-- variable leads to. One recursion on the part shows which, and with it where the link points.
-- Assumes nothing.
use mathlib.Core.Path.{◌≡◌, refl, ap, sym, subst⁻¹, ◌∙◌}
use Prim.Native.Nat.{ℕ, suc, ◌+◌, ◌<◌, ◌≤◌}
use mathlib.Core.List.{List}
use native.Mathlib.Omega.{arith}
use lib.ListN.{get_or, set}
use lib.Seq.{get_or-set_other}
use borrow.Author.Tests.{lt-ltb, le-ltb}
use Rattle.text.specs.Terms.{Term, end, before, plus, inner, loop, name, Free, f_loop, Naked, n_name, n_loop, Faulty, y_loop}
use Rattle.text.specs.Places.{Scope, size_of, place_in}
use Rattle.text.specs.Cells.{Owners, link_to, place_of}
use Rattle.text.proofs.Substitution.{free-name}
use Rattle.text.proofs.Stands.{other-naked}

-- what is free in a rec is free in its body
free-within : {v w : ℕ} {t : Term} → Free v (loop w t) → Free v t
free-within (f_loop w t d f) = f

-- what a link to a part with n places before it leads to
pub data Leads (scope : Scope) (owners : Owners) (n : ℕ) (t : Term) (link : ℕ) : Type 0 where
  to-place : link < 256 → link ≤ n + size_of t → link ≡ place_in scope n t → Leads scope owners n t link
  -- no other variable is free in the part
  to-variable : (x : ℕ) → Naked x t → ((v : ℕ) → Free v t → v ≡ x) → link ≡ 256 + get_or owners x 0 → place_in scope n t ≡ (scope x).place
      → Leads scope owners n t link

-- a rec leads to what its body leads to
leads-loop : (scope : Scope) (owners : Owners) (n : ℕ) (v r : ℕ) (t : Term) (link : ℕ) → (Faulty (loop v t) → ⊥)
    → Leads scope (set owners v r) n t link → Leads scope owners n (loop v t) link
unfolding place_in size_of
leads-loop scope owners n v r t link f (to-place small inside is) = to-place small inside is
leads-loop scope owners n v r t link f (to-variable x k only is place) =
    let d : x ≡ v → ⊥ = λ e. other-naked v t f x k (sym e) in
    to-variable x (n_loop v t d k) (λ y g. only y (free-within g))
    (is ∙ ap (λ (o : ℕ). 256 + o) (get_or-set_other owners v x r 0 d)) place

pub leads : (t : Term) (scope : Scope) (owners : Owners) (n r : ℕ) → (Faulty t → ⊥) → n + size_of t ≤ 255
    → Leads scope owners n t (link_to owners n r t)
unfolding link_to place_in size_of
leads end scope owners n r f few = to-place (omega arith) (omega arith) refl
leads (before j t) scope owners n r f few = to-place (omega (arith, few)) (omega arith) refl
leads (plus t u) scope owners n r f few = to-place (omega (arith, few)) (omega arith) refl
leads (inner t u) scope owners n r f few = to-place (omega (arith, few)) (omega arith) refl
leads (loop v t) scope owners n r f few =
    leads-loop scope owners n v r t (link_to (set owners v r) n (suc r) t) f
    (leads t scope (set owners v r) n (suc r) (λ y. f (y_loop v t y)) few)
leads (name v) scope owners n r f few = to-variable v n_name (λ x g. free-name g) refl refl

-- ---- what follows

-- a link to a place points to the part or into it
pub leads-inside : {scope : Scope} {owners : Owners} {n : ℕ} {t : Term} {link : ℕ} → Leads scope owners n t link → link < 256
    → link ≤ n + size_of t
leads-inside (to-place small inside is) h = inside
leads-inside (to-variable x k only is place) h = absurd (omega (arith, is, h))

-- a part with a variable in it that stands under a prefix is no recs around a variable
pub leads-guarded : {scope : Scope} {owners : Owners} {n : ℕ} {t : Term} {link : ℕ} → Leads scope owners n t link
    → (v : ℕ) → Free v t → (Naked v t → ⊥) → (link < 256) × (link ≡ place_in scope n t)
leads-guarded (to-place small inside is) v g d = (small, is)
leads-guarded {t = t} (to-variable x k only is place) v g d = absurd (d (subst⁻¹ (λ (y : ℕ). Naked y t) (only v g) k))

module _ (cells bodies : List ℕ) where
  place-place : (link : ℕ) → link < 256 → place_of cells bodies link ≡ link
  unfolding place_of
  place-place link h = rw (lt-ltb link 256 h) refl

  place-variable : (o : ℕ) → place_of cells bodies (256 + o) ≡ get_or bodies o 0
  unfolding place_of
  place-variable o = rw (le-ltb (256 + o) 256 (omega arith)) (ap (λ (q : ℕ). get_or bodies q 0) (omega arith))

  -- a link leads to the part's place, if those of the variables under no prefix do so
  pub leads-to : {scope : Scope} {owners : Owners} {n : ℕ} {t : Term} {link : ℕ} → Leads scope owners n t link
      → ((x : ℕ) → Naked x t → get_or bodies (get_or owners x 0) 0 ≡ (scope x).place) → place_of cells bodies link ≡ place_in scope n t
  leads-to {link = link} (to-place small inside is) h = place-place link small ∙ is
  leads-to {owners = owners} (to-variable x k only is place) h =
      ap (place_of cells bodies) is ∙ place-variable (get_or owners x 0) ∙ h x k ∙ sym place
