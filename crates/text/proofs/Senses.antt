-- The places of a term: where each stands in the list, and that a rec means the same inside its body as outside, since its variable stands
-- under a prefix there.
-- Assumes nothing.
use mathlib.Core.Path.{◌≡◌, refl, ap, sym, subst, subst⁻¹, ◌∙◌}
use mathlib.Core.Logic.{◌⊎◌, inl, inr, ⊎_elim}
use mathlib.Core.List.{[], ◌∷◌}
use Prim.Native.Nat.{ℕ, suc, ◌+◌, ◌^◌}
use lib.ListN.{length}
use borrow.Author.Tests.{eq-eqb, ne_eqb}
use Rattle.text.specs.Terms.{
  Term,
  end,
  before,
  plus,
  inner,
  loop,
  name,
  Naked,
  n_name,
  n_plus_left,
  n_plus_right,
  n_inner_left,
  n_inner_right,
  n_loop,
  Faulty,
  y_here,
  y_loop,
  y_before,
  y_plus_left,
  y_plus_right,
  y_inner_left,
  y_inner_right,
}
use Rattle.text.specs.Places.{
  Sense,
  the_end,
  Scope,
  within,
  size_of,
  place_in,
  placed,
  sense_in,
  senses_in,
}
use Rattle.text.proofs.Substitution.{same-or-other}
use Rattle.text.proofs.Inside.{last-length, choice-length}

-- ---- scopes

pub within_same : (scope : Scope) (v : ℕ) (s : Sense) (w : ℕ) → v ≡ w → within scope v s w ≡ s
unfolding within
within_same scope v s w e = rw (eq-eqb v w e)

pub within-other : (scope : Scope) (v : ℕ) (s : Sense) (w : ℕ) → (v ≡ w → ⊥) → within scope v s w ≡ scope w
unfolding within
within-other scope v s w n = rw (ne_eqb v w n)

-- scopes that agree on a figure of what variables mean agree on it inside a rec, if the rec means the same in both
within-agree : {A : Type 0} (f : Sense → A) (one two : Scope) (v : ℕ) (s r : Sense) (w : ℕ) → f s ≡ f r
    → ((v ≡ w → ⊥) → f (one w) ≡ f (two w)) → f (within one v s w) ≡ f (within two v r w)
within-agree f one two v s r w e g = go (same-or-other v w)
  where
    go : (v ≡ w) ⊎ (v ≡ w → ⊥) → f (within one v s w) ≡ f (within two v r w)
    go (inl d) = ap f (within_same one v s w d) ∙ e ∙ ap f (sym (within_same two v r w d))
    go (inr n) = ap f (within-other one v s w n) ∙ g n ∙ ap f (sym (within-other two v r w n))

-- ---- what a part means depends on where variables stand and, for those under no prefix, on what they mean

pub place-agree : (t : Term) (n : ℕ) (one two : Scope) → (Faulty t → ⊥) → ((v : ℕ) → Naked v t → (one v).place ≡ (two v).place)
    → place_in one n t ≡ place_in two n t
unfolding place_in
place-agree end n one two f h = refl
place-agree (before j t) n one two f h = refl
place-agree (plus t u) n one two f h = refl
place-agree (inner t u) n one two f h = refl
place-agree (loop v t) n one two f h =
    place-agree t n one two (λ y. f (y_loop v t y))
    (λ x k. ⊎_elim (λ e. absurd (f (y_here v t (subst (λ (z : ℕ). Naked z t) e k)))) (λ d. h x (n_loop v t d k)) (same-or-other x v))
place-agree (name v) n one two f h = h v n_name

pub sense-place : (t : Term) (n : ℕ) (scope : Scope) → (Faulty t → ⊥) → (sense_in scope n t).place ≡ place_in scope n t
unfolding sense_in place_in the_end
sense-place end n scope f = refl
sense-place (before j t) n scope f = refl
sense-place (plus t u) n scope f = refl
sense-place (inner t u) n scope f = refl
sense-place (loop v t) n scope f =
    sense-place t n (within scope v (placed (place_in scope n t))) (λ y. f (y_loop v t y))
    ∙ place-agree t n (within scope v (placed (place_in scope n t))) scope (λ y. f (y_loop v t y))
    (λ x k. ap (λ (s : Sense). s.place)
    (within-other scope v (placed (place_in scope n t)) x (λ e. f (y_here v t (subst⁻¹ (λ (z : ℕ). Naked z t) e k)))))
sense-place (name v) n scope f = refl

pub sense-agree : (t : Term) (n : ℕ) (one two : Scope) → (Faulty t → ⊥) → ((v : ℕ) → (one v).place ≡ (two v).place)
    → ((v : ℕ) → Naked v t → one v ≡ two v) → sense_in one n t ≡ sense_in two n t
unfolding sense_in place_in
sense-agree end n one two f p h = refl
sense-agree (before j t) n one two f p h =
    ap (λ (q : ℕ). record { place = suc (n + size_of t); ready = 2 ^ j ∷ []; steps = record { action = j; to = q } ∷ [] })
    (place-agree t n one two (λ y. f (y_before j t y)) (λ v k. p v))
sense-agree (plus t u) n one two f p h =
    rw (
      sense-agree t n one two (λ y. f (y_plus_left t u y)) p (λ v k. h v (n_plus_left t u k)),
      sense-agree u (n + size_of t) one two (λ y. f (y_plus_right t u y)) p (λ v k. h v (n_plus_right t u k)),
    )
sense-agree (inner t u) n one two f p h =
    rw (
      sense-agree t n one two (λ y. f (y_inner_left t u y)) p (λ v k. h v (n_inner_left t u k)),
      sense-agree u (n + size_of t) one two (λ y. f (y_inner_right t u y)) p (λ v k. h v (n_inner_right t u k)),
    )
sense-agree (loop v t) n one two f p h =
    let g : place_in one n t ≡ place_in two n t = place-agree t n one two (λ y. f (y_loop v t y)) (λ x k. p x) in
    sense-agree t n (within one v (placed (place_in one n t))) (within two v (placed (place_in two n t))) (λ y. f (y_loop v t y))
    (λ x. within-agree (λ (s : Sense). s.place) one two v (placed (place_in one n t)) (placed (place_in two n t)) x
    (ap (λ (q : ℕ). (placed q).place) g) (λ d. p x))
    (λ x k. within-agree (λ (s : Sense). s) one two v (placed (place_in one n t)) (placed (place_in two n t)) x (ap placed g)
    (λ d. h x (n_loop v t (λ e. d (sym e)) k)))
sense-agree (name v) n one two f p h = h v n_name

-- A rec means the same where its variable has its place only as where it has all its meaning.
pub loop-within : (v : ℕ) (t : Term) (n : ℕ) (scope : Scope) → (Faulty (loop v t) → ⊥)
    → sense_in scope n (loop v t) ≡ sense_in (within scope v (sense_in scope n (loop v t))) n t
unfolding sense_in place_in placed
loop-within v t n scope f =
    let inside = within scope v (placed (place_in scope n t)) in
    let g : (Faulty t → ⊥) = (λ y. f (y_loop v t y)) in
    let bare : (x : ℕ) → Naked x t → v ≡ x → ⊥ = (λ x k e. f (y_here v t (subst⁻¹ (λ (z : ℕ). Naked z t) e k))) in
    let there : (sense_in inside n t).place ≡ place_in scope n t = sense-place (loop v t) n scope f in
    sense-agree t n inside (within scope v (sense_in inside n t)) g
    (λ x. within-agree (λ (s : Sense). s.place) scope scope v (placed (place_in scope n t)) (sense_in inside n t) x (sym there) (λ d. refl))
    (λ x k. within-other scope v (placed (place_in scope n t)) x (bare x k) ∙ sym (within-other scope v (sense_in inside n t) x (bare x k)))

pub loop-place : (v : ℕ) (t : Term) (n : ℕ) (scope : Scope) (s : Sense) → (Faulty (loop v t) → ⊥)
    → place_in scope n (loop v t) ≡ place_in (within scope v s) n t
unfolding place_in
loop-place v t n scope s f =
    place-agree t n scope (within scope v s) (λ y. f (y_loop v t y))
    (λ x k. ap (λ (r : Sense). r.place)
    (sym (within-other scope v s x (λ e. f (y_here v t (subst⁻¹ (λ (z : ℕ). Naked z t) e k))))))

-- ---- the list of places

pub senses-length : (t : Term) (n : ℕ) (scope : Scope) → length (senses_in scope n t) ≡ size_of t
unfolding senses_in size_of
senses-length end n scope = refl
senses-length (before j t) n scope =
    last-length (senses_in scope n t) (sense_in scope n (before j t)) (size_of t) (senses-length t n scope)
senses-length (plus t u) n scope =
    choice-length (senses_in scope n t) (senses_in scope (n + size_of t) u) (sense_in scope n (plus t u)) (size_of t) (size_of u)
    (senses-length t n scope) (senses-length u (n + size_of t) scope)
senses-length (inner t u) n scope =
    choice-length (senses_in scope n t) (senses_in scope (n + size_of t) u) (sense_in scope n (inner t u)) (size_of t) (size_of u)
    (senses-length t n scope) (senses-length u (n + size_of t) scope)
senses-length (loop v t) n scope = senses-length t n (within scope v (sense_in scope n (loop v t)))
senses-length (name v) n scope = refl
