-- Terms in which several variables are replaced at once, and how that goes with replacing one.
-- Assumes nothing.
use mathlib.Core.Path.{◌≡◌, refl, ap, sym, subst, subst⁻¹, ◌∙◌}
use mathlib.Core.Bool.{Bool, true, false, cond}
use mathlib.Core.Logic.{◌⊎◌, inl, inr, ⊎_elim}
use mathlib.Core.Option.{Option, none, some, get_or, none-ne-some}
use Prim.Native.Nat.{ℕ}
use lib.Dec.{eqb}
use borrow.Author.Tests.{eqb-true, eqb-false, eq-eqb, ne_eqb}
use Rattle.text.specs.Terms.{
  Term,
  end,
  before,
  plus,
  inner,
  loop,
  name,
  Free,
  f_name,
  f_before,
  f_plus_left,
  f_plus_right,
  f_inner_left,
  f_inner_right,
  f_loop,
}
use Rattle.text.specs.Transitions.{replaced}

-- ---- definitions

-- no variable is free in it
abbrev pub closed : Term → Type 0
closed t = (v : ℕ) → Free v t → ⊥

-- what variables stand for, those that stand for something
abbrev pub Values : Type 0
Values = ℕ → Option Term

-- a variable stands for nothing
unfoldable pub without : Values → ℕ → Values
without σ v w = cond (eqb v w) none (σ w)

-- a variable stands for a term
unfoldable pub with_value : Values → ℕ → Term → Values
with_value σ v t w = cond (eqb v w) (some t) (σ w)

-- what a variable becomes: what it stands for, or itself
abbrev pub value_of : Values → ℕ → Term
value_of σ v = get_or (σ v) (name v)

-- every free variable replaced by what it stands for
unfoldable pub sub : Values → Term → Term
sub σ end = end
sub σ (before j t) = before j (sub σ t)
sub σ (plus t u) = plus (sub σ t) (sub σ u)
sub σ (inner t u) = inner (sub σ t) (sub σ u)
sub σ (loop v t) = loop v (sub (without σ v) t)
sub σ (name v) = value_of σ v

-- whatever a variable stands for is closed
abbrev pub ClosedValues : Values → Type 0
ClosedValues σ = (v : ℕ) (t : Term) → σ v ≡ some t → closed t

-- ---- one variable, or another

pub same-or-other : (v w : ℕ) → (v ≡ w) ⊎ (v ≡ w → ⊥)
same-or-other v w = go (eqb v w) refl
  where
    go : (b : Bool) → eqb v w ≡ b → (v ≡ w) ⊎ (v ≡ w → ⊥)
    go true e = inl (eqb-true v w e)
    go false e = inr (eqb-false v w e)

pub without-same : (σ : Values) (v w : ℕ) → v ≡ w → without σ v w ≡ none
unfolding without
without-same σ v w e = rw (eq-eqb v w e)

pub without_other : (σ : Values) (v w : ℕ) → (v ≡ w → ⊥) → without σ v w ≡ σ w
unfolding without
without_other σ v w n = rw (ne_eqb v w n)

pub with-same : (σ : Values) (v : ℕ) (t : Term) (w : ℕ) → v ≡ w → with_value σ v t w ≡ some t
unfolding with_value
with-same σ v t w e = rw (eq-eqb v w e)

pub with-other : (σ : Values) (v : ℕ) (t : Term) (w : ℕ) → (v ≡ w → ⊥) → with_value σ v t w ≡ σ w
unfolding with_value
with-other σ v t w n = rw (ne_eqb v w n)

pub replaced-same : (v : ℕ) (w : Term) (x : ℕ) → v ≡ x → replaced v w (name x) ≡ w
unfolding replaced
replaced-same v w x e = rw (eq-eqb v x e)

pub replaced-other : (v : ℕ) (w : Term) (x : ℕ) → (v ≡ x → ⊥) → replaced v w (name x) ≡ name x
unfolding replaced
replaced-other v w x n = rw (ne_eqb v x n)

pub replaced-loop-same : (v : ℕ) (w : Term) (x : ℕ) (t : Term) → v ≡ x → replaced v w (loop x t) ≡ loop x t
unfolding replaced
replaced-loop-same v w x t e = rw (eq-eqb v x e)

pub replaced-loop-other : (v : ℕ) (w : Term) (x : ℕ) (t : Term) → (v ≡ x → ⊥)
    → replaced v w (loop x t) ≡ loop x (replaced v w t)
unfolding replaced
replaced-loop-other v w x t n = rw (ne_eqb v x n)

-- only itself is free in a variable
pub free-name : {v w : ℕ} → Free v (name w) → v ≡ w
free-name f_name = refl

-- ---- values that agree

-- behind a rec, values agree on what is free there if they agree on what is free in the whole
agree-within : (σ τ : Values) (x : ℕ) (t : Term) → ((v : ℕ) → Free v (loop x t) → σ v ≡ τ v) → (v : ℕ) → Free v t
    → without σ x v ≡ without τ x v
agree-within σ τ x t h v f = go (same-or-other x v)
  where
    go : (x ≡ v) ⊎ (x ≡ v → ⊥) → without σ x v ≡ without τ x v
    go (inl e) = without-same σ x v e ∙ sym (without-same τ x v e)
    go (inr n) = without_other σ x v n ∙ h v (f_loop x t (λ e. n (sym e)) f) ∙ sym (without_other τ x v n)

-- values that agree on the free variables replace alike
pub sub-agree : (t : Term) (σ τ : Values) → ((v : ℕ) → Free v t → σ v ≡ τ v) → sub σ t ≡ sub τ t
unfolding sub
sub-agree end σ τ h = refl
sub-agree (before j t) σ τ h = ap (before j) (sub-agree t σ τ (λ v f. h v (f_before j t f)))
sub-agree (plus t u) σ τ h =
    rw (sub-agree t σ τ (λ v f. h v (f_plus_left t u f)), sub-agree u σ τ (λ v f. h v (f_plus_right t u f)))
sub-agree (inner t u) σ τ h =
    rw (sub-agree t σ τ (λ v f. h v (f_inner_left t u f)), sub-agree u σ τ (λ v f. h v (f_inner_right t u f)))
sub-agree (loop x t) σ τ h = ap (loop x) (sub-agree t (without σ x) (without τ x) (agree-within σ τ x t h))
sub-agree (name x) σ τ h = ap (λ (o : Option Term). get_or o (name x)) (h x f_name)

-- values that agree everywhere replace alike
pub sub_alike : (t : Term) (σ τ : Values) → ((v : ℕ) → σ v ≡ τ v) → sub σ t ≡ sub τ t
sub_alike t σ τ h = sub-agree t σ τ (λ v f. h v)

-- ---- nothing to replace

without-nothing : (v w : ℕ) → without (λ u. none) v w ≡ none
without-nothing v w = ⊎_elim (without-same (λ u. none) v w) (without_other (λ u. none) v w) (same-or-other v w)

-- no free variable stands for anything
pub sub-absent : (t : Term) (σ : Values) → ((v : ℕ) → Free v t → σ v ≡ none) → sub σ t ≡ t
unfolding sub
sub-absent end σ h = refl
sub-absent (before j t) σ h = ap (before j) (sub-absent t σ (λ v f. h v (f_before j t f)))
sub-absent (plus t u) σ h =
    rw (sub-absent t σ (λ v f. h v (f_plus_left t u f)), sub-absent u σ (λ v f. h v (f_plus_right t u f)))
sub-absent (inner t u) σ h =
    rw (sub-absent t σ (λ v f. h v (f_inner_left t u f)), sub-absent u σ (λ v f. h v (f_inner_right t u f)))
sub-absent (loop x t) σ h =
    ap (loop x) (sub-absent t (without σ x) (λ v f. agree-within σ (λ w. none) x t h v f ∙ without-nothing x v))
sub-absent (name x) σ h = ap (λ (o : Option Term). get_or o (name x)) (h x f_name)

-- no variable stands for anything
pub sub-none : (t : Term) → sub (λ v. none) t ≡ t
sub-none t = sub-absent t (λ v. none) (λ v f. refl)

-- no variable is free
pub sub-closed : (t : Term) (σ : Values) → closed t → sub σ t ≡ t
sub-closed t σ c = sub-absent t σ (λ v f. absurd (c v f))

-- the variable is not free
pub replaced-absent : (t : Term) (v : ℕ) (w : Term) → (Free v t → ⊥) → replaced v w t ≡ t
unfolding replaced
replaced-absent end v w h = refl
replaced-absent (before j t) v w h = ap (before j) (replaced-absent t v w (λ f. h (f_before j t f)))
replaced-absent (plus t u) v w h =
    rw (replaced-absent t v w (λ f. h (f_plus_left t u f)), replaced-absent u v w (λ f. h (f_plus_right t u f)))
replaced-absent (inner t u) v w h =
    rw (replaced-absent t v w (λ f. h (f_inner_left t u f)), replaced-absent u v w (λ f. h (f_inner_right t u f)))
replaced-absent (loop x t) v w h =
    ⊎_elim (λ e. replaced-loop-same v w x t e)
    (λ n. replaced-loop-other v w x t n ∙ ap (loop x) (replaced-absent t v w (λ f. h (f_loop x t n f)))) (same-or-other v x)
replaced-absent (name x) v w h = replaced-other v w x (λ e. h (subst (λ (y : ℕ). Free v (name y)) e f_name))

-- none is
pub replaced-closed : (t : Term) (v : ℕ) (w : Term) → closed t → replaced v w t ≡ t
replaced-closed t v w c = replaced-absent t v w (c v)

-- ---- one more value

-- behind a rec of the variable its value does not count
without-with : (σ : Values) (v : ℕ) (w : Term) (u : ℕ) → without (without σ v) v u ≡ without (with_value σ v w) v u
unfolding without with_value
without-with σ v w u = go (eqb v u)
  where
    go : (b : Bool) → cond b none (cond b none (σ u)) ≡ cond b none (cond b (some w) (σ u))
    go true = refl
    go false = refl

-- variables are taken out in any order
without-twice : (σ : Values) (v x u : ℕ) → without (without σ v) x u ≡ without (without σ x) v u
unfolding without
without-twice σ v x u = go (eqb v u) (eqb x u)
  where
    go : (a b : Bool) → cond b none (cond a none (σ u)) ≡ cond a none (cond b none (σ u))
    go true true = refl
    go true false = refl
    go false true = refl
    go false false = refl

-- one goes in and another out in any order
with-without : (σ : Values) (v : ℕ) (w : Term) (x : ℕ) → (v ≡ x → ⊥) → (u : ℕ)
    → with_value (without σ x) v w u ≡ without (with_value σ v w) x u
unfolding without with_value
with-without σ v w x n u = go (eqb v u) (eqb x u) refl refl
  where
    go : (a b : Bool) → eqb v u ≡ a → eqb x u ≡ b → cond a (some w) (cond b none (σ u)) ≡ cond b none (cond a (some w) (σ u))
    go true true d e = absurd (n (eqb-true v u d ∙ sym (eqb-true x u e)))
    go true false d e = refl
    go false true d e = refl
    go false false d e = refl

-- with a variable taken out, what the others stand for is closed still
pub closed-without : (σ : Values) (x : ℕ) → ClosedValues σ → ClosedValues (without σ x)
closed-without σ x c v t e = go (same-or-other x v)
  where
    go : (x ≡ v) ⊎ (x ≡ v → ⊥) → closed t
    go (inl d) = absurd (none-ne-some t (sym (without-same σ x v d) ∙ e))
    go (inr n) = c v t (sym (without_other σ x v n) ∙ e)

-- A variable that is left is replaced afterwards: as if it had been replaced with the others.
pub replaced-sub : (t : Term) (σ : Values) (v : ℕ) (w : Term) → ClosedValues σ
    → replaced v w (sub (without σ v) t) ≡ sub (with_value σ v w) t
unfolding sub replaced
replaced-sub end σ v w c = refl
replaced-sub (before j t) σ v w c = ap (before j) (replaced-sub t σ v w c)
replaced-sub (plus t u) σ v w c = rw (replaced-sub t σ v w c, replaced-sub u σ v w c)
replaced-sub (inner t u) σ v w c = rw (replaced-sub t σ v w c, replaced-sub u σ v w c)
replaced-sub (loop x t) σ v w c = go (same-or-other v x) (replaced-sub t (without σ x) v w (closed-without σ x c))
  where
    go : (v ≡ x) ⊎ (v ≡ x → ⊥) → replaced v w (sub (without (without σ x) v) t) ≡ sub (with_value (without σ x) v w) t
        → replaced v w (loop x (sub (without (without σ v) x) t)) ≡ loop x (sub (without (with_value σ v w) x) t)
    go (inl e) r =
        replaced-loop-same v w x (sub (without (without σ v) x) t) e
        ∙ ap (loop x)
        (sub_alike t (without (without σ v) x) (without (with_value σ v w) x)
        (subst (λ (y : ℕ). (u : ℕ) → without (without σ v) y u ≡ without (with_value σ v w) y u) e (without-with σ v w)))
    go (inr n) r =
        replaced-loop-other v w x (sub (without (without σ v) x) t) n
        ∙ ap (λ (s : Term). loop x (replaced v w s))
        (sub_alike t (without (without σ v) x) (without (without σ x) v) (without-twice σ v x))
        ∙ ap (loop x) (r ∙ sub_alike t (with_value (without σ x) v w) (without (with_value σ v w) x) (with-without σ v w x n))
replaced-sub (name x) σ v w c = go (same-or-other v x)
  where
    kept : (v ≡ x → ⊥) → (o : Option Term) → σ x ≡ o → replaced v w (get_or o (name x)) ≡ get_or o (name x)
    kept n none e = replaced-other v w x n
    kept n (some s) e = replaced-closed s v w (c x s e)

    go : (v ≡ x) ⊎ (v ≡ x → ⊥) → replaced v w (value_of (without σ v) x) ≡ value_of (with_value σ v w) x
    go (inl e) = rw (without-same σ v x e, with-same σ v w x e) (replaced-same v w x e)
    go (inr n) = rw (without_other σ v x n, with-other σ v w x n) (kept n (σ x) refl)

-- replacing one variable is replacing several
pub replaced-is-sub : (t : Term) (v : ℕ) (w : Term) → replaced v w t ≡ sub (with_value (λ u. none) v w) t
replaced-is-sub t v w =
    ap (replaced v w) (sym (sub-absent t (without (λ u. none) v) (λ u f. without-nothing v u)))
    ∙ replaced-sub t (λ u. none) v w (λ u s e. absurd (none-ne-some s e))

-- ---- what is free afterwards

-- what a variable becomes, by what it stands for
free-became : (u v : ℕ) {o p : Option Term} → o ≡ p → Free u (get_or o (name v)) → Free u (get_or p (name v))
free-became u v e f = subst (λ (o : Option Term). Free u (get_or o (name v))) e f

-- a variable that is free afterwards is free in what some free variable became
pub free-sub : (t : Term) (σ : Values) (u : ℕ) → Free u (sub σ t) → (v : ℕ) × Free v t × Free u (value_of σ v)
unfolding sub
free-sub end σ u f = elim f [ ]
free-sub (before j t) σ u (f_before k s f) = let r = free-sub t σ u f in (r.0, f_before j t r.1, r.2)
free-sub (plus t s) σ u (f_plus_left p q f) = let r = free-sub t σ u f in (r.0, f_plus_left t s r.1, r.2)
free-sub (plus t s) σ u (f_plus_right p q f) = let r = free-sub s σ u f in (r.0, f_plus_right t s r.1, r.2)
free-sub (inner t s) σ u (f_inner_left p q f) = let r = free-sub t σ u f in (r.0, f_inner_left t s r.1, r.2)
free-sub (inner t s) σ u (f_inner_right p q f) = let r = free-sub s σ u f in (r.0, f_inner_right t s r.1, r.2)
free-sub (loop x t) σ u (f_loop y s n f) = go (free-sub t (without σ x) u f)
  where
    go : (v : ℕ) × Free v t × Free u (value_of (without σ x) v) → (v : ℕ) × Free v (loop x t) × Free u (value_of σ v)
    go r =
        ⊎_elim
        (λ e. absurd (n (free-name (free-became u r.0 (without-same σ x r.0 e) r.2) ∙ sym e)))
        (λ m. (r.0, f_loop x t (λ e. m (sym e)) r.1, free-became u r.0 (without_other σ x r.0 m) r.2))
        (same-or-other x r.0)
free-sub (name x) σ u f = (x, f_name, f)

-- where every free variable becomes a closed term, none is left
pub sub-closes : (t : Term) (σ : Values) → ((v : ℕ) → Free v t → (s : Term) × (σ v ≡ some s) × closed s) → closed (sub σ t)
sub-closes t σ h u f =
    let r = free-sub t σ u f in
    let k = h r.0 r.1 in
    k.2 u (free-became u r.0 k.1 r.2)

-- a rec with no free variable becomes a term with none: its body, in which its variable stands for the whole
pub unrolled-closed : (v : ℕ) (t : Term) → closed (loop v t) → closed (replaced v (loop v t) t)
unrolled-closed v t c =
    subst⁻¹ closed (replaced-is-sub t v (loop v t))
    (sub-closes t (with_value (λ u. none) v (loop v t))
    (λ u f. ⊎_elim (λ e. (loop v t, with-same (λ u. none) v (loop v t) u e, c))
    (λ n. absurd (c u (f_loop v t (λ e. n (sym e)) f))) (same-or-other v u)))
