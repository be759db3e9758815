-- The test for a variable at fault finds one exactly if there is one, a variable unbound or under no prefix within its rec.
-- Assumes nothing.
use mathlib.Core.Path.{◌≡◌, refl, sym, subst, ◌∙◌}
use mathlib.Core.Bool.{Bool, true, false, cond, not}
use mathlib.Core.Logic.{◌⊎◌, inl, inr, ⊎_elim}
use mathlib.Core.Option.{Option, none, some, none-ne-some}
use mathlib.Core.List.{List, [], ◌∷◌}
use Prim.Native.Nat.{ℕ, suc, ◌+◌}
use lib.Dec.{T, eqb, eqb→eq, eqb_refl, T_not, not_T}
use Rattle.model.specs.Lists.{any, keep}
use Rattle.model.proofs.Lists.{or_cases, or_left, or_right, any-intro, any-elim, keep-intro, keep-elim}
use Rattle.text.specs.Grammar.{Tree, nought, bare, dotted, summed, chosen, bound, variable, bracket}
use Rattle.text.specs.Terms.{
  Term,
  end,
  before,
  plus,
  inner,
  loop,
  term_of,
  Free,
  f_name,
  f_before,
  f_plus_left,
  f_plus_right,
  f_inner_left,
  f_inner_right,
  f_loop,
  Naked,
  n_name,
  n_plus_left,
  n_plus_right,
  n_inner_left,
  n_inner_right,
  n_loop,
  Faulty,
  y_here,
  y_loop,
  y_before,
  y_plus_left,
  y_plus_right,
  y_inner_left,
  y_inner_right,
  Wrong,
}
use Rattle.text.specs.Convert.{action_width, width_of, or_else, wrong_at}
use Rattle.text.proofs.Substitution.{same-or-other}

-- ---- variables in lists

-- a variable is one of these
abbrev pub Among : ℕ → List ℕ → Type 0
Among v l = T (any (eqb v) l)

-- those other than one
abbrev pub others : ℕ → List ℕ → List ℕ
others w l = keep (λ v. not (eqb w v)) l

pub among-cons : (v w : ℕ) (l : List ℕ) → Among v (w ∷ l) → (v ≡ w) ⊎ Among v l
unfolding any
among-cons v w l a = ⊎_elim (λ e. inl (eqb→eq v w e)) (λ a. inr a) (or_cases (eqb v w) (any (eqb v) l) a)

pub among-head : (v w : ℕ) (l : List ℕ) → v ≡ w → Among v (w ∷ l)
unfolding any
among-head v w l e = or_left (eqb v w) (any (eqb v) l) (subst (λ (w : ℕ). T (eqb v w)) e (eqb_refl v))

pub among-tail : (v w : ℕ) (l : List ℕ) → Among v l → Among v (w ∷ l)
unfolding any
among-tail v w l a = or_right (eqb v w) (any (eqb v) l) a

pub none-among : (v : ℕ) → Among v [] → ⊥
unfolding any
none-among v a = a

pub among-others : (v w : ℕ) (l : List ℕ) → Among v (others w l) → Among v l × (v ≡ w → ⊥)
among-others v w l a =
    let x = any-elim (eqb v) (others w l) a in
    let y = keep-elim (λ v. not (eqb w v)) x.0 l x.1 in
    let q = eqb→eq v x.0 x.2 in
    (any-intro (eqb v) y.0 x.2, λ e. T_not (eqb w x.0) y.1 (subst (λ (u : ℕ). T (eqb w u)) (sym e ∙ q) (eqb_refl w)))

pub others-among : (v w : ℕ) (l : List ℕ) → (v ≡ w → ⊥) → Among v l → Among v (others w l)
others-among v w l n a =
    let x = any-elim (eqb v) l a in
    let q = eqb→eq v x.0 x.2 in
    any-intro (eqb v)
    (keep-intro (λ v. not (eqb w v)) x.1 (not_T (eqb w x.0) (λ e. n (q ∙ sym (eqb→eq w x.0 e)))))
    x.2

-- ---- the first of two places

neither : (a b : Option ℕ) → or_else a b ≡ none → (a ≡ none) × (b ≡ none)
unfolding or_else
neither none b e = (refl, e)
neither (some i) b e = absurd (none-ne-some i (sym e))

pub either-found : (a b : Option ℕ) (k : ℕ) → or_else a b ≡ some k → (a ≡ some k) ⊎ ((a ≡ none) × (b ≡ some k))
unfolding or_else
either-found none b k e = inr (refl, e)
either-found (some i) b k e = inl e

-- ---- a variable that is found is at fault

pub naked-free : {v : ℕ} {t : Term} → Naked v t → Free v t
naked-free n_name = f_name
naked-free (n_plus_left t u n) = f_plus_left t u (naked-free n)
naked-free (n_plus_right t u n) = f_plus_right t u (naked-free n)
naked-free (n_inner_left t u n) = f_inner_left t u (naked-free n)
naked-free (n_inner_right t u n) = f_inner_right t u (naked-free n)
naked-free (n_loop w t d n) = f_loop w t d (naked-free n)

-- what is wrong with a part that stands under these recs, of which some have a prefix behind them
data Bad (recs prefixed : List ℕ) (t : Term) : Type 0 where
  unbound : (v : ℕ) → Free v t → (Among v recs → ⊥) → Bad recs prefixed t
  naked : (v : ℕ) → Naked v t → (Among v prefixed → ⊥) → Bad recs prefixed t
  faulty : Faulty t → Bad recs prefixed t

-- what is wrong with a part under no prefix and no rec of the whole is wrong with the whole
lifted : (r p : List ℕ) (t u : Term) → ((v : ℕ) → Free v t → Free v u) → ((v : ℕ) → Naked v t → Naked v u)
    → (Faulty t → Faulty u) → Bad r p t → Bad r p u
lifted r p t u f n y (unbound v x i) = unbound v (f v x) i
lifted r p t u f n y (naked v x i) = naked v (n v x) i
lifted r p t u f n y (faulty x) = faulty (y x)

bad-before : (r p : List ℕ) (j : ℕ) (t : Term) → Bad r r t → Bad r p (before j t)
bad-before r p j t (unbound v x i) = unbound v (f_before j t x) i
bad-before r p j t (naked v x i) = unbound v (f_before j t (naked-free x)) i
bad-before r p j t (faulty x) = faulty (y_before j t x)

bad-loop : (r p : List ℕ) (w : ℕ) (t : Term) → Bad (w ∷ r) (others w p) t → Bad r p (loop w t)
bad-loop r p w t (unbound v x i) = unbound v (f_loop w t (λ e. i (among-head v w r e)) x) (λ a. i (among-tail v w r a))
bad-loop r p w t (naked v x i) =
    ⊎_elim (λ e. faulty (y_here w t (subst (λ (v : ℕ). Naked v t) e x)))
    (λ n. naked v (n_loop w t n x) (λ a. i (others-among v w p n a))) (same-or-other v w)
bad-loop r p w t (faulty x) = faulty (y_loop w t x)

-- one of two sides
bad-plus : (r p : List ℕ) (t u : Term) → Bad r p t ⊎ Bad r p u → Bad r p (plus t u)
bad-plus r p t u (inl b) = lifted r p t (plus t u) (λ v f. f_plus_left t u f) (λ v n. n_plus_left t u n) (λ y. y_plus_left t u y) b
bad-plus r p t u (inr b) = lifted r p u (plus t u) (λ v f. f_plus_right t u f) (λ v n. n_plus_right t u n) (λ y. y_plus_right t u y) b

bad-inner : (r p : List ℕ) (t u : Term) → Bad r p t ⊎ Bad r p u → Bad r p (inner t u)
bad-inner r p t u (inl b) =
    lifted r p t (inner t u) (λ v f. f_inner_left t u f) (λ v n. n_inner_left t u n) (λ y. y_inner_left t u y) b
bad-inner r p t u (inr b) =
    lifted r p u (inner t u) (λ v f. f_inner_right t u f) (λ v n. n_inner_right t u n) (λ y. y_inner_right t u y) b

-- the test of a variable: it fails where the variable is found, and passes where none is
pub failed-test : (b : Bool) (i k : ℕ) → cond b none (some i) ≡ some k → T b → ⊥
failed-test true i k e t = none-ne-some k e
failed-test false i k e t = t

pub passed-test : (b : Bool) (i : ℕ) → cond b none (some i) ≡ none → T b
passed-test true i e = tt
passed-test false i e = absurd (none-ne-some i (sym e))

-- in a part of a tree
bad-found : (t : Tree) (r p : List ℕ) (i k : ℕ) → wrong_at r p i t ≡ some k → Bad r p (term_of t)
unfolding wrong_at term_of
bad-found nought r p i k e = absurd (none-ne-some k e)
bad-found (bare j) r p i k e = absurd (none-ne-some k e)
bad-found (dotted j t) r p i k e = bad-before r p j (term_of t) (bad-found t r r (i + suc (action_width j)) k e)
bad-found (summed t u) r p i k e =
    bad-plus r p (term_of t) (term_of u)
    (⊎_elim (λ e. inl (bad-found t r p i k e)) (λ e. inr (bad-found u r p (i + suc (width_of t)) k e.1))
    (either-found (wrong_at r p i t) (wrong_at r p (i + suc (width_of t)) u) k e))
bad-found (chosen t u) r p i k e =
    bad-inner r p (term_of t) (term_of u)
    (⊎_elim (λ e. inl (bad-found t r p i k e)) (λ e. inr (bad-found u r p (i + (3 + width_of t)) k e.1))
    (either-found (wrong_at r p i t) (wrong_at r p (i + (3 + width_of t)) u) k e))
bad-found (bound v t) r p i k e = bad-loop r p v (term_of t) (bad-found t (v ∷ r) (others v p) (i + 5) k e)
bad-found (variable v) r p i k e = naked v n_name (failed-test (any (eqb v) p) i k e)
bad-found (bracket t) r p i k e = bad-found t r p (suc i) k e

-- in a whole tree
pub wrong-found : (t : Tree) (i : ℕ) → wrong_at [] [] 0 t ≡ some i → Wrong (term_of t)
wrong-found t i e = go (bad-found t [] [] 0 i e)
  where
    go : Bad [] [] (term_of t) → Wrong (term_of t)
    go (unbound v f a) = inl (v, f)
    go (naked v n a) = inl (v, naked-free n)
    go (faulty y) = inr y

-- ---- where none is found, none is at fault

no-free-end : {v : ℕ} → Free v end → ⊥
no-free-end f = elim f [ ]

no-faulty-end : Faulty end → ⊥
no-faulty-end y = elim y [ ]

-- in neither side
pub none-summed : (t u : Tree) (r p : List ℕ) (i : ℕ) → wrong_at r p i (summed t u) ≡ none
    → (wrong_at r p i t ≡ none) × (wrong_at r p (i + suc (width_of t)) u ≡ none)
unfolding wrong_at
none-summed t u r p i e = neither (wrong_at r p i t) (wrong_at r p (i + suc (width_of t)) u) e

pub none-chosen : (t u : Tree) (r p : List ℕ) (i : ℕ) → wrong_at r p i (chosen t u) ≡ none
    → (wrong_at r p i t ≡ none) × (wrong_at r p (i + (3 + width_of t)) u ≡ none)
unfolding wrong_at
none-chosen t u r p i e = neither (wrong_at r p i t) (wrong_at r p (i + (3 + width_of t)) u) e

-- A variable under no prefix is one of those that have one before.
pub naked-among : (t : Tree) (recs prefixed : List ℕ) (i : ℕ) → wrong_at recs prefixed i t ≡ none → (v : ℕ) → Naked v (term_of t)
    → Among v prefixed
unfolding wrong_at term_of
naked-among nought r p i e v n = elim n [ ]
naked-among (bare _) r p i e v n = elim n [ ]
naked-among (dotted _ _) r p i e v n = elim n [ ]
naked-among (summed t u) r p i e v (n_plus_left a b n) = naked-among t r p i (none-summed t u r p i e).0 v n
naked-among (summed t u) r p i e v (n_plus_right a b n) =
    naked-among u r p (i + suc (width_of t)) (none-summed t u r p i e).1 v n
naked-among (chosen t u) r p i e v (n_inner_left a b n) = naked-among t r p i (none-chosen t u r p i e).0 v n
naked-among (chosen t u) r p i e v (n_inner_right a b n) =
    naked-among u r p (i + (3 + width_of t)) (none-chosen t u r p i e).1 v n
naked-among (bound w t) r p i e v (n_loop a b d n) = (among-others v w p (naked-among t (w ∷ r) (others w p) (i + 5) e v n)).0
naked-among (variable w) r p i e v n_name = passed-test (any (eqb w) p) i e
naked-among (bracket t) r p i e v n = naked-among t r p (suc i) e v n

-- A free variable is one of those that have a rec.
pub free-among : (t : Tree) (recs prefixed : List ℕ) (i : ℕ) → ((v : ℕ) → Among v prefixed → Among v recs)
    → wrong_at recs prefixed i t ≡ none → (v : ℕ) → Free v (term_of t) → Among v recs
unfolding wrong_at term_of
free-among nought r p i s e v f = absurd (no-free-end f)
free-among (bare j) r p i s e v (f_before a b f) = absurd (no-free-end f)
free-among (dotted j t) r p i s e v (f_before a b f) = free-among t r r (i + suc (action_width j)) (λ v a. a) e v f
free-among (summed t u) r p i s e v (f_plus_left a b f) = free-among t r p i s (none-summed t u r p i e).0 v f
free-among (summed t u) r p i s e v (f_plus_right a b f) =
    free-among u r p (i + suc (width_of t)) s (none-summed t u r p i e).1 v f
free-among (chosen t u) r p i s e v (f_inner_left a b f) = free-among t r p i s (none-chosen t u r p i e).0 v f
free-among (chosen t u) r p i s e v (f_inner_right a b f) =
    free-among u r p (i + (3 + width_of t)) s (none-chosen t u r p i e).1 v f
free-among (bound w t) r p i s e v (f_loop a b d f) =
    ⊎_elim (λ q. absurd (d q)) (λ a. a)
    (among-cons v w r
    (free-among t (w ∷ r) (others w p) (i + 5) (λ u a. among-tail u w r (s u (among-others u w p a).0)) e v f))
free-among (variable w) r p i s e v f_name = s w (passed-test (any (eqb w) p) i e)
free-among (bracket t) r p i s e v f = free-among t r p (suc i) s e v f

-- No rec has its variable under no prefix.
pub not-faulty : (t : Tree) (recs prefixed : List ℕ) (i : ℕ) → wrong_at recs prefixed i t ≡ none → Faulty (term_of t) → ⊥
unfolding wrong_at term_of
not-faulty nought r p i e y = no-faulty-end y
not-faulty (bare j) r p i e (y_before a b y) = no-faulty-end y
not-faulty (dotted j t) r p i e (y_before a b y) = not-faulty t r r (i + suc (action_width j)) e y
not-faulty (summed t u) r p i e (y_plus_left a b y) = not-faulty t r p i (none-summed t u r p i e).0 y
not-faulty (summed t u) r p i e (y_plus_right a b y) = not-faulty u r p (i + suc (width_of t)) (none-summed t u r p i e).1 y
not-faulty (chosen t u) r p i e (y_inner_left a b y) = not-faulty t r p i (none-chosen t u r p i e).0 y
not-faulty (chosen t u) r p i e (y_inner_right a b y) = not-faulty u r p (i + (3 + width_of t)) (none-chosen t u r p i e).1 y
not-faulty (bound w t) r p i e (y_here a b n) =
    (among-others w w p (naked-among t (w ∷ r) (others w p) (i + 5) e w n)).1 refl
not-faulty (bound w t) r p i e (y_loop a b y) = not-faulty t (w ∷ r) (others w p) (i + 5) e y
not-faulty (variable w) r p i e y = elim y [ ]
not-faulty (bracket t) r p i e y = not-faulty t r p (suc i) e y

-- in a whole tree
pub none-wrong : (t : Tree) → wrong_at [] [] 0 t ≡ none → Wrong (term_of t) → ⊥
none-wrong t e (inl w) = none-among w.0 (free-among t [] [] 0 (λ v a. a) e w.0 w.1)
none-wrong t e (inr y) = not-faulty t [] [] 0 e y
