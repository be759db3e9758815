-- A part of a term where it stands: with what the variables mean there, with the closed terms that they stand for there, and with how many
-- places are before it. What a place in the list means is what the transitions of the closed term give.
-- Assumes nothing.
use mathlib.Core.Path.{◌≡◌, refl, sym, subst, subst⁻¹, ◌∙◌}
use mathlib.Core.Logic.{◌⊎◌, inl, inr, ⊎_elim}
use mathlib.Core.Option.{Option, none, some, get_or, none-ne-some, some-injective}
use mathlib.Core.List.Memᴰ
use mathlib.Core.List.{[], ◌∷◌, ◌++◌, Memᴰ}
use Prim.Native.Nat.{ℕ, suc, ◌+◌, ◌<◌}
use native.Mathlib.Omega.{arith}
use lib.ListN.{length}
use lib.Bits.{bit_or}
use Rattle.model.specs.Lists.{combine}
use Rattle.model.proofs.Lists.{combine-intro, combine-elim}
use Rattle.text.specs.Terms.{
  Term,
  end,
  before,
  plus,
  inner,
  loop,
  name,
  Free,
  f_before,
  f_plus_left,
  f_plus_right,
  f_inner_left,
  f_inner_right,
  f_loop,
  Naked,
  n_name,
  n_plus_left,
  n_plus_right,
  n_inner_left,
  n_inner_right,
  n_loop,
  Faulty,
  y_here,
  y_loop,
  y_before,
  y_plus_left,
  y_plus_right,
  y_inner_left,
  y_inner_right,
}
use Rattle.text.specs.Transitions.{replaced}
use Rattle.text.specs.Places.{
  Step,
  Sense,
  the_end,
  Scope,
  no_scope,
  within,
  size_of,
  place_in,
  sense_in,
  senses_in,
  places_of,
  first_place,
  sense_at,
}
use Rattle.text.proofs.Substitution.{
  closed,
  Values,
  without,
  with_value,
  value_of,
  sub,
  ClosedValues,
  same-or-other,
  with-same,
  with-other,
  sub-none,
  sub-closes,
  replaced-sub,
}
use Rattle.text.proofs.Variables.{naked-free}
use Rattle.text.proofs.Moves.{
  Ready,
  Acts,
  end_ready,
  ready-end,
  acts-end,
  before-ready,
  ready-before,
  before-acts,
  acts-before,
  plus_ready,
  ready-plus,
  plus-acts,
  acts-plus,
  inner_ready,
  ready-inner,
  inner-acts,
  acts-inner,
  loop-ready,
  ready-loop,
  loop-acts,
  acts-loop,
}
use Rattle.text.proofs.Inside.{
  Inside,
  inside-whole,
  inside-left,
  inside-right,
  inside-second,
  inside-third,
  inside-fits,
  inside-first,
}
use Rattle.text.proofs.Senses.{within_same, within-other, sense-place, loop-within, loop-place, senses-length}

-- a rec's own variable is not among those under no prefix in its body
pub other-naked : (v : ℕ) (t : Term) → (Faulty (loop v t) → ⊥) → (x : ℕ) → Naked x t → v ≡ x → ⊥
other-naked v t f x k e = f (y_here v t (subst⁻¹ (λ (z : ℕ). Naked z t) e k))

-- all actions of a term are among the fourteen
abbrev pub ActionsBelow : Term → Type 0
ActionsBelow end = Unit {0}
ActionsBelow (before j t) = (j < 14) × ActionsBelow t
ActionsBelow (plus t u) = ActionsBelow t × ActionsBelow u
ActionsBelow (inner t u) = ActionsBelow t × ActionsBelow u
ActionsBelow (loop v t) = ActionsBelow t
ActionsBelow (name v) = Unit {0}

-- A part where it stands in a whole term.
pub data Stands (root : Term) : Scope → Values → ℕ → Term → Type 0 where
  at-root : Stands root no_scope (λ v. none) 0 root
  in-before : {scope : Scope} {σ : Values} {n : ℕ} (j : ℕ) (t : Term) → Stands root scope σ n (before j t) → Stands root scope σ n t
  in-plus-left : {scope : Scope} {σ : Values} {n : ℕ} (t u : Term) → Stands root scope σ n (plus t u) → Stands root scope σ n t
  in-plus-right : {scope : Scope} {σ : Values} {n : ℕ} (t u : Term) → Stands root scope σ n (plus t u)
      → Stands root scope σ (n + size_of t) u
  in-inner-left : {scope : Scope} {σ : Values} {n : ℕ} (t u : Term) → Stands root scope σ n (inner t u) → Stands root scope σ n t
  in-inner-right : {scope : Scope} {σ : Values} {n : ℕ} (t u : Term) → Stands root scope σ n (inner t u)
      → Stands root scope σ (n + size_of t) u
  in-loop : {scope : Scope} {σ : Values} {n : ℕ} (v : ℕ) (t : Term) → Stands root scope σ n (loop v t)
      → Stands root (within scope v (sense_in scope n (loop v t))) (with_value σ v (sub σ (loop v t))) n t

-- a closed term that stands at a place
abbrev pub StandsFor : Term → ℕ → Term → Type 0
StandsFor root p s =
    (scope : Scope) × (σ : Values) × (n : ℕ) × (t : Term) × Stands root scope σ n t × (p ≡ place_in scope n t) × (s ≡ sub σ t)

-- What is said of a place is what the transitions of a closed term give.
pub record Means (root : Term) (s : Sense) (t : Term) : Type 0 where
  pub ready-is : (R : ℕ) → Memᴰ R s.ready → Ready t R
  pub is-ready : (R : ℕ) → Ready t R → Memᴰ R s.ready
  pub step_is : (k : Step) → Memᴰ k s.steps → (u : Term) × Acts t k.action u × StandsFor root k.to u
  pub is-step : (j : ℕ) (u : Term) → Acts t j u → (k : Step) × Memᴰ k s.steps × (k.action ≡ j) × StandsFor root k.to u

module _ (root : Term) (sound : Faulty root → ⊥) (below : ActionsBelow root) where
  -- ---- what passes from the whole to its parts

  pub part_sound : {scope : Scope} {σ : Values} {n : ℕ} {t : Term} → Stands root scope σ n t → Faulty t → ⊥
  part_sound at-root y = sound y
  part_sound (in-before j t w) y = part_sound w (y_before j t y)
  part_sound (in-plus-left t u w) y = part_sound w (y_plus_left t u y)
  part_sound (in-plus-right t u w) y = part_sound w (y_plus_right t u y)
  part_sound (in-inner-left t u w) y = part_sound w (y_inner_left t u y)
  part_sound (in-inner-right t u w) y = part_sound w (y_inner_right t u y)
  part_sound (in-loop v t w) y = part_sound w (y_loop v t y)

  pub part-below : {scope : Scope} {σ : Values} {n : ℕ} {t : Term} → Stands root scope σ n t → ActionsBelow t
  part-below at-root = below
  part-below (in-before j t w) = (part-below w).1
  part-below (in-plus-left t u w) = (part-below w).0
  part-below (in-plus-right t u w) = (part-below w).1
  part-below (in-inner-left t u w) = (part-below w).0
  part-below (in-inner-right t u w) = (part-below w).1
  part-below (in-loop v t w) = part-below w

  -- the places of a part stand together in the list, behind those before it
  part_lies : {scope : Scope} {σ : Values} {n : ℕ} {t : Term} → Stands root scope σ n t
      → Inside (senses_in no_scope 0 root) (senses_in scope n t) n
  unfolding senses_in
  part_lies at-root = inside-whole (senses_in no_scope 0 root)
  part_lies (in-before {scope = scope} {n = n} j t w) =
      inside-left (senses_in scope n t) (sense_in scope n (before j t) ∷ []) (part_lies w)
  part_lies (in-plus-left {scope = scope} {n = n} t u w) =
      inside-left (senses_in scope n t) (senses_in scope (n + size_of t) u ++ (sense_in scope n (plus t u) ∷ [])) (part_lies w)
  part_lies (in-plus-right {scope = scope} {n = n} t u w) =
      inside-second (senses_in scope n t) (senses_in scope (n + size_of t) u) (sense_in scope n (plus t u) ∷ []) (size_of t)
      (senses-length t n scope) (part_lies w)
  part_lies (in-inner-left {scope = scope} {n = n} t u w) =
      inside-left (senses_in scope n t) (senses_in scope (n + size_of t) u ++ (sense_in scope n (inner t u) ∷ [])) (part_lies w)
  part_lies (in-inner-right {scope = scope} {n = n} t u w) =
      inside-second (senses_in scope n t) (senses_in scope (n + size_of t) u) (sense_in scope n (inner t u) ∷ []) (size_of t)
      (senses-length t n scope) (part_lies w)
  part_lies (in-loop v t w) = part_lies w

  -- what the list has at a place
  abbrev pub Listed : ℕ → Sense → Type 0
  Listed p s = (sense_at (places_of root) p ≡ s) × (p < length (places_of root))

  -- the last of the places of a part stands behind the others
  last-listed : {n : ℕ} (x : Sense) → Inside (senses_in no_scope 0 root) (x ∷ []) n → Listed (suc n) x
  unfolding sense_at places_of
  last-listed x own = (inside-first x [] the_end own, omega (arith, inside-fits own))

  choice-listed : (t u : Term) (scope : Scope) (n : ℕ) (x : Sense)
      → Inside (senses_in no_scope 0 root) (senses_in scope n t ++ (senses_in scope (n + size_of t) u ++ (x ∷ []))) n
      → Listed (suc (n + (size_of t + size_of u))) x
  choice-listed t u scope n x k =
      last-listed x
      (inside-third (senses_in scope n t) (senses_in scope (n + size_of t) u) (x ∷ []) (size_of t) (size_of u) (senses-length t n scope)
      (senses-length u (n + size_of t) scope) k)

  -- ---- what the list has for a part's place is what the part means

  -- for variables under no prefix
  abbrev Entries : Scope → Term → Type 0
  Entries scope t = (v : ℕ) → Naked v t → Listed (scope v).place (scope v)

  end-listed : Listed 0 the_end
  unfolding sense_at places_of
  end-listed = (refl, omega arith)

  entry : (t : Term) {scope : Scope} {σ : Values} {n : ℕ} → Stands root scope σ n t → Entries scope t
      → Listed (place_in scope n t) (sense_in scope n t)
  unfolding place_in senses_in sense_in
  entry end w e = end-listed
  entry (before j t) {scope} {σ} {n} w e =
      let x = sense_in scope n (before j t) in
      last-listed x (inside-right (senses_in scope n t) (x ∷ []) (size_of t) (senses-length t n scope) (part_lies w))
  entry (plus t u) {scope} {σ} {n} w e = choice-listed t u scope n (sense_in scope n (plus t u)) (part_lies w)
  entry (inner t u) {scope} {σ} {n} w e = choice-listed t u scope n (sense_in scope n (inner t u)) (part_lies w)
  entry (loop v t) {scope} {σ} {n} w e =
      let f = part_sound w in
      let own = sense_in scope n (loop v t) in
      let k = entry t (in-loop v t w)
      (λ x k.
      let other = within-other scope v own x (other-naked v t f x k) in
      subst⁻¹ (λ (s : Sense). Listed s.place s) other (e x (n_loop v t (λ d. other-naked v t f x k (sym d)) k))) in
      subst⁻¹ (λ (q : ℕ). Listed q own) (loop-place v t n scope own f) (subst⁻¹ (Listed (place_in (within scope v own) n t)) (loop-within v t n scope f) k)
  entry (name v) w e = e v n_name

  -- the same for all variables, whatever they stand under
  all-entries : {scope : Scope} {σ : Values} {n : ℕ} {t : Term} → Stands root scope σ n t → (v : ℕ) → Listed (scope v).place (scope v)
  unfolding no_scope the_end
  all-entries at-root v = end-listed
  all-entries (in-before j t w) v = all-entries w v
  all-entries (in-plus-left t u w) v = all-entries w v
  all-entries (in-plus-right t u w) v = all-entries w v
  all-entries (in-inner-left t u w) v = all-entries w v
  all-entries (in-inner-right t u w) v = all-entries w v
  all-entries (in-loop {scope = scope} {n = n} u t w) v = go (same-or-other u v) (entry (loop u t) w (λ x k. all-entries w x)) (all-entries w v)
    where
      go : (u ≡ v) ⊎ (u ≡ v → ⊥) → Listed (place_in scope n (loop u t)) (sense_in scope n (loop u t)) → Listed (scope v).place (scope v)
          → Listed (within scope u (sense_in scope n (loop u t)) v).place (within scope u (sense_in scope n (loop u t)) v)
      go (inl d) a b =
          subst⁻¹ (λ (s : Sense). Listed s.place s) (within_same scope u (sense_in scope n (loop u t)) v d)
          (subst⁻¹ (λ (q : ℕ). Listed q (sense_in scope n (loop u t))) (sense-place (loop u t) n scope (part_sound w)) a)
      go (inr d) a b = subst⁻¹ (λ (s : Sense). Listed s.place s) (within-other scope u (sense_in scope n (loop u t)) v d) b

  -- so the list has at the place of every part what the part means
  pub part-entry : {scope : Scope} {σ : Values} {n : ℕ} {t : Term} → Stands root scope σ n t → Listed (place_in scope n t) (sense_in scope n t)
  part-entry {t = t} w = entry t w (λ v k. all-entries w v)

  -- ---- closed terms

  -- every variable that is free in a part stands for a closed term there
  free_bound : {scope : Scope} {σ : Values} {n : ℕ} {t : Term} → closed root → Stands root scope σ n t
      → (v : ℕ) → Free v t → (s : Term) × (σ v ≡ some s) × closed s
  free_bound c at-root v f = absurd (c v f)
  free_bound c (in-before j t w) v f = free_bound c w v (f_before j t f)
  free_bound c (in-plus-left t u w) v f = free_bound c w v (f_plus_left t u f)
  free_bound c (in-plus-right t u w) v f = free_bound c w v (f_plus_right t u f)
  free_bound c (in-inner-left t u w) v f = free_bound c w v (f_inner_left t u f)
  free_bound c (in-inner-right t u w) v f = free_bound c w v (f_inner_right t u f)
  free_bound c (in-loop {σ = σ} u t w) v f =
      go (same-or-other u v) (sub-closes (loop u t) σ (λ x g. free_bound c w x g)) (λ d. free_bound c w v (f_loop u t d f))
    where
      go : (u ≡ v) ⊎ (u ≡ v → ⊥) → closed (sub σ (loop u t)) → ((v ≡ u → ⊥) → (s : Term) × (σ v ≡ some s) × closed s)
          → (s : Term) × (with_value σ u (sub σ (loop u t)) v ≡ some s) × closed s
      go (inl d) k g = (sub σ (loop u t), with-same σ u (sub σ (loop u t)) v d, k)
      go (inr d) k g = let r = g (λ e. d (sym e)) in (r.0, with-other σ u (sub σ (loop u t)) v d ∙ r.1, r.2)

  -- whatever a variable stands for is closed
  values-closed : {scope : Scope} {σ : Values} {n : ℕ} {t : Term} → closed root → Stands root scope σ n t → ClosedValues σ
  values-closed c at-root v s e = absurd (none-ne-some s e)
  values-closed c (in-before j t w) v s e = values-closed c w v s e
  values-closed c (in-plus-left t u w) v s e = values-closed c w v s e
  values-closed c (in-plus-right t u w) v s e = values-closed c w v s e
  values-closed c (in-inner-left t u w) v s e = values-closed c w v s e
  values-closed c (in-inner-right t u w) v s e = values-closed c w v s e
  values-closed c (in-loop {σ = σ} u t w) v s e =
      go (same-or-other u v) (sub-closes (loop u t) σ (λ x g. free_bound c w x g)) (λ d. values-closed c w v s d)
    where
      go : (u ≡ v) ⊎ (u ≡ v → ⊥) → closed (sub σ (loop u t)) → (σ v ≡ some s → closed s) → closed s
      go (inl d) k g = subst closed (some-injective (sub σ (loop u t)) s (sym (with-same σ u (sub σ (loop u t)) v d) ∙ e)) k
      go (inr d) k g = g (sym (with-other σ u (sub σ (loop u t)) v d) ∙ e)

  -- ---- what a part means

  end-means : Means root the_end end
  unfolding the_end
  end-means =
      record {
        ready-is = λ R m. subst⁻¹ (Ready end) (Memᴰ.eq_of_singleton m) end_ready;
        is-ready = λ R r. Memᴰ.head (ready-end R r);
        step_is = λ k m. absurd (Memᴰ.not-nil m);
        is-step = λ j u a. absurd (acts-end j u a);
      }

  before-means : (j : ℕ) (t : Term) {scope : Scope} {σ : Values} {n : ℕ} → Stands root scope σ n (before j t)
      → Means root (sense_in scope n (before j t)) (before j (sub σ t))
  unfolding sense_in
  before-means j t {scope} {σ} {n} w =
      let small : j < 14 = (part-below w).0 in
      let step : Step = record { action = j; to = place_in scope n t } in
      let behind : StandsFor root (place_in scope n t) (sub σ t) = (scope, σ, n, t, in-before j t w, refl, refl) in
      record {
        ready-is = λ R m. subst⁻¹ (Ready (before j (sub σ t))) (Memᴰ.eq_of_singleton m) (before-ready j (sub σ t) small);
        is-ready = λ R r. Memᴰ.head (ready-before j (sub σ t) small R r);
        step_is = λ k m.
            subst⁻¹ (λ (k : Step). (u : Term) × Acts (before j (sub σ t)) k.action u × StandsFor root k.to u)
            (Memᴰ.eq_of_singleton m) (sub σ t, before-acts j (sub σ t), behind);
        is-step = λ i u a.
            let e = acts-before j (sub σ t) i u a in
            (step, Memᴰ.head refl, sym e.0, subst⁻¹ (StandsFor root (place_in scope n t)) e.1 behind);
      }

  plus-means : (l r : Sense) (t u : Term) (p : ℕ) → Means root l t → Means root r u
      → Means root (record { place = p; ready = combine bit_or l.ready r.ready; steps = l.steps ++ r.steps }) (plus t u)
  plus-means l r t u p m k =
      record {
        ready-is = λ R h.
            let c = combine-elim bit_or R l.ready r.ready h in
            subst (Ready (plus t u)) c.4 (plus_ready t u c.0 c.1 (m.ready-is c.0 c.2) (k.ready-is c.1 c.3));
        is-ready = λ R h.
            let c = ready-plus t u R h in
            subst⁻¹ (λ (x : ℕ). Memᴰ x (combine bit_or l.ready r.ready)) c.4
            (combine-intro bit_or (m.is-ready c.0 c.2) (k.is-ready c.1 c.3));
        step_is = λ q h.
            ⊎_elim {C = (s : Term) × Acts (plus t u) q.action s × StandsFor root q.to s}
            (λ i. let a = m.step_is q i in (a.0, plus-acts t u q.action a.0 (inl a.1), a.2))
            (λ i. let a = k.step_is q i in (a.0, plus-acts t u q.action a.0 (inr a.1), a.2))
            (Memᴰ.append_cases l.steps h);
        is-step = λ j s a.
            ⊎_elim {C = (q : Step) × Memᴰ q (l.steps ++ r.steps) × (q.action ≡ j) × StandsFor root q.to s}
            (λ b. let c = m.is-step j s b in (c.0, Memᴰ.append_left r.steps c.1, c.2, c.3))
            (λ b. let c = k.is-step j s b in (c.0, Memᴰ.append_right l.steps c.1, c.2, c.3))
            (acts-plus t u j s a);
      }

  inner-means : (l r : Sense) (t u : Term) (p : ℕ) → Means root l t → Means root r u
      → Means root (record { place = p; ready = l.ready ++ r.ready; steps = l.steps ++ r.steps }) (inner t u)
  inner-means l r t u p m k =
      record {
        ready-is = λ R h.
            ⊎_elim
            (λ i. inner_ready t u R (inl (m.ready-is R i)))
            (λ i. inner_ready t u R (inr (k.ready-is R i)))
            (Memᴰ.append_cases l.ready h);
        is-ready = λ R h.
            ⊎_elim (λ i. Memᴰ.append_left r.ready (m.is-ready R i)) (λ i. Memᴰ.append_right l.ready (k.is-ready R i)) (ready-inner t u R h);
        step_is = λ q h.
            ⊎_elim {C = (s : Term) × Acts (inner t u) q.action s × StandsFor root q.to s}
            (λ i. let a = m.step_is q i in (a.0, inner-acts t u q.action a.0 (inl a.1), a.2))
            (λ i. let a = k.step_is q i in (a.0, inner-acts t u q.action a.0 (inr a.1), a.2))
            (Memᴰ.append_cases l.steps h);
        is-step = λ j s a.
            ⊎_elim {C = (q : Step) × Memᴰ q (l.steps ++ r.steps) × (q.action ≡ j) × StandsFor root q.to s}
            (λ b. let c = m.is-step j s b in (c.0, Memᴰ.append_left r.steps c.1, c.2, c.3))
            (λ b. let c = k.is-step j s b in (c.0, Memᴰ.append_right l.steps c.1, c.2, c.3))
            (acts-inner t u j s a);
      }

  -- a rec means what its body means, in which its variable stands for the whole
  loop-means : (s : Sense) (v : ℕ) (t : Term) → Means root s (replaced v (loop v t) t) → Means root s (loop v t)
  loop-means s v t m =
      record {
        ready-is = λ R h. loop-ready v t R (m.ready-is R h);
        is-ready = λ R h. m.is-ready R (ready-loop v t R h);
        step_is = λ k h. let a = m.step_is k h in (a.0, loop-acts v t k.action a.0 a.1, a.2);
        is-step = λ j u a. m.is-step j u (acts-loop v t j u a);
      }

  -- from what the variables under no prefix mean
  part-means : (t : Term) {scope : Scope} {σ : Values} {n : ℕ} → closed root → Stands root scope σ n t
      → ((v : ℕ) → Naked v t → Means root (scope v) (value_of σ v)) → Means root (sense_in scope n t) (sub σ t)
  unfolding sense_in sub
  part-means end c w h = end-means
  part-means (before j t) c w h = before-means j t w
  part-means (plus t u) {scope} {σ} {n} c w h =
      plus-means (sense_in scope n t) (sense_in scope (n + size_of t) u) (sub σ t) (sub σ u) (place_in scope n (plus t u))
      (part-means t c (in-plus-left t u w) (λ v k. h v (n_plus_left t u k)))
      (part-means u c (in-plus-right t u w) (λ v k. h v (n_plus_right t u k)))
  part-means (inner t u) {scope} {σ} {n} c w h =
      inner-means (sense_in scope n t) (sense_in scope (n + size_of t) u) (sub σ t) (sub σ u) (place_in scope n (inner t u))
      (part-means t c (in-inner-left t u w) (λ v k. h v (n_inner_left t u k)))
      (part-means u c (in-inner-right t u w) (λ v k. h v (n_inner_right t u k)))
  part-means (loop v t) {scope} {σ} {n} c w h =
      let f = part_sound w in
      let own = sense_in scope n (loop v t) in
      let body = sub (without σ v) t in
      let k = part-means t c (in-loop v t w) (λ x k.
      let d = other-naked v t f x k in
      subst⁻¹ (λ (s : Sense). Means root s (value_of (with_value σ v (loop v body)) x)) (within-other scope v own x d)
      (subst⁻¹ (λ (o : Option Term). Means root (scope x) (get_or o (name x))) (with-other σ v (loop v body) x d)
      (h x (n_loop v t (λ e. d (sym e)) k)))) in
      loop-means own v body
      (subst⁻¹ (Means root own) (replaced-sub t σ v (loop v body) (values-closed c w))
      (subst⁻¹ (λ (s : Sense). Means root s (sub (with_value σ v (loop v body)) t)) (loop-within v t n scope f) k))
  part-means (name v) c w h = h v n_name

  -- what every variable that is free in a part means
  free-means : {scope : Scope} {σ : Values} {n : ℕ} {t : Term} → closed root → Stands root scope σ n t
      → (v : ℕ) → Free v t → Means root (scope v) (value_of σ v)
  free-means c at-root v f = absurd (c v f)
  free-means c (in-before j t w) v f = free-means c w v (f_before j t f)
  free-means c (in-plus-left t u w) v f = free-means c w v (f_plus_left t u f)
  free-means c (in-plus-right t u w) v f = free-means c w v (f_plus_right t u f)
  free-means c (in-inner-left t u w) v f = free-means c w v (f_inner_left t u f)
  free-means c (in-inner-right t u w) v f = free-means c w v (f_inner_right t u f)
  free-means c (in-loop {scope = scope} {σ = σ} {n = n} u t w) v f =
      go (same-or-other u v) (part-means (loop u t) c w (λ x k. free-means c w x (naked-free k))) (λ d. free-means c w v (f_loop u t d f))
    where
      go : (u ≡ v) ⊎ (u ≡ v → ⊥) → Means root (sense_in scope n (loop u t)) (sub σ (loop u t))
          → ((v ≡ u → ⊥) → Means root (scope v) (value_of σ v))
          → Means root (within scope u (sense_in scope n (loop u t)) v) (value_of (with_value σ u (sub σ (loop u t))) v)
      go (inl d) a b =
          subst⁻¹ (λ (s : Sense). Means root s (value_of (with_value σ u (sub σ (loop u t))) v))
          (within_same scope u (sense_in scope n (loop u t)) v d)
          (subst⁻¹ (λ (o : Option Term). Means root (sense_in scope n (loop u t)) (get_or o (name v)))
          (with-same σ u (sub σ (loop u t)) v d) a)
      go (inr d) a b =
          subst⁻¹ (λ (s : Sense). Means root s (value_of (with_value σ u (sub σ (loop u t))) v))
          (within-other scope u (sense_in scope n (loop u t)) v d)
          (subst⁻¹ (λ (o : Option Term). Means root (scope v) (get_or o (name v))) (with-other σ u (sub σ (loop u t)) v d)
          (b (λ e. d (sym e))))

  -- What the list has for a place is what the transitions of every closed term that stands there give.
  pub place-means : closed root → (p : ℕ) (s : Term) → StandsFor root p s → Means root (sense_at (places_of root) p) s
  place-means c p s (scope, σ, n, t, w, at, is) =
      let m = part-means t c w (λ v k. free-means c w v (naked-free k)) in
      let e = (part-entry w).0 in
      subst⁻¹ (λ (u : Term). Means root (sense_at (places_of root) p) u) is
      (subst⁻¹ (λ (q : ℕ). Means root (sense_at (places_of root) q) (sub σ t)) at
      (subst⁻¹ (λ (r : Sense). Means root r (sub σ t)) e m))

  -- a place at which a closed term stands is one of the list
  pub place_inside : (p : ℕ) (s : Term) → StandsFor root p s → p < length (places_of root)
  place_inside p s (scope, σ, n, t, w, at, is) =
      subst⁻¹ (λ (q : ℕ). q < length (places_of root)) at (part-entry w).1

  -- "at first the whole text"
  pub root_stands : StandsFor root (first_place root) root
  unfolding first_place
  root_stands = (no_scope, (λ v. none), 0, root, at-root, refl, sym (sub-none root))
