-- Every place of a term has a ready set, and the action of each step from it is in one of them: by induction on the term, for a part from
-- the variables under no prefix in it, for the list of places from all variables.
-- Assumes nothing.
use mathlib.Core.Path.{◌≡◌, refl, sym, subst⁻¹}
use mathlib.Core.Logic.{⊎_elim}
use mathlib.Core.List.Memᴰ
use mathlib.Core.List.{List, [], ◌∷◌, ◌++◌, Memᴰ}
use Prim.Native.Nat.{ℕ, ◌+◌, ◌<◌, ◌^◌}
use lib.ListN.{length}
use lib.Dec.{T}
use lib.Bits.{bit_or}
use Rattle.model.specs.Lists.{combine}
use Rattle.model.specs.Contract.{has}
use Rattle.model.proofs.Lists.{combine-intro, get_d_mem}
use Rattle.model.proofs.Bits.{has-or-left, has-or-right}
use Rattle.model.proofs.Masks.{has-power}
use Rattle.text.specs.Terms.{
  Term,
  end,
  before,
  plus,
  inner,
  loop,
  name,
  Naked,
  n_name,
  n_plus_left,
  n_plus_right,
  n_inner_left,
  n_inner_right,
  n_loop,
  Faulty,
  y_here,
  y_loop,
  y_before,
  y_plus_left,
  y_plus_right,
  y_inner_left,
  y_inner_right,
}
use Rattle.text.specs.Places.{Step, Sense, the_end, Scope, no_scope, within, size_of, place_in, placed, sense_in, senses_in, places_of, sense_at}
use Rattle.text.proofs.Substitution.{same-or-other}
use Rattle.text.proofs.Senses.{within_same, within-other}

-- a place with a ready set, and with none of its steps missing in them
pub record Fits (s : Sense) : Type 0 where
  pub some_ready : (R : ℕ) × Memᴰ R s.ready
  pub offered : (k : Step) → Memᴰ k s.steps → (R : ℕ) × Memᴰ R s.ready × T (has R k.action)

-- ---- part by part

end_fits : Fits the_end
unfolding the_end
end_fits = record { some_ready = (0, Memᴰ.head refl); offered = λ k m. absurd (Memᴰ.not-nil m) }

before-fits : (j : ℕ) (t : Term) (n : ℕ) (scope : Scope) → Fits (sense_in scope n (before j t))
unfolding sense_in
before-fits j t n scope =
    record {
      some_ready = (2 ^ j, Memᴰ.head refl);
      offered = λ k m. (
        2 ^ j,
        Memᴰ.head refl,
        subst⁻¹ (λ (k : Step). T (has (2 ^ j) k.action)) (Memᴰ.eq_of_singleton m) (has-power j),
      );
    }

-- a step of one side is in a union with any ready set of the other
plus-fits : (l r : Sense) (p : ℕ) → Fits l → Fits r
    → Fits (record { place = p; ready = combine bit_or l.ready r.ready; steps = l.steps ++ r.steps })
plus-fits l r p f g =
    let R = f.some_ready in
    let S = g.some_ready in
    record {
      some_ready = (bit_or R.0 S.0, combine-intro bit_or R.1 S.1);
      offered = λ k m.
          ⊎_elim {C = (Z : ℕ) × Memᴰ Z (combine bit_or l.ready r.ready) × T (has Z k.action)}
          (λ i. let w = f.offered k i in
          (bit_or w.0 S.0, combine-intro bit_or w.1 S.1, has-or-left w.0 S.0 k.action w.2))
          (λ i. let w = g.offered k i in
          (bit_or R.0 w.0, combine-intro bit_or R.1 w.1, has-or-right R.0 w.0 k.action w.2))
          (Memᴰ.append_cases l.steps m);
    }

inner-fits : (l r : Sense) (p : ℕ) → Fits l → Fits r → Fits (record { place = p; ready = l.ready ++ r.ready; steps = l.steps ++ r.steps })
inner-fits l r p f g =
    record {
      some_ready = (f.some_ready.0, Memᴰ.append_left r.ready f.some_ready.1);
      offered = λ k m.
          ⊎_elim {C = (Z : ℕ) × Memᴰ Z (l.ready ++ r.ready) × T (has Z k.action)}
          (λ i. let w = f.offered k i in (w.0, Memᴰ.append_left r.ready w.1, w.2))
          (λ i. let w = g.offered k i in (w.0, Memᴰ.append_right l.ready w.1, w.2))
          (Memᴰ.append_cases l.steps m);
    }

-- a rec's own variable stands under a prefix in it, so the others count only
part-fits : (t : Term) (n : ℕ) (scope : Scope) → (Faulty t → ⊥) → ((v : ℕ) → Naked v t → Fits (scope v)) → Fits (sense_in scope n t)
unfolding sense_in
part-fits end n scope f h = end_fits
part-fits (before j t) n scope f h = before-fits j t n scope
part-fits (plus t u) n scope f h =
    plus-fits (sense_in scope n t) (sense_in scope (n + size_of t) u) (place_in scope n (plus t u))
    (part-fits t n scope (λ y. f (y_plus_left t u y)) (λ v k. h v (n_plus_left t u k)))
    (part-fits u (n + size_of t) scope (λ y. f (y_plus_right t u y)) (λ v k. h v (n_plus_right t u k)))
part-fits (inner t u) n scope f h =
    inner-fits (sense_in scope n t) (sense_in scope (n + size_of t) u) (place_in scope n (inner t u))
    (part-fits t n scope (λ y. f (y_inner_left t u y)) (λ v k. h v (n_inner_left t u k)))
    (part-fits u (n + size_of t) scope (λ y. f (y_inner_right t u y)) (λ v k. h v (n_inner_right t u k)))
part-fits (loop v t) n scope f h =
    part-fits t n (within scope v (placed (place_in scope n t))) (λ y. f (y_loop v t y))
    (λ x k.
    let other : v ≡ x → ⊥ = (λ e. f (y_here v t (subst⁻¹ (λ (z : ℕ). Naked z t) e k))) in
    subst⁻¹ Fits (within-other scope v (placed (place_in scope n t)) x other) (h x (n_loop v t (λ e. other (sym e)) k)))
part-fits (name v) n scope f h = h v n_name

-- ---- the list of places

within-fits : (scope : Scope) (v : ℕ) (s : Sense) → Fits s → ((x : ℕ) → Fits (scope x)) → (x : ℕ) → Fits (within scope v s x)
within-fits scope v s f h x =
    ⊎_elim (λ e. subst⁻¹ Fits (within_same scope v s x e) f) (λ d. subst⁻¹ Fits (within-other scope v s x d) (h x)) (same-or-other v x)

-- the places of two sides, and one behind them
sides-fit : (a b : List Sense) (x s : Sense) → (Memᴰ s a → Fits s) → (Memᴰ s b → Fits s) → Fits x
    → Memᴰ s (a ++ (b ++ (x ∷ []))) → Fits s
sides-fit a b x s f g h m =
    ⊎_elim f (λ i. ⊎_elim g (λ q. subst⁻¹ Fits (Memᴰ.eq_of_singleton q) h) (Memᴰ.append_cases b i)) (Memᴰ.append_cases a m)

list-fits : (t : Term) (n : ℕ) (scope : Scope) → (Faulty t → ⊥) → ((v : ℕ) → Fits (scope v)) → (s : Sense)
    → Memᴰ s (senses_in scope n t) → Fits s
unfolding senses_in
list-fits end n scope f h s = λ m. absurd (Memᴰ.not-nil m)
list-fits (before j t) n scope f h s =
    sides-fit (senses_in scope n t) [] (sense_in scope n (before j t)) s (list-fits t n scope (λ y. f (y_before j t y)) h s)
    (λ m. absurd (Memᴰ.not-nil m)) (before-fits j t n scope)
list-fits (plus t u) n scope f h s =
    sides-fit (senses_in scope n t) (senses_in scope (n + size_of t) u) (sense_in scope n (plus t u)) s
    (list-fits t n scope (λ y. f (y_plus_left t u y)) h s)
    (list-fits u (n + size_of t) scope (λ y. f (y_plus_right t u y)) h s)
    (part-fits (plus t u) n scope f (λ v k. h v))
list-fits (inner t u) n scope f h s =
    sides-fit (senses_in scope n t) (senses_in scope (n + size_of t) u) (sense_in scope n (inner t u)) s
    (list-fits t n scope (λ y. f (y_inner_left t u y)) h s)
    (list-fits u (n + size_of t) scope (λ y. f (y_inner_right t u y)) h s)
    (part-fits (inner t u) n scope f (λ v k. h v))
list-fits (loop v t) n scope f h s =
    let own = sense_in scope n (loop v t) in
    list-fits t n (within scope v own) (λ y. f (y_loop v t y))
    (within-fits scope v own (part-fits (loop v t) n scope f (λ x k. h x)) h) s
list-fits (name v) n scope f h s = λ m. absurd (Memᴰ.not-nil m)

-- the end is one of the list as well, and what variables mean before any has a meaning
pub place-fits : (root : Term) → (Faulty root → ⊥) → (p : ℕ) → p < length (places_of root) → Fits (sense_at (places_of root) p)
unfolding sense_at places_of no_scope
place-fits root f p h =
    ⊎_elim (λ e. subst⁻¹ Fits e end_fits)
    (list-fits root 0 no_scope f (λ v. end_fits) (sense_at (places_of root) p))
    (Memᴰ.cases_cons (get_d_mem (places_of root) p the_end h))
