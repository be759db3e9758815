-- Laws of tests and of the functions on lists: what each says of the elements, by recursion on the list and by cases on the
-- test.
-- Assumes nothing.
use mathlib.Core.Path.{◌≡◌, refl, sym, ap, subst, subst⁻¹, ◌∙◌}
use mathlib.Core.Bool.{Bool, true, false, not, ◌&&◌, ◌||◌, cond, false≢true}
use mathlib.Core.Logic.{◌⊎◌, inl, inr, ⊎_elim}
use mathlib.Core.Option.{Option, none, some, some-injective, none-ne-some, bind}
use mathlib.Core.List.Memᴰ
use mathlib.Core.List.{List, [], ◌∷◌, ◌++◌, map, Memᴰ}
use Prim.Native.Nat.{ℕ, zero, suc, ◌+◌, ◌*◌, ◌≤◌, ◌<◌}
use native.Mathlib.Omega.{arith}
use native.Mathlib.Nat.{suc-mul, zero-mul}
use lib.ListN.{length, get_or, length-append, length-map}
use lib.Dec.{T, ltb, leb-suc-suc}
use borrow.Author.Tests.{lt-ltb}
use Rattle.model.specs.Lists.{any, all, keep, place, combine, through}

-- ---- tests

pub or_cases : (a b : Bool) → T (a || b) → T a ⊎ T b
or_cases true b t = inl tt
or_cases false b t = inr t

pub or_left : (a b : Bool) → T a → T (a || b)
or_left true b t = tt
or_left false b t = absurd t

pub or_right : (a b : Bool) → T b → T (a || b)
or_right true b t = tt
or_right false b t = t

pub and_both : (a b : Bool) → T (a && b) → T a × T b
and_both true b t = (tt, t)
and_both false b t = absurd t

pub and-of : (a b : Bool) → T a → T b → T (a && b)
and-of true b s t = t
and-of false b s t = absurd s

-- the same of tests as equations
pub both_true : (a b : Bool) → (a && b) ≡ true → (a ≡ true) × (b ≡ true)
both_true true b e = (refl, e)
both_true false b e = absurd (false≢true e)

pub is_true : (b : Bool) → T b → b ≡ true
is_true true t = refl
is_true false t = absurd t

-- two tests with one answer
pub test-alike : (a b : Bool) → (T a → T b) → (T b → T a) → a ≡ b
test-alike true true f g = refl
test-alike true false f g = absurd (f tt)
test-alike false true f g = absurd (g tt)
test-alike false false f g = refl

pub dec-T : (b : Bool) → T b ⊎ (T b → ⊥)
dec-T true = inl tt
dec-T false = inr (λ t. t)

pub cond-some : {A : Type 0} (a : Bool) (o : Option A) (x : A) → cond a o none ≡ some x → T a × (o ≡ some x)
cond-some true o x e = (tt, e)
cond-some false o x e = absurd (none-ne-some x e)

pub bind-some : {A B : Type 0} (o : Option A) (f : A → Option B) (y : B) → bind o f ≡ some y → (x : A) × (o ≡ some x) × (f x ≡ some y)
unfolding bind
bind-some none f y e = absurd (none-ne-some y e)
bind-some (some x) f y e = (x, refl, e)

pub cond_yes : {A : Type 0} (a : Bool) (x y : A) → T a → cond a x y ≡ x
cond_yes true x y t = refl
cond_yes false x y t = absurd t

pub cond_no : {A : Type 0} (a : Bool) (x y : A) → (T a → ⊥) → cond a x y ≡ y
cond_no true x y t = absurd (t tt)
cond_no false x y t = refl

-- a test that is only asked where another passes
pub if-elim : (a b : Bool) → T (cond a b true) → T a → T b
if-elim true b t h = t
if-elim false b t h = absurd h

pub if-intro : (a b : Bool) → (T a → T b) → T (cond a b true)
if-intro true b f = f tt
if-intro false b f = tt

pub not-elim : (b : Bool) → T (not b) → T b → ⊥
not-elim true t s = t
not-elim false t s = s

pub not-intro : (b : Bool) → (T b → ⊥) → T (not b)
not-intro true f = f tt
not-intro false f = tt

-- ---- `any` and `all`

module _ {A : Type 0} where
  pub any-intro : (p : A → Bool) {x : A} {l : List A} → Memᴰ x l → T (p x) → T (any p l)
  unfolding any
  any-intro p (Memᴰ.head {x = y} {xs = ys} e) t = or_left (p y) (any p ys) (subst (λ (z : A). T (p z)) e t)
  any-intro p (Memᴰ.tail {x = y} {xs = ys} m) t = or_right (p y) (any p ys) (any-intro p m t)

  pub any-elim : (p : A → Bool) (l : List A) → T (any p l) → (x : A) × Memᴰ x l × T (p x)
  unfolding any
  any-elim p [] t = absurd t
  any-elim p (y ∷ ys) t = go (or_cases (p y) (any p ys) t) (any-elim p ys)
    where
      go : T (p y) ⊎ T (any p ys) → (T (any p ys) → (x : A) × Memᴰ x ys × T (p x)) → (x : A) × Memᴰ x (y ∷ ys) × T (p x)
      go (inl h) r = (y, Memᴰ.head refl, h)
      go (inr h) r = (let w = r h in (w.0, Memᴰ.tail w.1, w.2))

  pub all-elim : (p : A → Bool) {x : A} {l : List A} → Memᴰ x l → T (all p l) → T (p x)
  unfolding all
  all-elim p (Memᴰ.head {x = y} {xs = ys} e) t = subst⁻¹ (λ (z : A). T (p z)) e (and_both (p y) (all p ys) t).0
  all-elim p (Memᴰ.tail {x = y} {xs = ys} m) t = all-elim p m (and_both (p y) (all p ys) t).1

  pub all-intro : (p : A → Bool) (l : List A) → ((x : A) → Memᴰ x l → T (p x)) → T (all p l)
  unfolding all
  all-intro p [] h = tt
  all-intro p (y ∷ ys) h =
      and-of (p y) (all p ys) (h y (Memᴰ.head refl)) (all-intro p ys (λ x m. h x (Memᴰ.tail m)))

  -- where not all pass, one fails
  pub all-fails : (p : A → Bool) (l : List A) → (T (all p l) → ⊥) → (x : A) × Memᴰ x l × (T (p x) → ⊥)
  unfolding all
  all-fails p [] f = absurd (f tt)
  all-fails p (y ∷ ys) f =
      ⊎_elim (λ t. let w = all-fails p ys (λ u. f (and-of (p y) (all p ys) t u)) in (w.0, Memᴰ.tail w.1, w.2))
      (λ t. (y, Memᴰ.head refl, t)) (dec-T (p y))

  -- a step of `keep`, by its test
  keep-yes : (p : A → Bool) (y : A) (ys : List A) → T (p y) → keep p (y ∷ ys) ≡ y ∷ keep p ys
  unfolding keep
  keep-yes p y ys t = go (p y) t
    where
      go : (b : Bool) → T b → cond b (y ∷ keep p ys) (keep p ys) ≡ y ∷ keep p ys
      go true h = refl
      go false h = absurd h

  keep-no : (p : A → Bool) (y : A) (ys : List A) → (T (p y) → ⊥) → keep p (y ∷ ys) ≡ keep p ys
  unfolding keep
  keep-no p y ys t = go (p y) t
    where
      go : (b : Bool) → (T b → ⊥) → cond b (y ∷ keep p ys) (keep p ys) ≡ keep p ys
      go true h = absurd (h tt)
      go false h = refl

-- ---- `keep`

module _ {A : Type 0} (p : A → Bool) where
  pub keep-intro : {x : A} {l : List A} → Memᴰ x l → T (p x) → Memᴰ x (keep p l)
  keep-intro (Memᴰ.head {x = y} {xs = ys} e) t =
      rw (keep-yes p y ys (subst (λ (z : A). T (p z)) e t)) (Memᴰ.head e)
  keep-intro {x} (Memᴰ.tail {x = y} {xs = ys} m) t = go (dec-T (p y)) (keep-intro m t)
    where
      go : T (p y) ⊎ (T (p y) → ⊥) → Memᴰ x (keep p ys) → Memᴰ x (keep p (y ∷ ys))
      go (inl h) r = rw (keep-yes p y ys h) (Memᴰ.tail r)
      go (inr h) r = rw (keep-no p y ys h) r

  pub keep-elim : (x : A) (l : List A) → Memᴰ x (keep p l) → Memᴰ x l × T (p x)
  unfolding keep
  keep-elim x [] m = absurd (Memᴰ.not-nil m)
  keep-elim x (y ∷ ys) m = go (p y) refl m (keep-elim x ys)
    where
      later : Memᴰ x ys × T (p x) → Memᴰ x (y ∷ ys) × T (p x)
      later w = (Memᴰ.tail w.0, w.1)

      split : p y ≡ true → (x ≡ y) ⊎ Memᴰ x (keep p ys) → (Memᴰ x (keep p ys) → Memᴰ x ys × T (p x)) → Memᴰ x (y ∷ ys) × T (p x)
      split e (inl q) r = (Memᴰ.head q, rw (q, e) tt)
      split e (inr q) r = later (r q)

      go : (b : Bool) → p y ≡ b → Memᴰ x (cond b (y ∷ keep p ys) (keep p ys)) → (Memᴰ x (keep p ys) → Memᴰ x ys × T (p x)) → Memᴰ x (y ∷ ys) × T (p x)
      go true e q r = split e (Memᴰ.cases_cons q) r
      go false e q r = later (r q)

  pub keep-length : (l : List A) → length (keep p l) ≤ length l
  unfolding keep
  keep-length [] = omega arith
  keep-length (y ∷ ys) = go (dec-T (p y)) (keep-length ys)
    where
      go : T (p y) ⊎ (T (p y) → ⊥) → length (keep p ys) ≤ length ys → length (keep p (y ∷ ys)) ≤ suc (length ys)
      go (inl h) r = rw (keep-yes p y ys h) (omega arith)
      go (inr h) r = rw (keep-no p y ys h) (omega arith)

  -- nothing was removed: every element passes, and the list is the same
  pub keep-whole : (l : List A) → length l ≤ length (keep p l) → (x : A) → Memᴰ x l → T (p x)
  keep-whole [] e x m = absurd (Memᴰ.not-nil m)
  keep-whole (y ∷ ys) e x m = go (dec-T (p y)) (keep-length ys) (keep-whole ys) (Memᴰ.cases_cons m)
    where
      go : T (p y) ⊎ (T (p y) → ⊥) → length (keep p ys) ≤ length ys
          → (length ys ≤ length (keep p ys) → (z : A) → Memᴰ z ys → T (p z)) → (x ≡ y) ⊎ Memᴰ x ys → T (p x)
      go (inl h) b r (inl q) = rw q h
      go (inl h) b r (inr q) =
          let e' : length (y ∷ ys) ≤ length (y ∷ keep p ys) = rw (keep-yes p y ys h) at e in
          r (omega arith) x q
      go (inr h) b r q =
          let e' : length (y ∷ ys) ≤ length (keep p ys) = rw (keep-no p y ys h) at e in
          absurd (omega arith)

module _ {A : Type 0} (p q : A → Bool) (weaker : (x : A) → T (p x) → T (q x)) where
  -- a weaker test keeps as many more of a longer list
  keep-grows-on : (y : A) (ys : List A) (more : ℕ) → more + length (keep p ys) ≤ length (keep q ys) → more + length (keep p (y ∷ ys)) ≤ length (keep q (y ∷ ys))
  keep-grows-on y ys more r = go (dec-T (p y)) (dec-T (q y))
    where
      go : T (p y) ⊎ (T (p y) → ⊥) → T (q y) ⊎ (T (q y) → ⊥) → more + length (keep p (y ∷ ys)) ≤ length (keep q (y ∷ ys))
      go (inl h) (inl k) = rw (keep-yes p y ys h, keep-yes q y ys k) (omega arith)
      go (inl h) (inr k) = absurd (k (weaker y h))
      go (inr h) (inl k) = rw (keep-no p y ys h, keep-yes q y ys k) (omega arith)
      go (inr h) (inr k) = rw (keep-no p y ys h, keep-no q y ys k) r

  -- a weaker test keeps no fewer
  pub keep-grows : (l : List A) → length (keep p l) ≤ length (keep q l)
  unfolding keep
  keep-grows [] = omega arith
  keep-grows (y ∷ ys) = omega (arith, keep-grows-on y ys 0 (omega (arith, keep-grows ys)))

  -- and more, if it alone passes an element
  pub keep-grows-strictly : {x : A} {l : List A} → Memᴰ x l → (T (p x) → ⊥) → T (q x) → length (keep p l) < length (keep q l)
  keep-grows-strictly (Memᴰ.head {x = y} {xs = ys} e) h k =
      rw (keep-no p y ys (subst (λ (z : A). T (p z) → ⊥) e h), keep-yes q y ys (subst (λ (z : A). T (q z)) e k)) (omega (arith, keep-grows ys))
  keep-grows-strictly (Memᴰ.tail {x = y} {xs = ys} m) h k =
      omega (arith, keep-grows-on y ys 1 (omega (arith, keep-grows-strictly m h k)))

module _ {A : Type 0} where
  -- what stands at a place of a list is one of its elements
  pub get_d_mem : (l : List A) (i : ℕ) (d : A) → i < length l → Memᴰ (get_or l i d) l
  get_d_mem [] i d h = absurd (omega arith)
  get_d_mem (x ∷ l) zero d h = Memᴰ.head refl
  get_d_mem (x ∷ l) (suc i) d h = Memᴰ.tail (get_d_mem l i d (omega arith))

module _ {A B : Type 0} (f : A → B) where
  pub get_d_map_in : (l : List A) (i : ℕ) (d : B) (e : A) → i < length l → get_or (map f l) i d ≡ f (get_or l i e)
  get_d_map_in [] i d e h = absurd (omega arith)
  get_d_map_in (x ∷ l) zero d e h = refl
  get_d_map_in (x ∷ l) (suc i) d e h = get_d_map_in l i d e (omega arith)

  pub all_map : (p : B → Bool) (l : List A) → all (λ x. p (f x)) l ≡ all p (map f l)
  unfolding all
  all_map p [] = refl
  all_map p (x ∷ l) = ap (λ (t : Bool). p (f x) && t) (all_map p l)

-- ---- `combine`

module _ {A B C : Type 0} (f : A → B → C) where
  pub combine-intro : {x : A} {y : B} {xs : List A} {ys : List B} → Memᴰ x xs → Memᴰ y ys → Memᴰ (f x y) (combine f xs ys)
  unfolding combine
  combine-intro {y = y} {ys = ys} (Memᴰ.head {x = x} {xs = xs} e) q =
      Memᴰ.append_left (combine f xs ys) (subst⁻¹ (λ (z : A). Memᴰ (f z y) (map (f x) ys)) e (Memᴰ.map (f x) q))
  combine-intro {ys = ys} (Memᴰ.tail {x = x} p) q = Memᴰ.append_right (map (f x) ys) (combine-intro p q)

  pub combine-elim : (z : C) (xs : List A) (ys : List B) → Memᴰ z (combine f xs ys)
      → (x : A) × (y : B) × Memᴰ x xs × Memᴰ y ys × (f x y ≡ z)
  unfolding combine
  combine-elim z [] ys q = absurd (Memᴰ.not-nil q)
  combine-elim z (x ∷ xs) ys q =
      ⊎_elim (λ m. let w = Memᴰ.of_map (f x) ys m in (x, w.0, Memᴰ.head refl, w.1, w.2))
      (λ m. let w = combine-elim z xs ys m in (w.0, w.1, Memᴰ.tail w.2, w.3, w.4))
      (Memᴰ.append_cases (map (f x) ys) q)

  pub combine-length : (xs : List A) (ys : List B) → length (combine f xs ys) ≡ length xs * length ys
  unfolding combine
  combine-length [] ys = omega (arith, zero-mul (length ys))
  combine-length (x ∷ xs) ys =
      omega (
        arith,
        length-append (map (f x) ys) (combine f xs ys),
        length-map ys (f x),
        combine-length xs ys,
        suc-mul (length xs) (length ys),
      )

-- ---- `place`

module _ {A : Type 0} (p : A → Bool) where
  -- an element passes exactly if there is a first place
  pub any_place : (l : List A) → any p l ≡ ltb (place p l) (length l)
  unfolding any place
  any_place [] = refl
  any_place (x ∷ l) = go (p x) (any_place l)
    where
      go : (b : Bool) → any p l ≡ ltb (place p l) (length l) → b || any p l ≡ ltb (cond b zero (suc (place p l))) (suc (length l))
      go true e = sym (lt-ltb zero (suc (length l)) (omega arith))
      go false e = e ∙ sym (leb-suc-suc (suc (place p l)) (length l))

  -- where there is none, no element passes
  pub none_passes : (l : List A) → length l ≤ place p l → (x : A) → Memᴰ x l → p x ≡ false
  unfolding place
  none_passes [] h x m = absurd (Memᴰ.not-nil m)
  none_passes (y ∷ l) h x m = go (p y) refl h (λ c. none_passes l c x)
    where
      go : (passes : Bool) → p y ≡ passes → suc (length l) ≤ cond passes zero (suc (place p l))
          → (length l ≤ place p l → Memᴰ x l → p x ≡ false) → p x ≡ false
      go true e c rest = absurd (omega arith)
      go false e c rest = ⊎_elim (λ same. ap p same ∙ e) (rest (omega arith)) (Memᴰ.cases_cons m)

  -- where there is one, the element there passes, and none before it does
  pub place-passes : (l : List A) (d : A) → place p l < length l → p (get_or l (place p l) d) ≡ true
  unfolding place
  place-passes [] d h = absurd (omega arith)
  place-passes (x ∷ l) d h = go (p x) refl h (place-passes l d)
    where
      go : (passes : Bool) → p x ≡ passes → cond passes zero (suc (place p l)) < suc (length l)
          → (place p l < length l → p (get_or l (place p l) d) ≡ true) → p (get_or (x ∷ l) (cond passes zero (suc (place p l))) d) ≡ true
      go true e h rest = e
      go false e h rest = rest (omega arith)

  pub place-first : (l : List A) (d : A) (i : ℕ) → i < place p l → p (get_or l i d) ≡ false
  unfolding place
  place-first [] d i h = absurd (omega arith)
  place-first (x ∷ l) d zero h = go (p x) refl h
    where
      go : (passes : Bool) → p x ≡ passes → 0 < cond passes zero (suc (place p l)) → p x ≡ false
      go true e h = absurd (omega arith)
      go false e h = e
  place-first (x ∷ l) d (suc i) h = go (p x) h (place-first l d i)
    where
      go : (passes : Bool) → suc i < cond passes zero (suc (place p l)) → (i < place p l → p (get_or l i d) ≡ false) → p (get_or l i d) ≡ false
      go true h rest = absurd (omega arith)
      go false h rest = rest (omega arith)

-- ---- `through`

-- one step more
pub through-more : {A : Type 0} (step : A → ℕ → Option A) (labels : List ℕ) (x y : A) (label : ℕ) → through step x labels ≡ some y
    → through step x (labels ++ label ∷ []) ≡ step y label
unfolding through bind
through-more {A} step [] x y label e = last (step x label) ∙ ap (λ (z : A). step z label) (some-injective x y e)
  where
    last : (o : Option A) → bind o (λ z. some z) ≡ o
    last none = refl
    last (some z) = refl
through-more {A} step (first ∷ labels) x y label e = go (step x first) e (λ z. through-more step labels z y label)
  where
    go : (o : Option A) → bind o (λ z. through step z labels) ≡ some y
        → ((z : A) → through step z labels ≡ some y → through step z (labels ++ label ∷ []) ≡ step y label)
        → bind o (λ z. through step z (labels ++ label ∷ [])) ≡ step y label
    go none e f = absurd (none-ne-some y e)
    go (some z) e f = f z e
