-- The parser finds exactly the texts within the depth, each with its tree, and so no bytes are a text of two trees.
-- Assumes nothing.
use mathlib.Core.Path.{◌≡◌, refl, ap, sym, subst, subst⁻¹, ◌∙◌}
use mathlib.Core.Bool.{◌&&◌}
use mathlib.Core.Option.{Option, none, some, none-ne-some, some-injective}
use mathlib.Core.List.{List, [], ◌∷◌, ◌++◌, append_assoc, append-nil}
use Prim.Native.Nat.{ℕ, zero, suc, ◌+◌, ◌-◌, ◌≤◌, max}
use native.Mathlib.Omega.{arith}
use lib.Dec.{eqb, leb, eqb→eq, leb→le, le→leb}
use lib.ListN.{length, length-append}
use Rattle.model.proofs.Lists.{cond_yes, cond_no, and_both, and-of}
use Rattle.text.specs.Grammar.{
  Spelled,
  takes,
  sends,
  Tree,
  nought,
  bare,
  dotted,
  summed,
  chosen,
  bound,
  variable,
  bracket,
  Level,
  tight,
  sums,
  whole,
  Derives,
  d_nought,
  d_variable,
  d_bare,
  d_dotted,
  d_bound,
  d_bracket,
  d_one,
  d_summed,
  d_only,
  d_chosen,
  Text,
  depth_of,
}
use Rattle.text.specs.Parser.{
  Parse,
  failed,
  parsed,
  and_then,
  choose,
  one_of,
  after,
  expects,
  chain,
  sums_of,
  whole_of,
  leaf,
  acted,
  sent,
  bracketed,
  looped,
  step,
  tight_at,
  ended,
  parse_of,
  tree_in,
  tree_of,
}
use Rattle.text.specs.Promises.{OnlyOne}
use Rattle.text.proofs.Found.{Right, right-whole, right-tight}

-- ---- what is read is a text

pub sound : (d : ℕ) (s : List ℕ) (t : Tree) → tree_of d s ≡ some t → Text t s × (depth_of t ≤ d)
unfolding tree_of parse_of tree_in ended
sound d s t = go (whole_of (length s) (tight_at (length s) d) s) (right-whole (length s) d (tight_at (length s) d) (right-tight (length s) d) s)
  where
    go : (a : Parse) → Right whole d s a → tree_in (ended a) ≡ some t → Text t s × (depth_of t ≤ d)
    go (failed r) h e = absurd (none-ne-some t e)
    go (parsed u []) h e =
        subst (λ t. Text t s × (depth_of t ≤ d)) (some-injective u t e)
        (subst⁻¹ (λ s. Derives whole u s) (h.1 ∙ append-nil h.0) h.2, h.3)
    go (parsed u (b ∷ r)) h e = absurd (none-ne-some t e)

-- what was parsed is the tree
pub read : (d : ℕ) (s r : List ℕ) (t : Tree) → parse_of d s ≡ parsed t r → tree_of d s ≡ some t
unfolding tree_of tree_in
read d s r t e = ap tree_in e

-- ---- single bytes

-- one of those that are asked for
of_one : (low span i : ℕ) (r : List ℕ) → i ≤ span → one_of low span ((low + i) ∷ r) ≡ some (i, r)
unfolding one_of
of_one low span i r h =
    let back : low + i - low ≡ i = omega arith in
    cond_yes (leb low (low + i) && leb (low + i) (low + span)) (some (low + i - low, r)) none
    (and-of (leb low (low + i)) (leb (low + i) (low + span)) (le→leb low (low + i) (omega arith))
    (le→leb (low + i) (low + span) (omega (arith, h))))
    ∙ ap (λ i. some (i, r)) back

-- none of them
not-of : (low span b : ℕ) (r : List ℕ) → (low ≤ b → b ≤ low + span → ⊥) → one_of low span (b ∷ r) ≡ none
unfolding one_of
not-of low span b r f =
    cond_no (leb low b && leb b (low + span)) (some (b - low, r)) none
    (λ t. let g = and_both (leb low b) (leb b (low + span)) t in f (leb→le low b g.0) (leb→le b (low + span) g.1))

-- another byte
not_after : (c b : ℕ) (r : List ℕ) → (c ≡ b → ⊥) → after c (b ∷ r) ≡ none
unfolding after
not_after c b r f = cond_no (eqb c b) (some r) none (λ t. f (eqb→eq c b t))

-- ---- ways to go on

choose-some : {A : Type 0} (o : Option A) (x : A) (f : A → Parse) (e : Parse) → o ≡ some x → choose o f e ≡ f x
unfolding choose
choose-some o x f e h = ap (λ o. choose o f e) h

choose-none : {A : Type 0} (o : Option A) (f : A → Parse) (e : Parse) → o ≡ none → choose o f e ≡ e
unfolding choose
choose-none o f e h = ap (λ o. choose o f e) h

then-parsed : (a : Parse) (t : Tree) (r : List ℕ) (f : Tree → List ℕ → Parse) → a ≡ parsed t r → and_then a f ≡ f t r
unfolding and_then
then-parsed a t r f h = ap (λ a. and_then a f) h

-- no separator follows
chain-stops : (first : ℕ) (more : List ℕ) (item : List ℕ → Parse) (join : Tree → Tree → Tree) (n : ℕ) (t : Tree) (r : List ℕ)
    → after first r ≡ none → chain first more item join n t r ≡ parsed t r
unfolding chain
chain-stops first more item join zero t r h = refl
chain-stops first more item join (suc n) t r h = choose-none (after first r) _ (parsed t r) h

-- + and an item follow
summed-on : (item : List ℕ → Parse) (n : ℕ) (t u : Tree) (m r : List ℕ) → item m ≡ parsed u r
    → chain 43 [] item summed (suc n) t (43 ∷ m) ≡ chain 43 [] item summed n (summed t u) r
unfolding chain choose after expects
summed-on item n t u m r h = then-parsed (item m) u r _ h

-- (+) and an item follow
chosen_on : (item : List ℕ → Parse) (n : ℕ) (t u : Tree) (m r : List ℕ) → item m ≡ parsed u r
    → chain 40 (43 ∷ 41 ∷ []) item chosen (suc n) t (40 ∷ 43 ∷ 41 ∷ m) ≡ chain 40 (43 ∷ 41 ∷ []) item chosen n (chosen t u) r
unfolding chain choose after expects
chosen_on item n t u m r h = then-parsed (item m) u r _ h

-- ---- tight texts

leaf-variable : (v : ℕ) (r : List ℕ) → v ≤ 2 → leaf ((88 + v) ∷ r) ≡ parsed (variable v) r
unfolding leaf
leaf-variable v r h =
    choose-none (after 48 ((88 + v) ∷ r)) _ _ (not_after 48 (88 + v) r (λ e. omega (arith, e, h)))
    ∙ choose-some (one_of 88 2 ((88 + v) ∷ r)) (v, r) _ _ (of_one 88 2 v r h)

leaf-nought : (r : List ℕ) → leaf (48 ∷ r) ≡ parsed nought r
unfolding leaf choose after
leaf-nought r = refl

module _ (p q : List ℕ → Parse) where
  step-variable : (v : ℕ) (r : List ℕ) → v ≤ 2 → step p q ((88 + v) ∷ r) ≡ parsed (variable v) r
  unfolding step
  step-variable v r h =
      choose-none (one_of 97 6 ((88 + v) ∷ r)) _ _ (not-of 97 6 (88 + v) r (λ a b. omega (arith, a, b, h)))
      ∙ choose-none (after 33 ((88 + v) ∷ r)) _ _ (not_after 33 (88 + v) r (λ e. omega (arith, e, h)))
      ∙ choose-none (after 40 ((88 + v) ∷ r)) _ _ (not_after 40 (88 + v) r (λ e. omega (arith, e, h)))
      ∙ choose-none (after 114 ((88 + v) ∷ r)) _ _ (not_after 114 (88 + v) r (λ e. omega (arith, e, h)))
      ∙ leaf-variable v r h

  step-nought : (r : List ℕ) → step p q (48 ∷ r) ≡ parsed nought r
  unfolding step leaf choose one_of after
  step-nought r = refl

  step-acts : {j : ℕ} {x : List ℕ} → Spelled j x → (r : List ℕ) → step p q (x ++ r) ≡ acted p q j r
  unfolding step sent choose one_of after
  step-acts (takes i h) r = choose-some (one_of 97 6 ((97 + i) ∷ r)) (i, r) _ _ (of_one 97 6 i r h)
  step-acts (sends i h) r =
      choose-some (one_of 97 6 ((97 + i) ∷ r)) (i, r) (λ w. acted p q (7 + w.0) w.1) (failed ((97 + i) ∷ r)) (of_one 97 6 i r h)

  acted-bare : (j : ℕ) (r : List ℕ) → after 46 r ≡ none → acted p q j r ≡ parsed (bare j) r
  unfolding acted
  acted-bare j r h = choose-none (after 46 r) _ (parsed (bare j) r) h

  acted-dotted : (j : ℕ) (t : Tree) (m r : List ℕ) → p m ≡ parsed t r → acted p q j (46 ∷ m) ≡ parsed (dotted j t) r
  unfolding acted choose after
  acted-dotted j t m r h = then-parsed (p m) t r _ h

  step-bracket : (t : Tree) (m r : List ℕ) → q m ≡ parsed t (41 ∷ r) → step p q (40 ∷ m) ≡ parsed (bracket t) r
  unfolding step bracketed choose one_of after expects
  step-bracket t m r h = then-parsed (q m) t (41 ∷ r) _ h

  step-bound : (v : ℕ) (t : Tree) (m r : List ℕ) → v ≤ 2 → p m ≡ parsed t r
      → step p q (114 ∷ 101 ∷ 99 ∷ (88 + v) ∷ 46 ∷ m) ≡ parsed (bound v t) r
  unfolding step looped choose one_of after expects
  step-bound v t m r h e =
      choose-some (one_of 88 2 ((88 + v) ∷ 46 ∷ m)) (v, 46 ∷ m) _ (failed ((88 + v) ∷ 46 ∷ m)) (of_one 88 2 v (46 ∷ m) h)
      ∙ then-parsed (p m) t r _ e

-- ---- what is a text is read

module _ (n : ℕ) where
  -- Behind a text on a level stands r, which cannot go on with it. A tight text is read. A chain, with so many items more to go,
  -- comes to its tree after k of them.
  abbrev Claim : Level → Tree → List ℕ → Type 0
  Claim tight t x = (d : ℕ) (r : List ℕ) → depth_of t ≤ d → length x ≤ n → after 46 r ≡ none → tight_at n d (x ++ r) ≡ parsed t r
  Claim sums t x =
      (d : ℕ) (r : List ℕ) → depth_of t ≤ d → length x ≤ n → after 46 r ≡ none
      → (k : ℕ) × (k ≤ length x)
      × ((m all : ℕ) → all ≡ k + m
      → and_then (tight_at n d (x ++ r)) (chain 43 [] (tight_at n d) summed all) ≡ chain 43 [] (tight_at n d) summed m t r)
  Claim whole t x =
      (d : ℕ) (r : List ℕ) → depth_of t ≤ d → length x ≤ n → after 46 r ≡ none → after 43 r ≡ none
      → (k : ℕ) × (k ≤ length x)
      × ((m all : ℕ) → all ≡ k + m
      → and_then (sums_of n (tight_at n d) (x ++ r)) (chain 40 (43 ∷ 41 ∷ []) (sums_of n (tight_at n d)) chosen all)
      ≡ chain 40 (43 ∷ 41 ∷ []) (sums_of n (tight_at n d)) chosen m t r)

  -- no + follows
  settled-sums : (t : Tree) (x : List ℕ) → Claim sums t x → (d : ℕ) (r : List ℕ) → depth_of t ≤ d → length x ≤ n → after 46 r ≡ none
      → after 43 r ≡ none → sums_of n (tight_at n d) (x ++ r) ≡ parsed t r
  unfolding sums_of
  settled-sums t x c d r h l u e =
      let w = c d r h l u in
      w.2 (n - w.0) n (omega (arith, w.1, l)) ∙ chain-stops 43 [] (tight_at n d) summed (n - w.0) t r e

  -- nor (+)
  settled-whole : (t : Tree) (x : List ℕ) → Claim whole t x → (d : ℕ) (r : List ℕ) → depth_of t ≤ d → length x ≤ n → after 46 r ≡ none
      → after 43 r ≡ none → after 40 r ≡ none → whole_of n (tight_at n d) (x ++ r) ≡ parsed t r
  unfolding whole_of
  settled-whole t x c d r h l u e e' =
      let w = c d r h l u e in
      w.2 (n - w.0) n (omega (arith, w.1, l))
      ∙ chain-stops 40 (43 ∷ 41 ∷ []) (sums_of n (tight_at n d)) chosen (n - w.0) t r e'

  -- below a place there is depth to spare
  below : (s : List ℕ) (t : Tree) (r : List ℕ) (k : ℕ)
      → ((d : ℕ) → k ≤ d → step (tight_at n d) (whole_of n (tight_at n d)) s ≡ parsed t r) → (d : ℕ) → suc k ≤ d
      → tight_at n d s ≡ parsed t r
  unfolding tight_at
  below s t r k f zero h = absurd (omega (arith, h))
  below s t r k f (suc d) h = f d (omega (arith, h))

  -- a leaf needs none
  any-depth : (s : List ℕ) (t : Tree) (r : List ℕ) → leaf s ≡ parsed t r → ((p q : List ℕ → Parse) → step p q s ≡ parsed t r) → (d : ℕ)
      → tight_at n d s ≡ parsed t r
  unfolding tight_at
  any-depth s t r e f zero = e
  any-depth s t r e f (suc d) = f (tight_at n d) (whole_of n (tight_at n d))

  claimed : {l : Level} {t : Tree} {x : List ℕ} → Derives l t x → Claim l t x
  unfolding depth_of after
  claimed d_nought = λ d r h l u. any-depth (48 ∷ r) nought r (leaf-nought r) (λ p q. step-nought p q r) d
  claimed (d_variable v h) = λ d r g l u.
      any-depth ((88 + v) ∷ r) (variable v) r (leaf-variable v r h) (λ p q. step-variable p q v r h) d
  claimed (d_bare j x h) = λ d r g l u.
      below (x ++ r) (bare j) r 0
      (λ d k. step-acts (tight_at n d) (whole_of n (tight_at n d)) h r ∙ acted-bare (tight_at n d) (whole_of n (tight_at n d)) j r u) d g
  claimed (d_dotted j t x y h e) = λ d r g l u.
      let c = claimed e in
      let long = simp length-append at l in
      rw (append_assoc x (46 ∷ y) r)
      (below (x ++ (46 ∷ (y ++ r))) (dotted j t) r (depth_of t)
      (λ d k.
      step-acts (tight_at n d) (whole_of n (tight_at n d)) h (46 ∷ (y ++ r))
      ∙ acted-dotted (tight_at n d) (whole_of n (tight_at n d)) j t (y ++ r) r (c d r k (omega (arith, long)) u))
      d g)
  claimed (d_bound v t y h e) = λ d r g l u.
      let c = claimed e in
      below (114 ∷ 101 ∷ 99 ∷ (88 + v) ∷ 46 ∷ (y ++ r)) (bound v t) r (depth_of t)
      (λ d k. step-bound (tight_at n d) (whole_of n (tight_at n d)) v t (y ++ r) r h (c d r k (omega (arith, l)) u)) d g
  claimed (d_bracket t x e) = λ d r g l u.
      let c = claimed e in
      let long = simp length-append at l in
      rw (append_assoc x (41 ∷ []) r)
      (below (40 ∷ (x ++ (41 ∷ r))) (bracket t) r (depth_of t)
      (λ d k.
      step-bracket (tight_at n d) (whole_of n (tight_at n d)) t (x ++ (41 ∷ r)) r
      (settled-whole t x c d (41 ∷ r) k (omega (arith, long)) refl refl refl))
      d g)
  claimed (d_one t x e) = λ d r g l u.
      let c = claimed e in (
        0,
        omega arith,
        λ m all a.
            then-parsed (tight_at n d (x ++ r)) t r _ (c d r g l u)
            ∙ ap (λ m. chain 43 [] (tight_at n d) summed m t r) (omega (arith, a)),
      )
  claimed (d_summed t u x y e f) = λ d r g l v.
      let c = claimed e in
      let c' = claimed f in
      let long = simp length-append at l in
      let w = c d (43 ∷ (y ++ r)) (omega (arith, g)) (omega (arith, long)) refl in (
        suc w.0,
        omega (arith, w.1, length-append x (43 ∷ y)),
        λ k all a.
            rw (append_assoc x (43 ∷ y) r)
            (w.2 (suc k) all (omega (arith, a))
            ∙ summed-on (tight_at n d) k t u (y ++ r) r (c' d r (omega (arith, g)) (omega (arith, long)) v)),
      )
  claimed (d_only t x e) = λ d r g l u e'.
      let c = claimed e in (
        0,
        omega arith,
        λ m all a.
            then-parsed (sums_of n (tight_at n d) (x ++ r)) t r _ (settled-sums t x c d r g l u e')
            ∙ ap (λ m. chain 40 (43 ∷ 41 ∷ []) (sums_of n (tight_at n d)) chosen m t r) (omega (arith, a)),
      )
  claimed (d_chosen t u x y e f) = λ d r g l v e'.
      let c = claimed e in
      let c' = claimed f in
      let long = simp length-append at l in
      let w = c d (40 ∷ 43 ∷ 41 ∷ (y ++ r)) (omega (arith, g)) (omega (arith, long)) refl refl in (
        suc w.0,
        omega (arith, w.1, length-append x (40 ∷ 43 ∷ 41 ∷ y)),
        λ k all a.
            rw (append_assoc x (40 ∷ 43 ∷ 41 ∷ y) r)
            (w.2 (suc k) all (omega (arith, a))
            ∙ chosen_on (sums_of n (tight_at n d)) k t u (y ++ r) r
            (settled-sums u y c' d r (omega (arith, g)) (omega (arith, long)) v e')),
      )

-- a text is parsed, and nothing is left
pub parse-complete : (d : ℕ) (s : List ℕ) (t : Tree) → Text t s → depth_of t ≤ d → parse_of d s ≡ parsed t []
unfolding parse_of ended after
parse-complete d s t e h =
    ap ended
    (subst (λ x. whole_of (length s) (tight_at (length s) d) x ≡ parsed t []) (append-nil s)
    (settled-whole (length s) t s (claimed (length s) e) d [] h (omega arith) refl refl refl))

pub complete : (d : ℕ) (s : List ℕ) (t : Tree) → Text t s → depth_of t ≤ d → tree_of d s ≡ some t
complete d s t e h = read d s [] t (parse-complete d s t e h)

-- deep enough for both trees, the parser finds both
pub only_one : OnlyOne
only_one x t u e f =
    some-injective t u
    (sym (complete (max (depth_of t) (depth_of u)) x t e (omega arith)) ∙ complete (max (depth_of t) (depth_of u)) x u f (omega arith))
