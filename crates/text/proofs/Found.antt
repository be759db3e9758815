-- What the parser reads is a text within the depth, and where it fails, what it has read is the beginning of one.
-- Assumes nothing.
use mathlib.Core.Path.{◌≡◌, refl, ap, sym, subst, subst⁻¹, ◌∙◌}
use mathlib.Core.Bool.{◌&&◌}
use mathlib.Core.Option.{Option, none, some, none-ne-some, some-injective}
use mathlib.Core.List.{List, [], ◌∷◌, ◌++◌, append_assoc}
use Prim.Native.Nat.{ℕ, zero, suc, ◌+◌, ◌-◌, ◌≤◌}
use native.Mathlib.Omega.{arith}
use lib.Dec.{eqb, leb, eqb→eq, leb→le}
use Rattle.model.proofs.Lists.{cond-some, and_both}
use Rattle.text.specs.Grammar.{
  Spelled,
  takes,
  sends,
  Tree,
  nought,
  bare,
  dotted,
  summed,
  chosen,
  bound,
  bracket,
  Level,
  tight,
  sums,
  whole,
  Derives,
  d_nought,
  d_variable,
  d_bare,
  d_dotted,
  d_bound,
  d_bracket,
  d_one,
  d_summed,
  d_only,
  d_chosen,
  depth_of,
}
use Rattle.text.specs.Parser.{
  Parse,
  failed,
  parsed,
  and_then,
  choose,
  one_of,
  after,
  expects,
  chain,
  sums_of,
  whole_of,
  leaf,
  acted,
  sent,
  bracketed,
  looped,
  step,
  tight_at,
}

-- ---- what an answer says

-- before what is left stands a text of this tree, on a level and within a depth
abbrev pub Found : Level → ℕ → List ℕ → Tree → List ℕ → Type 0
Found l d s t r = (x : List ℕ) × (s ≡ x ++ r) × Derives l t x × (depth_of t ≤ d)

-- before what is left stands the beginning of a text
abbrev pub Begun : Level → ℕ → List ℕ → List ℕ → Type 0
Begun l d s r = (x : List ℕ) × (s ≡ x ++ r) × (y : List ℕ) × (t : Tree) × Derives l t (x ++ y) × (depth_of t ≤ d)

-- an answer for these bytes is right
abbrev pub Right : Level → ℕ → List ℕ → Parse → Type 0
Right l d s (failed r) = Begun l d s r
Right l d s (parsed t r) = Found l d s t r

-- ---- single bytes

-- the byte that was asked for
pub after-some : (c : ℕ) (s r : List ℕ) → after c s ≡ some r → s ≡ c ∷ r
unfolding after
after-some c [] r e = absurd (none-ne-some r e)
after-some c (b ∷ s) r e =
    let w = cond-some (eqb c b) (some s) r e in
    ap (λ x. x ∷ s) (sym (eqb→eq c b w.0)) ∙ ap (λ x. c ∷ x) (some-injective s r w.1)

-- one of those that were asked for
pub one-of-some : (low span : ℕ) (s : List ℕ) (w : ℕ × List ℕ) → one_of low span s ≡ some w
    → (s ≡ (low + w.0) ∷ w.1) × (w.0 ≤ span)
unfolding one_of
one-of-some low span [] w e = absurd (none-ne-some w e)
one-of-some low span (b ∷ s) w e =
    let v = cond-some (leb low b && leb b (low + span)) (some (b - low, s)) w e in
    let g = and_both (leb low b) (leb b (low + span)) v.0 in
    let l = leb→le low b g.0 in
    let h = leb→le b (low + span) g.1 in
    let q = some-injective (b - low, s) w v.1 in
    let q0 : b - low ≡ w.0 = ap (λ (x : ℕ × List ℕ). x.0) q in
    let q1 : s ≡ w.1 = ap (λ (x : ℕ × List ℕ). x.1) q in
    let z : b ≡ low + w.0 = omega (arith, l, q0) in
    (ap (λ x. x ∷ s) z ∙ ap (λ x. (low + w.0) ∷ x) q1, omega (arith, l, h, q0))

-- ---- answers put together

-- a choice is right if both ways are
right-choose : {A : Type 0} (l : Level) (d : ℕ) (s : List ℕ) (o : Option A) (f : A → Parse) (e : Parse)
    → ((x : A) → o ≡ some x → Right l d s (f x)) → Right l d s e → Right l d s (choose o f e)
unfolding choose
right-choose l d s none f e g h = h
right-choose l d s (some x) f e g h = g x refl

-- Bytes z were read, and a part m follows. If z and a text of a part make up a whole one, then a failing part leaves the beginning of
-- a whole, and behind a part that was read it goes on.
right-then : (l l' : Level) (d d' : ℕ) (s z m : List ℕ) (g : Tree → Tree) (a : Parse) (f : Tree → List ℕ → Parse) → s ≡ z ++ m
    → ((t : Tree) (v : List ℕ) → Derives l t v → Derives l' (g t) (z ++ v)) → ((t : Tree) → depth_of t ≤ d → depth_of (g t) ≤ d')
    → Right l d m a → ((t : Tree) (r : List ℕ) → Found l' d' s (g t) r → Right l' d' s (f t r)) → Right l' d' s (and_then a f)
unfolding and_then
right-then l l' d d' s z m g (failed r) f e wrap deep h k = (
  z ++ h.0,
  e ∙ ap (λ m. z ++ m) h.1 ∙ sym (append_assoc z h.0 r),
  h.2,
  g h.3,
  subst⁻¹ (λ v. Derives l' (g h.3) v) (append_assoc z h.0 h.2) (wrap h.3 (h.0 ++ h.2) h.4),
  deep h.3 h.5,
)
right-then l l' d d' s z m g (parsed t r) f e wrap deep h k =
    k t r (
      z ++ h.0,
      e ∙ ap (λ m. z ++ m) h.1 ∙ sym (append_assoc z h.0 r),
      wrap t h.0 h.2,
      deep t h.3,
    )

-- bytes that must come, if with them and some more what was read becomes a text
right-expects : (l : Level) (d : ℕ) (s z m w y : List ℕ) (t : Tree) (f : List ℕ → Parse) → s ≡ z ++ m → Derives l t (z ++ (w ++ y))
    → depth_of t ≤ d → ((r : List ℕ) → m ≡ w ++ r → Right l d s (f r)) → Right l d s (expects w f m)
unfolding expects
right-expects l d s z m [] y t f e g h k = k m refl
right-expects l d s z m (c ∷ w) y t f e g h k =
    right-choose l d s (after c m) (expects w f) (failed m)
    (λ r i.
    let is = after-some c m r i in
    right-expects l d s (z ++ (c ∷ [])) r w y t f (e ∙ ap (λ m. z ++ m) is ∙ sym (append_assoc z (c ∷ []) r))
    (subst⁻¹ (λ v. Derives l t v) (append_assoc z (c ∷ []) (w ++ y)) g) h (λ r' j. k r' (is ∙ ap (λ r. c ∷ r) j)))
    (z, e, (c ∷ w) ++ y, t, g, h)

-- Items of level l behind a separator, joined to a tree of level L.
module _ (first : ℕ) (more : List ℕ) (item : List ℕ → Parse) (join : Tree → Tree → Tree) (l L : Level) (d : ℕ) (s : List ℕ)
    (items : (m : List ℕ) → Right l d m (item m)) (least : Derives l nought (48 ∷ []))
    (joins : (t u : Tree) (x y : List ℕ) → Derives L t x → Derives l u y → Derives L (join t u) (x ++ ((first ∷ more) ++ y)))
    (deep : (t u : Tree) → depth_of t ≤ d → depth_of u ≤ d → depth_of (join t u) ≤ d) where
  right-chain : (n : ℕ) (t : Tree) (r : List ℕ) → Found L d s t r → Right L d s (chain first more item join n t r)
  unfolding chain depth_of
  right-chain zero t r h = h
  right-chain (suc n) t r h =
      right-choose L d s (after first r) _ (parsed t r)
      (λ m e.
      let is : s ≡ h.0 ++ (first ∷ m) = h.1 ∙ ap (λ r. h.0 ++ r) (after-some first r m e) in
      right-expects L d s (h.0 ++ (first ∷ [])) m more (48 ∷ []) (join t nought) _
      (is ∙ sym (append_assoc h.0 (first ∷ []) m))
      (subst⁻¹ (λ v. Derives L (join t nought) v) (append_assoc h.0 (first ∷ []) (more ++ (48 ∷ [])))
      (joins t nought h.0 (48 ∷ []) h.2 least))
      (deep t nought h.3 (omega arith))
      (λ r' j.
      right-then l L d d s (h.0 ++ (first ∷ more)) r' (join t) (item r') (λ u r. chain first more item join n (join t u) r)
      (is ∙ ap (λ m. h.0 ++ (first ∷ m)) j ∙ sym (append_assoc h.0 (first ∷ more) r'))
      (λ u v g. subst⁻¹ (λ x. Derives L (join t u) x) (append_assoc h.0 (first ∷ more) v) (joins t u h.0 v h.2 g))
      (λ u g. deep t u h.3 g) (items r') (λ u r g. right-chain n (join t u) r g)))
      h

-- ---- sums and whole texts

module _ (n d : ℕ) (p : List ℕ → Parse) (right : (s : List ℕ) → Right tight d s (p s)) where
  right-sums : (s : List ℕ) → Right sums d s (sums_of n p s)
  unfolding sums_of depth_of
  right-sums s =
      right-then tight sums d d s [] s (λ t. t) (p s) (chain 43 [] p summed n) refl d_one (λ t h. h) (right s)
      (right-chain 43 [] p summed tight sums d s right d_nought d_summed (λ t u h g. omega arith) n)

  pub right-whole : (s : List ℕ) → Right whole d s (whole_of n p s)
  unfolding whole_of depth_of
  right-whole s =
      right-then sums whole d d s [] s (λ t. t) (sums_of n p s) (chain 40 (43 ∷ 41 ∷ []) (sums_of n p) chosen n) refl d_only (λ t h. h)
      (right-sums s)
      (right-chain 40 (43 ∷ 41 ∷ []) (sums_of n p) chosen sums whole d s right-sums (d_one nought (48 ∷ []) d_nought) d_chosen
      (λ t u h g. omega arith) n)

-- ---- tight ones

-- nothing was read: 0 would do
right-here : (d : ℕ) (s : List ℕ) → Right tight d s (failed s)
unfolding depth_of
right-here d s = ([], refl, 48 ∷ [], nought, d_nought, omega arith)

right-leaf : (d : ℕ) (s : List ℕ) → Right tight d s (leaf s)
unfolding leaf depth_of
right-leaf d s =
    right-choose tight d s (after 48 s) _ _ (λ r e. (48 ∷ [], after-some 48 s r e, d_nought, omega arith))
    (right-choose tight d s (one_of 88 2 s) _ _
    (λ w e.
    let v = one-of-some 88 2 s w e in
    ((88 + w.0) ∷ [], v.0, d_variable w.0 v.1, omega arith))
    (right-here d s))

module _ (d : ℕ) (p q : List ℕ → Parse) (rightp : (s : List ℕ) → Right tight d s (p s)) (rightq : (s : List ℕ) → Right whole d s (q s)) where
  -- an action was read
  right-acted : (j : ℕ) (s x m : List ℕ) → s ≡ x ++ m → Spelled j x → Right tight (suc d) s (acted p q j m)
  unfolding acted depth_of
  right-acted j s x m e h =
      right-choose tight (suc d) s (after 46 m) _ _
      (λ r i.
      right-then tight tight d (suc d) s (x ++ (46 ∷ [])) r (dotted j) (p r) (λ t r. parsed (dotted j t) r)
      (e ∙ ap (λ m. x ++ m) (after-some 46 m r i) ∙ sym (append_assoc x (46 ∷ []) r))
      (λ t v g. subst⁻¹ (λ v. Derives tight (dotted j t) v) (append_assoc x (46 ∷ []) v) (d_dotted j t x v h g))
      (λ t g. omega (arith, g)) (rightp r) (λ t r g. g))
      (x, e, d_bare j x h, omega arith)

  -- ! was read
  right-sent : (s m : List ℕ) → s ≡ 33 ∷ m → Right tight (suc d) s (sent p q m)
  unfolding sent depth_of
  right-sent s m e =
      right-choose tight (suc d) s (one_of 97 6 m) _ _
      (λ w i.
      let v = one-of-some 97 6 m w i in
      right-acted (7 + w.0) s (33 ∷ (97 + w.0) ∷ []) w.1 (e ∙ ap (λ m. 33 ∷ m) v.0) (sends w.0 v.1))
      (33 ∷ [], e, 97 ∷ [], bare 7, d_bare 7 (33 ∷ 97 ∷ []) (sends 0 (omega arith)), omega arith)

  -- ( was read
  right-bracketed : (s m : List ℕ) → s ≡ 40 ∷ m → Right tight (suc d) s (bracketed p q m)
  unfolding bracketed depth_of and_then
  right-bracketed s m e = go (q m) (rightq m)
    where
      go : (a : Parse) → Right whole d m a → Right tight (suc d) s (and_then a (λ t. expects (41 ∷ []) (parsed (bracket t))))
      go (failed r) h = (
        40 ∷ h.0,
        e ∙ ap (λ m. 40 ∷ m) h.1,
        h.2 ++ (41 ∷ []),
        bracket h.3,
        subst (λ v. Derives tight (bracket h.3) (40 ∷ v)) (append_assoc h.0 h.2 (41 ∷ [])) (d_bracket h.3 (h.0 ++ h.2) h.4),
        omega (arith, h.5),
      )
      go (parsed t r) h =
          right-expects tight (suc d) s (40 ∷ h.0) r (41 ∷ []) [] (bracket t) (parsed (bracket t)) (e ∙ ap (λ m. 40 ∷ m) h.1)
          (d_bracket t h.0 h.2) (omega (arith, h.3))
          (λ r' j. (
            40 ∷ (h.0 ++ (41 ∷ [])),
            e ∙ ap (λ m. 40 ∷ m) (h.1 ∙ ap (λ r. h.0 ++ r) j ∙ sym (append_assoc h.0 (41 ∷ []) r')),
            d_bracket t h.0 h.2,
            omega (arith, h.3),
          ))

  -- rec was read
  right-looped : (s m : List ℕ) → s ≡ 114 ∷ 101 ∷ 99 ∷ m → Right tight (suc d) s (looped p q m)
  unfolding looped depth_of
  right-looped s m e =
      right-choose tight (suc d) s (one_of 88 2 m) _ _
      (λ w i.
      let v = one-of-some 88 2 m w i in
      let is : s ≡ 114 ∷ 101 ∷ 99 ∷ (88 + w.0) ∷ w.1 = e ∙ ap (λ m. 114 ∷ 101 ∷ 99 ∷ m) v.0 in
      right-expects tight (suc d) s (114 ∷ 101 ∷ 99 ∷ (88 + w.0) ∷ []) w.1 (46 ∷ []) (48 ∷ []) (bound w.0 nought) _ is
      (d_bound w.0 nought (48 ∷ []) v.1 d_nought) (omega arith)
      (λ r j.
      right-then tight tight d (suc d) s (114 ∷ 101 ∷ 99 ∷ (88 + w.0) ∷ 46 ∷ []) r (bound w.0) (p r) (λ t r. parsed (bound w.0 t) r)
      (is ∙ ap (λ m. 114 ∷ 101 ∷ 99 ∷ (88 + w.0) ∷ m) j) (λ t y g. d_bound w.0 t y v.1 g) (λ t g. omega (arith, g)) (rightp r)
      (λ t r g. g))) (
        114 ∷ 101 ∷ 99 ∷ [],
        e,
        88 ∷ 46 ∷ 48 ∷ [],
        bound 0 nought,
        d_bound 0 nought (48 ∷ []) (omega arith) d_nought,
        omega arith,
      )

  right-step : (s : List ℕ) → Right tight (suc d) s (step p q s)
  unfolding step depth_of
  right-step s =
      right-choose tight (suc d) s (one_of 97 6 s) _ _
      (λ w e. let v = one-of-some 97 6 s w e in right-acted w.0 s ((97 + w.0) ∷ []) w.1 v.0 (takes w.0 v.1))
      (right-choose tight (suc d) s (after 33 s) _ _ (λ m e. right-sent s m (after-some 33 s m e))
      (right-choose tight (suc d) s (after 40 s) _ _ (λ m e. right-bracketed s m (after-some 40 s m e))
      (right-choose tight (suc d) s (after 114 s) _ _
      (λ m e.
      let is = after-some 114 s m e in
      right-expects tight (suc d) s (114 ∷ []) m (101 ∷ 99 ∷ []) (88 ∷ 46 ∷ 48 ∷ []) (bound 0 nought) _ is
      (d_bound 0 nought (48 ∷ []) (omega arith) d_nought) (omega arith)
      (λ r j. right-looped s r (is ∙ ap (λ m. 114 ∷ m) j)))
      (right-leaf (suc d) s))))

pub right-tight : (n d : ℕ) (s : List ℕ) → Right tight d s (tight_at n d s)
unfolding tight_at
right-tight n zero s = right-leaf 0 s
right-tight n (suc d) s =
    right-step d (tight_at n d) (whole_of n (tight_at n d)) (right-tight n d) (right-whole n d (tight_at n d) (right-tight n d)) s
