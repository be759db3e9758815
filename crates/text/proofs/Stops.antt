-- A text is refused at the first byte at which no text within the depth goes on, and what stands before it can be completed.
-- Assumes nothing.
use mathlib.Core.Path.{◌≡◌, refl, ap, sym, subst, subst⁻¹, ◌∙◌}
use mathlib.Core.Bool.{Bool, true, false, ◌&&◌, cond}
use mathlib.Core.Option.{none, some}
use mathlib.Core.List.{List, [], ◌∷◌, ◌++◌, append-nil}
use Prim.Native.Nat.{ℕ, zero, suc, ◌+◌, ◌-◌, ◌≤◌, ◌<◌}
use native.Mathlib.Omega.{arith}
use lib.Dec.{eqb, leb}
use lib.ListN.{length, length-append}
use Rattle.text.specs.Grammar.{Tree, nought, bare, dotted, summed, chosen, bound, variable, bracket, whole, Derives, Text, depth_of}
use Rattle.text.specs.Parser.{
  Parse,
  failed,
  parsed,
  and_then,
  choose,
  one_of,
  after,
  expects,
  chain,
  sums_of,
  whole_of,
  leaf,
  acted,
  sent,
  bracketed,
  looped,
  step,
  tight_at,
  ended,
  parse_of,
}
use Rattle.text.proofs.Found.{Begun, Right, right-whole, right-tight}
use Rattle.text.proofs.Parse.{parse-complete}

-- ---- what is left

-- what an answer leaves
unfoldable left_of : Parse → List ℕ
left_of (failed r) = r
left_of (parsed t r) = r

-- a parser leaves no more than it got
abbrev Shrinks : (List ℕ → Parse) → Type 0
Shrinks f = (s : List ℕ) → length (left_of (f s)) ≤ length s

-- behind an answer that leaves at most k bytes no more than k are left
left-then : (k : ℕ) (f : Tree → List ℕ → Parse) → ((t : Tree) → Shrinks (f t)) → (a : Parse) → length (left_of a) ≤ k
    → length (left_of (and_then a f)) ≤ k
unfolding left_of and_then
left-then k f g (failed r) h = h
left-then k f g (parsed t r) h = omega (arith, g t r, h)

shrinks-then : (p : List ℕ → Parse) (f : Tree → List ℕ → Parse) → Shrinks p → ((t : Tree) → Shrinks (f t))
    → Shrinks (λ s. and_then (p s) f)
shrinks-then p f h g s = left-then (length s) f g (p s) (h s)

shrinks-after : (c : ℕ) (f e : List ℕ → Parse) → Shrinks f → Shrinks e → Shrinks (λ s. choose (after c s) f (e s))
unfolding choose after
shrinks-after c f e h g [] = g []
shrinks-after c f e h g (b ∷ s) = go (eqb c b)
  where
    go : (test : Bool) → length (left_of (choose (cond test (some s) none) f (e (b ∷ s)))) ≤ length (b ∷ s)
    go true = omega (arith, h s)
    go false = g (b ∷ s)

shrinks-one-of : (low span : ℕ) (f : ℕ → List ℕ → Parse) (e : List ℕ → Parse) → ((i : ℕ) → Shrinks (f i)) → Shrinks e
    → Shrinks (λ s. choose (one_of low span s) (λ w. f w.0 w.1) (e s))
unfolding choose one_of
shrinks-one-of low span f e h g [] = g []
shrinks-one-of low span f e h g (b ∷ s) = go (leb low b && leb b (low + span))
  where
    go : (test : Bool)
        → length (left_of (choose (cond test (some (b - low, s)) none) (λ (w : ℕ × List ℕ). f w.0 w.1) (e (b ∷ s)))) ≤ length (b ∷ s)
    go true = omega (arith, h (b - low) s)
    go false = g (b ∷ s)

shrinks-failed : Shrinks failed
unfolding left_of
shrinks-failed s = omega arith

shrinks-parsed : (t : Tree) → Shrinks (parsed t)
unfolding left_of
shrinks-parsed t s = omega arith

shrinks-expects : (v : List ℕ) (f : List ℕ → Parse) → Shrinks f → Shrinks (expects v f)
unfolding expects
shrinks-expects [] f h = h
shrinks-expects (c ∷ v) f h = shrinks-after c (expects v f) failed (shrinks-expects v f h) shrinks-failed

shrinks-chain : (first : ℕ) (more : List ℕ) (item : List ℕ → Parse) (join : Tree → Tree → Tree) → Shrinks item → (k : ℕ) (t : Tree)
    → Shrinks (chain first more item join k t)
unfolding chain
shrinks-chain first more item join h zero t = shrinks-parsed t
shrinks-chain first more item join h (suc k) t =
    shrinks-after first _ (parsed t)
    (shrinks-expects more _ (shrinks-then item _ h (λ u. shrinks-chain first more item join h k (join t u)))) (shrinks-parsed t)

-- ---- two texts that begin alike

-- Two texts with the same bytes up to a byte b, which is followed by w in one and by w' in the other. A parser that has not read b
-- cannot tell them apart.
data Twin (b : ℕ) (w w' : List ℕ) : List ℕ → List ℕ → Type 0 where
  fork : Twin b w w' (b ∷ w) (b ∷ w')
  common : (c : ℕ) (s s' : List ℕ) → Twin b w w' s s' → Twin b w w' (c ∷ s) (c ∷ s')

-- the same answer for both texts, with b still in what is left; or b was read
data Alike (b : ℕ) (w w' : List ℕ) : Parse → Parse → Type 0 where
  both-failed : (r r' : List ℕ) → Twin b w w' r r' → Alike b w w' (failed r) (failed r')
  both-parsed : (t : Tree) (r r' : List ℕ) → Twin b w w' r r' → Alike b w w' (parsed t r) (parsed t r')
  beyond : (a a' : Parse) → length (left_of a) ≤ length w → Alike b w w' a a'

-- two parsers answer alike for texts of at most n bytes
record Along (b : ℕ) (w w' : List ℕ) (n : ℕ) (f f' : List ℕ → Parse) : Type 0 where
  shrinks : Shrinks f
  alike : (s s' : List ℕ) → Twin b w w' s s' → length s ≤ n → Alike b w w' (f s) (f' s')

twin-long : {b : ℕ} {w w' s s' : List ℕ} → Twin b w w' s s' → length w < length s
twin-long fork = omega arith
twin-long (common c s s' h) = omega (arith, twin-long h)

twins : (b : ℕ) (w w' x : List ℕ) → Twin b w w' (x ++ (b ∷ w)) (x ++ (b ∷ w'))
twins b w w' [] = fork
twins b w w' (c ∷ x) = common c (x ++ (b ∷ w)) (x ++ (b ∷ w')) (twins b w w' x)

module _ (b : ℕ) (w w' : List ℕ) where
  along-failed : (n : ℕ) → Along b w w' n failed failed
  along-failed n = record { shrinks = shrinks-failed; alike = λ s s' h l. both-failed s s' h }

  along-parsed : (n : ℕ) (t : Tree) → Along b w w' n (parsed t) (parsed t)
  along-parsed n t = record { shrinks = shrinks-parsed t; alike = λ s s' h l. both-parsed t s s' h }

  -- a byte that comes first in both
  along-after : (c n m : ℕ) (f f' e e' : List ℕ → Parse) → n ≤ suc m → Along b w w' m f f' → Along b w w' n e e'
      → Along b w w' n (λ s. choose (after c s) f (e s)) (λ s. choose (after c s) f' (e' s))
  unfolding choose after
  along-after c n m f f' e e' less h g = record { shrinks = shrinks-after c f e h.shrinks g.shrinks; alike = go }
    where
      now : (test : Bool) → length (b ∷ w) ≤ n
          → Alike b w w' (choose (cond test (some w) none) f (e (b ∷ w))) (choose (cond test (some w') none) f' (e' (b ∷ w')))
      now true l = beyond (f w) (f' w') (h.shrinks w)
      now false l = g.alike (b ∷ w) (b ∷ w') fork l

      later : (test : Bool) (d : ℕ) (s s' : List ℕ) → Twin b w w' s s' → length (d ∷ s) ≤ n
          → Alike b w w' (choose (cond test (some s) none) f (e (d ∷ s))) (choose (cond test (some s') none) f' (e' (d ∷ s')))
      later true d s s' i l = h.alike s s' i (omega (arith, l, less))
      later false d s s' i l = g.alike (d ∷ s) (d ∷ s') (common d s s' i) l

      go : (s s' : List ℕ) → Twin b w w' s s' → length s ≤ n
          → Alike b w w' (choose (after c s) f (e s)) (choose (after c s') f' (e' s'))
      go s s' fork l = now (eqb c b) l
      go s s' (common d r r' i) l = later (eqb c d) d r r' i l

  -- one of several bytes
  along-one-of : (low span n : ℕ) (f f' : ℕ → List ℕ → Parse) (e e' : List ℕ → Parse) → ((i : ℕ) → Along b w w' n (f i) (f' i))
      → Along b w w' n e e'
      → Along b w w' n (λ s. choose (one_of low span s) (λ w. f w.0 w.1) (e s))
      (λ s. choose (one_of low span s) (λ w. f' w.0 w.1) (e' s))
  unfolding choose one_of
  along-one-of low span n f f' e e' h g =
      record { shrinks = shrinks-one-of low span f e (λ i. (h i).shrinks) g.shrinks; alike = go }
    where
      now : (test : Bool) (i : ℕ) → length (b ∷ w) ≤ n
          → Alike b w w' (choose (cond test (some (i, w)) none) (λ (w : ℕ × List ℕ). f w.0 w.1) (e (b ∷ w)))
          (choose (cond test (some (i, w')) none) (λ (w : ℕ × List ℕ). f' w.0 w.1) (e' (b ∷ w')))
      now true i l = beyond (f i w) (f' i w') ((h i).shrinks w)
      now false i l = g.alike (b ∷ w) (b ∷ w') fork l

      later : (test : Bool) (i d : ℕ) (s s' : List ℕ) → Twin b w w' s s' → length (d ∷ s) ≤ n
          → Alike b w w' (choose (cond test (some (i, s)) none) (λ (w : ℕ × List ℕ). f w.0 w.1) (e (d ∷ s)))
          (choose (cond test (some (i, s')) none) (λ (w : ℕ × List ℕ). f' w.0 w.1) (e' (d ∷ s')))
      later true i d s s' k l = (h i).alike s s' k (omega (arith, l))
      later false i d s s' k l = g.alike (d ∷ s) (d ∷ s') (common d s s' k) l

      go : (s s' : List ℕ) → Twin b w w' s s' → length s ≤ n
          → Alike b w w' (choose (one_of low span s) (λ w. f w.0 w.1) (e s))
          (choose (one_of low span s') (λ w. f' w.0 w.1) (e' s'))
      go s s' fork l = now (leb low b && leb b (low + span)) (b - low) l
      go s s' (common d r r' i) l = later (leb low d && leb d (low + span)) (d - low) d r r' i l

  along_then : (n : ℕ) (p p' : List ℕ → Parse) (f f' : Tree → List ℕ → Parse) → Along b w w' n p p'
      → ((t : Tree) → Along b w w' n (f t) (f' t)) → Along b w w' n (λ s. and_then (p s) f) (λ s. and_then (p' s) f')
  unfolding and_then left_of
  along_then n p p' f f' h g =
      record {
        shrinks = shrinks-then p f h.shrinks (λ t. (g t).shrinks);
        alike = λ s s' i l. go (h.alike s s' i l) (omega (arith, h.shrinks s, l));
      }
    where
      go : {a a' : Parse} → Alike b w w' a a' → length (left_of a) ≤ n → Alike b w w' (and_then a f) (and_then a' f')
      go (both-failed r r' i) l = both-failed r r' i
      go (both-parsed t r r' i) l = (g t).alike r r' i l
      go (beyond a a' i) l = beyond (and_then a f) (and_then a' f') (left-then (length w) f (λ t. (g t).shrinks) a i)

  along-expects : (n : ℕ) (v : List ℕ) (f f' : List ℕ → Parse) → Along b w w' n f f' → Along b w w' n (expects v f) (expects v f')
  unfolding expects
  along-expects n [] f f' h = h
  along-expects n (c ∷ v) f f' h =
      along-after c n n (expects v f) (expects v f') failed failed (omega arith) (along-expects n v f f' h) (along-failed n)

  -- the same for shorter texts
  along-less : (n m : ℕ) (f f' : List ℕ → Parse) → m ≤ n → Along b w w' n f f' → Along b w w' m f f'
  along-less n m f f' less h = record { shrinks = h.shrinks; alike = λ s s' i l. h.alike s s' i (omega (arith, l, less)) }

  -- A chain may stop for want of turns, of which there is one for each byte. So it does not stop before b.
  along-chain : (first : ℕ) (more : List ℕ) (n : ℕ) (item item' : List ℕ → Parse) (join : Tree → Tree → Tree) → Along b w w' n item item'
      → (k k' : ℕ) (t : Tree) → k ≤ n → k + length w' ≡ k' + length w
      → Along b w w' k (chain first more item join k t) (chain first more item' join k' t)
  unfolding chain
  along-chain first more n item item' join h zero k' t less same =
      record {
        shrinks = shrinks-chain first more item join h.shrinks zero t;
        alike = λ s s' i l. absurd (omega (arith, twin-long i, l));
      }
  along-chain first more n item item' join h (suc k) zero t less same =
      record {
        shrinks = shrinks-chain first more item join h.shrinks (suc k) t;
        alike = λ s s' i l. absurd (omega (arith, twin-long i, l, same));
      }
  along-chain first more n item item' join h (suc k) (suc k') t less same =
      along-after first (suc k) k _ _ (parsed t) (parsed t) (omega arith)
      (along-expects k more _ _
      (along_then k item item' _ _ (along-less n k item item' (omega (arith, less)) h)
      (λ u. along-chain first more n item item' join h k k' (join t u) (omega (arith, less)) (omega (arith, same)))))
      (along-parsed (suc k) t)

  along-leaf : (n : ℕ) → Along b w w' n leaf leaf
  unfolding leaf
  along-leaf n =
      along-after 48 n n (parsed nought) (parsed nought) _ _ (omega arith) (along-parsed n nought)
      (along-one-of 88 2 n (λ i. parsed (variable i)) (λ i. parsed (variable i)) failed failed (λ i. along-parsed n (variable i))
      (along-failed n))

  module _ (n : ℕ) (p p' q q' : List ℕ → Parse) (h : Along b w w' n p p') (g : Along b w w' n q q') where
    along-acted : (j : ℕ) → Along b w w' n (acted p q j) (acted p' q' j)
    unfolding acted
    along-acted j =
        along-after 46 n n _ _ (parsed (bare j)) (parsed (bare j)) (omega arith)
        (along_then n p p' _ _ h (λ t. along-parsed n (dotted j t))) (along-parsed n (bare j))

    along-sent : Along b w w' n (sent p q) (sent p' q')
    unfolding sent
    along-sent =
        along-one-of 97 6 n (λ i. acted p q (7 + i)) (λ i. acted p' q' (7 + i)) failed failed (λ i. along-acted (7 + i)) (along-failed n)

    along-bracketed : Along b w w' n (bracketed p q) (bracketed p' q')
    unfolding bracketed
    along-bracketed = along_then n q q' _ _ g (λ t. along-expects n (41 ∷ []) _ _ (along-parsed n (bracket t)))

    along-looped : Along b w w' n (looped p q) (looped p' q')
    unfolding looped
    along-looped =
        along-one-of 88 2 n (λ i. expects (46 ∷ []) (λ r. and_then (p r) (λ t r. parsed (bound i t) r)))
        (λ i. expects (46 ∷ []) (λ r. and_then (p' r) (λ t r. parsed (bound i t) r))) failed failed
        (λ i. along-expects n (46 ∷ []) _ _ (along_then n p p' _ _ h (λ t. along-parsed n (bound i t)))) (along-failed n)

    along-step : Along b w w' n (step p q) (step p' q')
    unfolding step
    along-step =
        along-one-of 97 6 n (acted p q) (acted p' q') _ _ along-acted
        (along-after 33 n n (sent p q) (sent p' q') _ _ (omega arith) along-sent
        (along-after 40 n n (bracketed p q) (bracketed p' q') _ _ (omega arith) along-bracketed
        (along-after 114 n n (expects (101 ∷ 99 ∷ []) (looped p q)) (expects (101 ∷ 99 ∷ []) (looped p' q')) leaf leaf (omega arith)
        (along-expects n (101 ∷ 99 ∷ []) (looped p q) (looped p' q') along-looped) (along-leaf n))))

  -- n and n' turns are enough for the one and the other text
  module _ (n n' : ℕ) (same : n + length w' ≡ n' + length w) where
    along-sums : (p p' : List ℕ → Parse) → Along b w w' n p p' → Along b w w' n (sums_of n p) (sums_of n' p')
    unfolding sums_of
    along-sums p p' h = along_then n p p' _ _ h (λ t. along-chain 43 [] n p p' summed h n n' t (omega arith) same)

    along-whole : (p p' : List ℕ → Parse) → Along b w w' n p p' → Along b w w' n (whole_of n p) (whole_of n' p')
    unfolding whole_of
    along-whole p p' h =
        let i = along-sums p p' h in
        along_then n (sums_of n p) (sums_of n' p') _ _ i
        (λ t. along-chain 40 (43 ∷ 41 ∷ []) n (sums_of n p) (sums_of n' p') chosen i n n' t (omega arith) same)

    along-tight : (d : ℕ) → Along b w w' n (tight_at n d) (tight_at n' d)
    unfolding tight_at
    along-tight zero = along-leaf n
    along-tight (suc d) =
        let h = along-tight d in
        along-step n (tight_at n d) (tight_at n' d) (whole_of n (tight_at n d)) (whole_of n' (tight_at n' d)) h
        (along-whole (tight_at n d) (tight_at n' d) h)

-- ---- where reading stops

-- the end of the text takes no byte
left_ended : (a : Parse) → left_of (ended a) ≡ left_of a
unfolding left_of ended
left_ended (failed r) = refl
left_ended (parsed t []) = refl
left_ended (parsed t (b ∷ r)) = refl

-- if the one is refused at b, the other is not read to its end
stuck : {b : ℕ} {w w' : List ℕ} {a a' : Parse} → Alike b w w' a a' → ended a ≡ failed (b ∷ w) → (t : Tree) → ended a' ≡ parsed t [] → ⊥
unfolding ended left_of
stuck (both-failed r r' h) e t f = let z : ◌≡◌ {A = ℕ} 0 1 = cc in omega arith
stuck (both-parsed u r r' fork) e t f = let z : ◌≡◌ {A = ℕ} 0 1 = cc in omega arith
stuck (both-parsed u r r' (common c s s' h)) e t f = let z : ◌≡◌ {A = ℕ} 0 1 = cc in omega arith
stuck {b} {w} (beyond a a' h) e t f =
    let is : left_of a ≡ b ∷ w = sym (left_ended a) ∙ ap left_of e in
    omega (arith, h, ap length is)

-- If reading stops before a byte, no text begins with what stands before it and this byte.
pub no-further : (d b : ℕ) (x r y : List ℕ) (t : Tree) → parse_of d (x ++ (b ∷ r)) ≡ failed (b ∷ r) → Text t (x ++ (b ∷ y))
    → depth_of t ≤ d → ⊥
unfolding parse_of
no-further d b x r y t e f h =
    let s = x ++ (b ∷ r) in
    let s' = x ++ (b ∷ y) in
    let same : length s + length y ≡ length s' + length r = omega (arith, length-append x (b ∷ r), length-append x (b ∷ y)) in
    stuck
    ((along-whole b r y (length s) (length s') same (tight_at (length s) d) (tight_at (length s') d)
    (along-tight b r y (length s) (length s') same d)).alike s s' (twins b r y x) (omega arith))
    e t (parse-complete d s' t f h)

-- where reading stops, what was read is the beginning of a text
pub begun : (d : ℕ) (s r : List ℕ) → parse_of d s ≡ failed r → Begun whole d s r
unfolding parse_of ended left_of
begun d s r = go (whole_of (length s) (tight_at (length s) d) s) (right-whole (length s) d (tight_at (length s) d) (right-tight (length s) d) s)
  where
    go : (a : Parse) → Right whole d s a → ended a ≡ failed r → Begun whole d s r
    go (failed r') h e = subst (λ r. Begun whole d s r) (ap left_of e) h
    go (parsed t []) h e = let z : ◌≡◌ {A = ℕ} 0 1 = cc in absurd (omega arith)
    go (parsed t (b ∷ r')) h e =
        subst (λ r. Begun whole d s r) (ap left_of e)
        (h.0, h.1, [], t, subst⁻¹ (λ x. Derives whole t x) (append-nil h.0) h.2, h.3)

-- The parser stops at the first byte at which no text within the depth goes on, and what stands before can be completed.
pub stops : (d : ℕ) (s r : List ℕ) → parse_of d s ≡ failed r
    → (x : List ℕ) × (s ≡ x ++ r)
    × ((y : List ℕ) × (t : Tree) × Text t (x ++ y) × (depth_of t ≤ d))
    × ((b : ℕ) (r' : List ℕ) → r ≡ b ∷ r' → (y : List ℕ) (t : Tree) → Text t (x ++ (b ∷ y)) → depth_of t ≤ d → ⊥)
stops d s r e =
    let h = begun d s r e in (
      h.0,
      h.1,
      (h.2, h.3, h.4, h.5),
      λ b r' i y t f g.
          let is : s ≡ h.0 ++ (b ∷ r') = h.1 ∙ ap (λ r. h.0 ++ r) i in
          no-further d b h.0 r' y t (ap (parse_of d) (sym is) ∙ e ∙ ap failed i) f g,
    )
