-- Reading a text by recursive descent: the depth that is left falls at each prefix, rec and bracket; chains of + and (+) are loops.
-- Request 7/13.
-- Assumes nothing.
use Rattle.std.specs.Prelude.{◌&&◌, cond, List, [], ◌∷◌, ℕ, zero, suc, ◌+◌, ◌-◌, eqb, leb, length}
use Rattle.std.proofs.Math.Option.{Option, none, some}
use Rattle.text.specs.Grammar.{Tree, nought, bare, dotted, summed, chosen, bound, variable, bracket}

-- the tree of what was read, and what is left behind it; or what is left from the byte on at which no derivation can go on
pub data Parse : Type 0 where
  failed : List ℕ → Parse
  parsed : Tree → List ℕ → Parse

-- goes on behind what was read
unfoldable pub and_then : Parse → (Tree → List ℕ → Parse) → Parse
and_then (failed r) f = failed r
and_then (parsed t r) f = f t r

-- one of two ways to go on
unfoldable pub choose : {A : Type 0} → Option A → (A → Parse) → Parse → Parse
choose none f e = e
choose (some x) f e = f x

-- which of the bytes `low` to `low + span` comes first, and what follows
unfoldable pub one_of : (low span : ℕ) → List ℕ → Option (ℕ × List ℕ)
one_of low span [] = none
one_of low span (b ∷ s) = cond (leb low b && leb b (low + span)) (some (b - low, s)) none

-- what follows this byte
unfoldable pub after : ℕ → List ℕ → Option (List ℕ)
after c [] = none
after c (b ∷ s) = cond (eqb c b) (some s) none

-- goes on behind these bytes, which must come
unfoldable pub expects : List ℕ → (List ℕ → Parse) → List ℕ → Parse
expects [] f s = f s
expects (c ∷ w) f s = choose (after c s) (expects w f) (failed s)

-- an item behind a separator, which is this byte and these more; joined to the tree before, at most so many times
module _ (first : ℕ) (more : List ℕ) (item : List ℕ → Parse) (join : Tree → Tree → Tree) where
  unfoldable pub chain : ℕ → Tree → List ℕ → Parse
  chain zero t s = parsed t s
  chain (suc n) t s = choose (after first s) (expects more (λ r. and_then (item r) (λ u r. chain n (join t u) r))) (parsed t s)

-- sums ::= tight | sums + tight
unfoldable pub sums_of : ℕ → (List ℕ → Parse) → List ℕ → Parse
sums_of n p s = and_then (p s) (chain 43 [] p summed n)

-- whole ::= sums | whole (+) sums
unfoldable pub whole_of : ℕ → (List ℕ → Parse) → List ℕ → Parse
whole_of n p s = and_then (sums_of n p s) (chain 40 (43 ∷ 41 ∷ []) (sums_of n p) chosen n)

-- with no depth left: 0 or a variable
unfoldable pub leaf : List ℕ → Parse
leaf s = choose (after 48 s) (parsed nought) (choose (one_of 88 2 s) (λ w. parsed (variable w.0) w.1) (failed s))

-- one level down are `p` for tight and `q` for whole
module _ (p q : List ℕ → Parse) where
  -- behind an action: a dot, or its end
  unfoldable pub acted : ℕ → List ℕ → Parse
  acted j s = choose (after 46 s) (λ r. and_then (p r) (λ t r. parsed (dotted j t) r)) (parsed (bare j) s)

  -- behind !
  unfoldable pub sent : List ℕ → Parse
  sent s = choose (one_of 97 6 s) (λ w. acted (7 + w.0) w.1) (failed s)

  -- behind (
  unfoldable pub bracketed : List ℕ → Parse
  bracketed s = and_then (q s) (λ t. expects (41 ∷ []) (parsed (bracket t)))

  -- behind rec
  unfoldable pub looped : List ℕ → Parse
  looped s =
      choose (one_of 88 2 s) (λ w. expects (46 ∷ []) (λ r. and_then (p r) (λ t r. parsed (bound w.0 t) r)) w.1) (failed s)

  -- tight ::= 0 | variable | action | action . tight | rec variable . tight | ( whole )
  unfoldable pub step : List ℕ → Parse
  step s =
      choose (one_of 97 6 s) (λ w. acted w.0 w.1)
      (choose (after 33 s) sent
      (choose (after 40 s) bracketed
      (choose (after 114 s) (expects (101 ∷ 99 ∷ []) looped)
      (leaf s))))

-- tight, with so much depth left, and at most n items in a chain
unfoldable pub tight_at : ℕ → ℕ → List ℕ → Parse
tight_at n zero = leaf
tight_at n (suc d) = step (tight_at n d) (whole_of n (tight_at n d))

-- nothing is left behind the text
unfoldable pub ended : Parse → Parse
ended (failed r) = failed r
ended (parsed t []) = parsed t []
ended (parsed t (b ∷ r)) = failed (b ∷ r)

-- these bytes read, at most so deep
unfoldable pub parse_of : ℕ → List ℕ → Parse
parse_of d s = ended (whole_of (length s) (tight_at (length s) d) s)

-- the tree of what was read, if it was
unfoldable pub tree_in : Parse → Option Tree
tree_in (failed r) = none
tree_in (parsed t r) = some t

-- the tree of these bytes, at most so deep
unfoldable pub tree_of : ℕ → List ℕ → Option Tree
tree_of d s = tree_in (parse_of d s)
