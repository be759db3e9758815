-- The variables of a mask, asked one by one; and that the first variable at fault depends on nothing else of them.
-- Assumes nothing.
use mathlib.Core.Path.{◌≡◌, refl, sym, ap, ◌∙◌}
use mathlib.Core.Bool.{Bool, true, false, not, cond, ◌&&◌, ◌||◌}
use mathlib.Core.Option.{none, some}
use mathlib.Core.List.{List, [], ◌∷◌}
use Prim.Native.Nat.{ℕ, zero, suc, ◌+◌, ◌-◌, ◌*◌, ◌^◌, ◌/◌, ◌%◌, ◌≤◌, ◌<◌}
use native.Mathlib.Nat.{lt_of_not-le}
use native.Mathlib.Omega.{arith}
use native.Mathlib.Decide.{dec_le}
use lib.Dec.{eqb}
use lib.Bits.{bit_and, bit_or}
use borrow.Author.Tests.{eq-eqb, ne_eqb, eqb-true}
use Rattle.model.specs.Lists.{any, keep}
use Rattle.model.specs.Contract.{has}
use Rattle.model.proofs.Bits.{has-and}
use Rattle.model.proofs.Masks.{has_more}
use Rattle.text.specs.Grammar.{Tree, nought, bare, dotted, summed, chosen, bound, variable, bracket}
use Rattle.text.specs.Convert.{wrong_at, width_of, action_width}
use Rattle.text_reading.specs.Reading.{listed}

-- ---- members of a part of a list

-- one more that is kept
kept_more : (w x : ℕ) (f : ℕ → Bool) (old new : Bool) → new ≡ (f w && old) → (b : Bool) → f x ≡ b → (e : Bool) → eqb w x ≡ e
    → (cond b (eqb w x || new) new) ≡ (f w && (eqb w x || old))
kept_more w x f old new h true p true q = let same : w ≡ x = eqb-true w x q in rw (q, same, p) refl
kept_more w x f old new h true p false q = rw (q, h) refl
kept_more w x f old new h false p true q = let same : w ≡ x = eqb-true w x q in rw (h, q, same, p) refl
kept_more w x f old new h false p false q = rw (q, h) refl

any-cond : (f : ℕ → Bool) (b : Bool) (x : ℕ) (l m : List ℕ) → any f (cond b (x ∷ l) m) ≡ cond b (f x || any f l) (any f m)
unfolding any
any-cond f true x l m = refl
any-cond f false x l m = refl

any-keep : (w : ℕ) (f : ℕ → Bool) (l : List ℕ) → any (eqb w) (keep f l) ≡ (f w && any (eqb w) l)
unfolding any keep
any-keep w f [] = go (f w)
  where
    go : (b : Bool) → false ≡ (b && false)
    go true = refl
    go false = refl
any-keep w f (x ∷ l) =
    any-cond (eqb w) (f x) x (keep f l) (keep f l)
    ∙ kept_more w x f (any (eqb w) l) (any (eqb w) (keep f l)) (any-keep w f l) (f x) refl (eqb w x) refl

-- ---- masks

-- whether a number is one of the variables
unfoldable pub small : ℕ → Bool
small w = any (eqb w) (0 ∷ 1 ∷ 2 ∷ [])

any-listed : (mask w : ℕ) → any (eqb w) (listed mask) ≡ (has mask w && small w)
unfolding listed small
any-listed mask w = any-keep w (has mask) (0 ∷ 1 ∷ 2 ∷ [])

pub small_is : (w : ℕ) → w < 3 → small w ≡ true
unfolding small any
small_is zero h = refl
small_is (suc zero) h = refl
small_is (suc (suc zero)) h = refl
small_is (suc (suc (suc w))) h = absurd (omega arith)

more_of : (h e s : Bool) → (e ≡ true → s ≡ true) → ((h || e) && s) ≡ (e || (h && s))
more_of true true s k = k refl
more_of true false true k = refl
more_of true false false k = refl
more_of false true s k = k refl
more_of false false true k = refl
more_of false false false k = refl

-- one variable more
pub listed_more : (mask v : ℕ) {bit : ℕ} → v < 3 → bit ≡ 2 ^ v → (w : ℕ)
    → any (eqb w) (listed (bit_or mask bit)) ≡ any (eqb w) (v ∷ listed mask)
unfolding any
listed_more mask v {bit} h e w =
    any-listed (bit_or mask bit) w ∙ ap (λ b. b && small w) (has_more mask v e w)
    ∙ more_of (has mask w) (eqb w v) (small w) (λ q. small_is w (omega (arith, eqb-true w v q)))
    ∙ sym (ap (λ b. eqb w v || b) (any-listed mask w))

-- the mask of the others
others : (v w : ℕ) → v < 3 → w < 3 → has (7 - 2 ^ v) w ≡ not (eqb v w)
unfolding has
others zero zero h k = refl
others zero (suc zero) h k = refl
others zero (suc (suc zero)) h k = refl
others (suc zero) zero h k = refl
others (suc zero) (suc zero) h k = refl
others (suc zero) (suc (suc zero)) h k = refl
others (suc (suc zero)) zero h k = refl
others (suc (suc zero)) (suc zero) h k = refl
others (suc (suc zero)) (suc (suc zero)) h k = refl
others (suc (suc (suc v))) w h k = absurd (omega arith)
others zero (suc (suc (suc w))) h k = absurd (omega arith)
others (suc zero) (suc (suc (suc w))) h k = absurd (omega arith)
others (suc (suc zero)) (suc (suc (suc w))) h k = absurd (omega arith)

not-small : (w : ℕ) → 3 ≤ w → small w ≡ false
unfolding small any
not-small w h = rw (ne_eqb w 0 (λ q. omega arith), ne_eqb w 1 (λ q. omega arith), ne_eqb w 2 (λ q. omega arith)) refl

is-small : (w : ℕ) → small w ≡ true → w < 3
is-small w h = go (dec_le 3 w)
  where
    go : Dec (3 ≤ w) → w < 3
    go (yes k) =
        let no : false ≡ true = sym (not-small w k) ∙ h in
        let z : ◌≡◌ {A = ℕ} 0 1 = cc in
        absurd (omega arith)
    go (no k) = lt_of_not-le k

-- the bit of a variable, as the code shifts it
pub bit_is : (v : ℕ) → v < 3 → 1 * 2 ^ v % 256 ≡ 2 ^ v
bit_is zero h = refl
bit_is (suc zero) h = refl
bit_is (suc (suc zero)) h = refl
bit_is (suc (suc (suc v))) h = absurd (omega arith)

pub bit-small : (v : ℕ) → v < 3 → 1 * 2 ^ v % 256 ≤ 7
bit-small zero h = omega arith
bit-small (suc zero) h = omega arith
bit-small (suc (suc zero)) h = omega arith
bit-small (suc (suc (suc v))) h = absurd (omega arith)

fewer-of : (h n m s : Bool) → (s ≡ true → n ≡ m) → ((h && n) && s) ≡ (m && (h && s))
fewer-of true n true true k = ap (λ b. b && true) (k refl)
fewer-of true n false true k = ap (λ b. b && true) (k refl)
fewer-of true true true false k = refl
fewer-of true true false false k = refl
fewer-of true false true false k = refl
fewer-of true false false false k = refl
fewer-of false n true s k = refl
fewer-of false n false s k = refl

-- without one
pub listed-fewer : (mask v : ℕ) {bit : ℕ} → v < 3 → bit ≡ 2 ^ v
    → (w : ℕ) → any (eqb w) (listed (bit_and mask (7 - bit))) ≡ any (eqb w) (keep (λ u. not (eqb v u)) (listed mask))
listed-fewer mask v {bit} h e w =
    any-listed (bit_and mask (7 - bit)) w ∙ ap (λ b. b && small w) (has-and mask (7 - bit) w)
    ∙ fewer-of (has mask w) (has (7 - bit) w) (not (eqb v w)) (small w)
    (λ q. ap (λ (k : ℕ). has (7 - k) w) e ∙ others v w h (is-small w q))
    ∙ sym (any-keep w (λ u. not (eqb v u)) (listed mask) ∙ ap (λ b. not (eqb v w) && b) (any-listed mask w))

-- ---- the first variable at fault

-- Lists with the same members.
abbrev pub Alike : List ℕ → List ℕ → Type 0
Alike one two = (w : ℕ) → any (eqb w) one ≡ any (eqb w) two

alike-more : (v : ℕ) (one two : List ℕ) → Alike one two → Alike (v ∷ one) (v ∷ two)
unfolding any
alike-more v one two h w = ap (λ b. eqb w v || b) (h w)

alike-fewer : (f : ℕ → Bool) (one two : List ℕ) → Alike one two → Alike (keep f one) (keep f two)
alike-fewer f one two h w = any-keep w f one ∙ ap (λ b. f w && b) (h w) ∙ sym (any-keep w f two)

pub wrong-agree : (t : Tree) (r1 r2 p1 p2 : List ℕ) (i : ℕ) → Alike r1 r2 → Alike p1 p2 → wrong_at r1 p1 i t ≡ wrong_at r2 p2 i t
unfolding wrong_at
wrong-agree nought r1 r2 p1 p2 i r p = refl
wrong-agree (bare j) r1 r2 p1 p2 i r p = refl
wrong-agree (dotted j t) r1 r2 p1 p2 i r p = wrong-agree t r1 r2 r1 r2 (i + suc (action_width j)) r r
wrong-agree (summed t u) r1 r2 p1 p2 i r p =
    rw (wrong-agree t r1 r2 p1 p2 i r p, wrong-agree u r1 r2 p1 p2 (i + suc (width_of t)) r p) refl
wrong-agree (chosen t u) r1 r2 p1 p2 i r p =
    rw (wrong-agree t r1 r2 p1 p2 i r p, wrong-agree u r1 r2 p1 p2 (i + (3 + width_of t)) r p) refl
wrong-agree (bound v t) r1 r2 p1 p2 i r p =
    wrong-agree t (v ∷ r1) (v ∷ r2) (keep (λ w. not (eqb v w)) p1) (keep (λ w. not (eqb v w)) p2) (i + 5) (alike-more v r1 r2 r)
    (alike-fewer (λ w. not (eqb v w)) p1 p2 p)
wrong-agree (variable v) r1 r2 p1 p2 i r p = rw (p v) refl
wrong-agree (bracket t) r1 r2 p1 p2 i r p = wrong-agree t r1 r2 p1 p2 (suc i) r p

-- ---- one variable

module _ (recs prefixed i v : ℕ) (small-v : v < 3) where
  pub judged-fine : prefixed / 2 ^ v % 2 ≡ 1 → none ≡ wrong_at (listed recs) (listed prefixed) i (variable v)
  unfolding wrong_at has
  judged-fine e = rw (any-listed prefixed v, eq-eqb (prefixed / 2 ^ v % 2) 1 e, small_is v small-v) refl

  pub judged-wrong : (prefixed / 2 ^ v % 2 ≡ 1 → ⊥) → some i ≡ wrong_at (listed recs) (listed prefixed) i (variable v)
  unfolding wrong_at has
  judged-wrong n = rw (any-listed prefixed v, ne_eqb (prefixed / 2 ^ v % 2) 1 n) refl
