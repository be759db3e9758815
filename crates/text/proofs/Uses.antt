-- What the test for a variable at fault finds is the first use of a variable at fault, and the variable's letter stands there.
-- Assumes nothing.
use mathlib.Core.Path.{◌≡◌, refl, ap, sym, subst, ◌∙◌}
use mathlib.Core.Bool.{Bool, true, false, cond}
use mathlib.Core.Logic.{⊎_elim}
use mathlib.Core.Option.{none, some, none-ne-some, some-injective}
use mathlib.Core.List.{List, [], ◌∷◌, ◌++◌}
use Prim.Native.Nat.{ℕ, suc, ◌+◌, ◌≤◌, ◌<◌}
use native.Mathlib.Omega.{arith}
use lib.ListN.{length, get_or, length-append, get_or-append}
use lib.Seq.{get_or-append-add}
use lib.Dec.{eqb}
use Rattle.model.specs.Lists.{any}
use Rattle.text.specs.Grammar.{Tree, nought, bare, dotted, summed, chosen, bound, variable, bracket, Level, tight, sums, whole, Derives, d_nought, d_variable, d_bare, d_dotted, d_bound, d_bracket, d_one, d_summed, d_only, d_chosen}
use Rattle.text.specs.Convert.{action_width, width_of, wrong_at}
use Rattle.text.specs.Uses.{
  Over,
  a_prefix,
  a_rec,
  Uses,
  u_variable,
  u_dotted,
  u_summed_left,
  u_summed_right,
  u_chosen_left,
  u_chosen_right,
  u_bound,
  u_bracket,
  Unbound,
  under_none,
  under_prefix,
  under_rec,
  AtFault,
  unbound,
  no_prefix,
  past_rec,
  FaultIn,
  FirstFault,
}
use Rattle.text.proofs.Substitution.{same-or-other}
use Rattle.text.proofs.Variables.{
  Among,
  others,
  among-cons,
  among-head,
  among-tail,
  none-among,
  among-others,
  others-among,
  none-summed,
  none-chosen,
  failed-test,
  passed-test,
  either-found,
}
use Rattle.text.proofs.Widths.{width}

-- ---- what stands over a part, and the lists that the test keeps of it

pub record Agrees (over : List Over) (recs prefixed : List ℕ) : Type 0 where
  has-rec : (v : ℕ) → Among v recs → Unbound v over → ⊥
  has-none : (v : ℕ) → (Among v recs → ⊥) → Unbound v over
  is_right : (v : ℕ) → Among v prefixed → AtFault v over → ⊥
  is-wrong : (v : ℕ) → (Among v prefixed → ⊥) → AtFault v over

-- at first nothing
agrees_first : Agrees [] [] []
agrees_first =
    record {
      has-rec = λ v a u. none-among v a;
      has-none = λ v n. under_none;
      is_right = λ v a u. none-among v a;
      is-wrong = λ v n. unbound [] under_none;
    }

-- behind a prefix
unbound-behind : {v : ℕ} {over : List Over} → Unbound v (a_prefix ∷ over) → Unbound v over
unbound-behind (under_prefix over u) = u

fault-behind : {v : ℕ} {over : List Over} → AtFault v (a_prefix ∷ over) → Unbound v over
fault-behind (unbound over u) = unbound-behind u

agrees-behind : {over : List Over} {r p : List ℕ} → Agrees over r p → Agrees (a_prefix ∷ over) r r
agrees-behind {over} {r} h =
    record {
      has-rec = λ v a u. h.has-rec v a (unbound-behind u);
      has-none = λ v n. under_prefix over (h.has-none v n);
      is_right = λ v a f. h.has-rec v a (fault-behind f);
      is-wrong = λ v n. unbound (a_prefix ∷ over) (under_prefix over (h.has-none v n));
    }

-- in a rec
unbound-within : {v w : ℕ} {over : List Over} → Unbound v (a_rec w ∷ over) → (v ≡ w → ⊥) × Unbound v over
unbound-within (under_rec w over d u) = (d, u)

fault-within : {v w : ℕ} {over : List Over} → (v ≡ w → ⊥) → AtFault v (a_rec w ∷ over) → AtFault v over
fault-within {over = over} d (unbound o u) = unbound over (unbound-within u).1
fault-within d (no_prefix over) = absurd (d refl)
fault-within d (past_rec w over n f) = f

agrees-within : {over : List Over} {r p : List ℕ} (w : ℕ) → Agrees over r p → Agrees (a_rec w ∷ over) (w ∷ r) (others w p)
agrees-within {over} {r} {p} w h =
    record {
      has-rec = λ v a u.
          ⊎_elim (λ e. (unbound-within u).0 e) (λ a. h.has-rec v a (unbound-within u).1) (among-cons v w r a);
      has-none = λ v n. under_rec w over (λ e. n (among-head v w r e)) (h.has-none v (λ a. n (among-tail v w r a)));
      is_right = λ v a f. let x = among-others v w p a in h.is_right v x.0 (fault-within x.1 f);
      is-wrong = λ v n.
          ⊎_elim (λ e. subst (λ (u : ℕ). AtFault v (a_rec u ∷ over)) e (no_prefix over))
          (λ d. past_rec w over d (h.is-wrong v (λ a. n (others-among v w p d a)))) (same-or-other v w);
    }

-- ---- what is found is at fault

-- a use at fault at byte k, in a part that begins at byte i under these
abbrev Fault : List Over → ℕ → Tree → ℕ → Type 0
Fault over i t k = (v : ℕ) × (those : List Over) × Uses over i t v those k × AtFault v those

-- a part's uses are the whole's
lift : {over over' : List Over} {i i' : ℕ} {t t' : Tree} {k : ℕ}
    → ((v : ℕ) (those : List Over) → Uses over i t v those k → Uses over' i' t' v those k) → Fault over i t k → Fault over' i' t' k
lift f x = (x.0, x.1, f x.0 x.1 x.2, x.3)

-- the test of a variable fails where it is found
found-is : (b : Bool) (i k : ℕ) → cond b none (some i) ≡ some k → i ≡ k
found-is true i k e = absurd (none-ne-some k e)
found-is false i k e = some-injective i k e

found : (t : Tree) (over : List Over) (r p : List ℕ) (i k : ℕ) → Agrees over r p → wrong_at r p i t ≡ some k → Fault over i t k
unfolding wrong_at
found nought over r p i k h e = absurd (none-ne-some k e)
found (bare j) over r p i k h e = absurd (none-ne-some k e)
found (dotted j t) over r p i k h e =
    lift (λ v o u. u_dotted over i j t u) (found t (a_prefix ∷ over) r r (i + suc (action_width j)) k (agrees-behind h) e)
found (summed t u) over r p i k h e =
    ⊎_elim (λ e. lift (λ v o x. u_summed_left over i t u x) (found t over r p i k h e))
    (λ e. lift (λ v o x. u_summed_right over i t u x) (found u over r p (i + suc (width_of t)) k h e.1))
    (either-found (wrong_at r p i t) (wrong_at r p (i + suc (width_of t)) u) k e)
found (chosen t u) over r p i k h e =
    ⊎_elim (λ e. lift (λ v o x. u_chosen_left over i t u x) (found t over r p i k h e))
    (λ e. lift (λ v o x. u_chosen_right over i t u x) (found u over r p (i + (3 + width_of t)) k h e.1))
    (either-found (wrong_at r p i t) (wrong_at r p (i + (3 + width_of t)) u) k e)
found (bound w t) over r p i k h e =
    lift (λ v o u. u_bound over i w t u) (found t (a_rec w ∷ over) (w ∷ r) (others w p) (i + 5) k (agrees-within w h) e)
found (variable v) over r p i k h e =
    subst (Fault over i (variable v)) (found-is (any (eqb v) p) i k e)
    (v, over, u_variable over i v, h.is-wrong v (failed-test (any (eqb v) p) i k e))
found (bracket t) over r p i k h e = lift (λ v o u. u_bracket over i t u) (found t over r p (suc i) k h e)

-- ---- and nothing before it

-- no use of a part is before it begins, or behind its text
use-from : {over those : List Over} {i v k : ℕ} {t : Tree} → Uses over i t v those k → i ≤ k
use-from (u_variable over i v) = omega arith
use-from (u_dotted over i j t u) = omega (arith, use-from u)
use-from (u_summed_left over i t u x) = use-from x
use-from (u_summed_right over i t u x) = omega (arith, use-from x)
use-from (u_chosen_left over i t u x) = use-from x
use-from (u_chosen_right over i t u x) = omega (arith, use-from x)
use-from (u_bound over i w t u) = omega (arith, use-from u)
use-from (u_bracket over i t u) = omega (arith, use-from u)

use-to : {over those : List Over} {i v k : ℕ} {t : Tree} → Uses over i t v those k → k < i + width_of t
unfolding width_of
use-to (u_variable over i v) = omega arith
use-to (u_dotted over i j t u) = omega (arith, use-to u)
use-to (u_summed_left over i t u x) = omega (arith, use-to x)
use-to (u_summed_right over i t u x) = omega (arith, use-to x)
use-to (u_chosen_left over i t u x) = omega (arith, use-to x)
use-to (u_chosen_right over i t u x) = omega (arith, use-to x)
use-to (u_bound over i w t u) = omega (arith, use-to u)
use-to (u_bracket over i t u) = omega (arith, use-to u)

-- where none is found no use is at fault
none_found : {over those : List Over} {i v k : ℕ} {t : Tree} (r p : List ℕ) → Agrees over r p → wrong_at r p i t ≡ none
    → Uses over i t v those k → AtFault v those → ⊥
unfolding wrong_at
none_found r p h e (u_variable over i v) f = h.is_right v (passed-test (any (eqb v) p) i e) f
none_found r p h e (u_dotted over i j t u) f = none_found r r (agrees-behind h) e u f
none_found r p h e (u_summed_left over i t u x) f = none_found r p h (none-summed t u r p i e).0 x f
none_found r p h e (u_summed_right over i t u x) f = none_found r p h (none-summed t u r p i e).1 x f
none_found r p h e (u_chosen_left over i t u x) f = none_found r p h (none-chosen t u r p i e).0 x f
none_found r p h e (u_chosen_right over i t u x) f = none_found r p h (none-chosen t u r p i e).1 x f
none_found r p h e (u_bound over i w t u) f = none_found (w ∷ r) (others w p) (agrees-within w h) e u f
none_found r p h e (u_bracket over i t u) f = none_found r p h e u f

-- a use at fault is not before the one that is found
first_found : {over those : List Over} {i v j k : ℕ} {t : Tree} (r p : List ℕ) → Agrees over r p → wrong_at r p i t ≡ some k
    → Uses over i t v those j → AtFault v those → k ≤ j
unfolding wrong_at
first_found {k = k} r p h e (u_variable over i v) f = omega (arith, found-is (any (eqb v) p) i k e)
first_found r p h e (u_dotted over i j t u) f = first_found r r (agrees-behind h) e u f
first_found {k = k} r p h e (u_summed_left over i t u x) f =
    ⊎_elim (λ e. first_found r p h e x f) (λ e. absurd (none_found r p h e.0 x f))
    (either-found (wrong_at r p i t) (wrong_at r p (i + suc (width_of t)) u) k e)
first_found {k = k} r p h e (u_summed_right over i t u x) f =
    ⊎_elim (λ e. omega (arith, use-to (found t over r p i k h e).2, use-from x)) (λ e. first_found r p h e.1 x f)
    (either-found (wrong_at r p i t) (wrong_at r p (i + suc (width_of t)) u) k e)
first_found {k = k} r p h e (u_chosen_left over i t u x) f =
    ⊎_elim (λ e. first_found r p h e x f) (λ e. absurd (none_found r p h e.0 x f))
    (either-found (wrong_at r p i t) (wrong_at r p (i + (3 + width_of t)) u) k e)
first_found {k = k} r p h e (u_chosen_right over i t u x) f =
    ⊎_elim (λ e. omega (arith, use-to (found t over r p i k h e).2, use-from x)) (λ e. first_found r p h e.1 x f)
    (either-found (wrong_at r p i t) (wrong_at r p (i + (3 + width_of t)) u) k e)
first_found r p h e (u_bound over i w t u) f = first_found (w ∷ r) (others w p) (agrees-within w h) e u f
first_found r p h e (u_bracket over i t u) f = first_found r p h e u f

-- What the test finds in a whole tree is its first variable at fault.
pub first-fault : (t : Tree) (k : ℕ) → wrong_at [] [] 0 t ≡ some k → (v : ℕ) × FirstFault t v k
first-fault t k e =
    let x = found t [] [] [] 0 k agrees_first e in (
      x.0,
      record {
        here = record { over = x.1; uses = x.2; at_fault = x.3 };
        earlier = λ w i l f. absurd (omega (arith, l, first_found [] [] agrees_first e f.uses f.at_fault));
      },
    )

-- ---- the letter of the variable

-- at place k stands the letter of a variable, where these bytes begin at place i
abbrev Letter : List ℕ → (i v k : ℕ) → Type 0
Letter x i v k = (at : ℕ) × (k ≡ i + at) × (at < length x) × (get_or x at 0 ≡ 88 + v)

-- with bytes behind
letter-front : (x y : List ℕ) (i v k : ℕ) → Letter x i v k → Letter (x ++ y) i v k
letter-front x y i v k h = (h.0, h.1, omega (arith, length-append x y, h.2), get_or-append x y 0 h.0 h.2 ∙ h.3)

-- with bytes before, so that they begin at place j
letter-back : (x y : List ℕ) (i j v k : ℕ) → j ≡ i + length x → Letter y j v k → Letter (x ++ y) i v k
letter-back x y i j v k e h =
    (length x + h.0, omega (arith, e, h.1), omega (arith, length-append x y, h.2), get_or-append-add x y h.0 0 ∙ h.3)

-- in the second of two parts, with bytes between them
letter-second : (x z y : List ℕ) (i j v k : ℕ) → j ≡ i + length x + length z → Letter y j v k → Letter (x ++ (z ++ y)) i v k
letter-second x z y i j v k e h = letter-back x (z ++ y) i (i + length x) v k refl (letter-back z y (i + length x) j v k e h)

-- in a part of a text that begins at place i
letter-within : {l : Level} {t : Tree} {x : List ℕ} → Derives l t x → {over those : List Over} {i v k : ℕ} → Uses over i t v those k
    → Letter x i v k
unfolding width_of
letter-within d_nought {over = over} {those = those} {i = i} {v = v} {k = k} u = elim u [ ]
letter-within (d_bare j _ _) {over = over} {those = those} {i = i} {v = v} {k = k} u = elim u [ ]
letter-within (d_variable v h) (u_variable over i w) = (0, omega arith, omega arith, refl)
letter-within (d_dotted j t x y s d) {v = v} {k = k} (u_dotted over i w c u) =
    letter-second x (46 ∷ []) y i (i + suc (action_width j)) v k (omega (arith, width tight (bare j) x (d_bare j x s)))
    (letter-within d u)
letter-within (d_bound w t y h d) {v = v} {k = k} (u_bound over i c b u) =
    letter-back (114 ∷ 101 ∷ 99 ∷ (88 + w) ∷ 46 ∷ []) y i (i + 5) v k refl (letter-within d u)
letter-within (d_bracket t x d) {v = v} {k = k} (u_bracket over i c u) =
    letter-back (40 ∷ []) (x ++ (41 ∷ [])) i (suc i) v k (omega arith)
    (letter-front x (41 ∷ []) (suc i) v k (letter-within d u))
letter-within (d_one t x d) u = letter-within d u
letter-within (d_summed t u x y d c) {v = v} {k = k} (u_summed_left over i a b n) =
    letter-front x (43 ∷ y) i v k (letter-within d n)
letter-within (d_summed t u x y d c) {v = v} {k = k} (u_summed_right over i a b n) =
    letter-second x (43 ∷ []) y i (i + suc (width_of t)) v k (omega (arith, width sums t x d)) (letter-within c n)
letter-within (d_only t x d) u = letter-within d u
letter-within (d_chosen t u x y d c) {v = v} {k = k} (u_chosen_left over i a b n) =
    letter-front x (40 ∷ 43 ∷ 41 ∷ y) i v k (letter-within d n)
letter-within (d_chosen t u x y d c) {v = v} {k = k} (u_chosen_right over i a b n) =
    letter-second x (40 ∷ 43 ∷ 41 ∷ []) y i (i + (3 + width_of t)) v k (omega (arith, width whole t x d)) (letter-within c n)

-- in a whole text
pub letter : (l : Level) (t : Tree) (x : List ℕ) (v k : ℕ) → Derives l t x → FaultIn t v k → (k < length x) × (get_or x k 0 ≡ 88 + v)
letter l t x v k d f =
    let h = letter-within d f.uses in
    let q : h.0 ≡ k = omega (arith, h.1) in
    (omega (arith, h.1, h.2), ap (λ (n : ℕ). get_or x n 0) (sym q) ∙ h.3)
