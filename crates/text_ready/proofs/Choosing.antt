-- An internal choice gone along to the left: what is united so far and what is left are the whole, joined with the family at the start.
-- Assumes nothing.
use mathlib.Core.Path.{◌≡◌, sym, ap, subst, subst⁻¹, ◌∙◌}
use mathlib.Core.Bool.{false}
use mathlib.Core.Logic.{◌↔◌, ◌⊎◌, inl, inr, ⊎_elim}
use mathlib.Core.List.Memᴰ
use mathlib.Core.List.{List, ◌++◌}
use Prim.Native.Nat.{ℕ, ◌+◌, ◌/◌, ◌%◌, ◌<◌, ◌≤◌}
use native.Mathlib.Omega.{arith}
use lib.ListN.{length, get_or, replicate, length-replicate, get_or-replicate}
use lib.Dec.{T}
use Rattle.model.specs.Contract.{has}
use Rattle.model.proofs.Lists.{or_cases, or_left, or_right}
use Rattle.model.proofs.Masks.{has-none}
use Rattle.families.specs.Families.{in_family}
use Rattle.text.specs.Places.{Sense}
use Rattle.text.specs.Cells.{Ends, Explained, cell_at, unpacked}
use Rattle.text_ready.specs.Joined.{Family, Union, Absorbs}
use Rattle.text_ready.specs.Ready.{Choice, Held, ready_by, Settled, JoinedBy, Added}
use Rattle.text_ready.proofs.Joins.{absorbs-either}
use Rattle.text.proofs.Ends.{weight, lighter, Parts, to-parts}
use Rattle.text_ready.proofs.Settled.{ready-place}

-- ---- unions with either of two lists

union_left : (F : Family) (l r : List ℕ) (m : ℕ) → Union F l m → Union F (l ++ r) m
union_left F l r m u = (u.0, u.1, u.2, u.3, Memᴰ.append_left r u.4, u.5)

union_right : (F : Family) (l r : List ℕ) (m : ℕ) → Union F r m → Union F (l ++ r) m
union_right F l r m u = (u.0, u.1, u.2, u.3, Memᴰ.append_right l u.4, u.5)

union-cases : (F : Family) (l r : List ℕ) (m : ℕ) → Union F (l ++ r) m → Union F l m ⊎ Union F r m
union-cases F l r m u =
    ⊎_elim {C = Union F l m ⊎ Union F r m} (λ i. inl (u.0, u.1, u.2, u.3, i, u.5)) (λ i. inr (u.0, u.1, u.2, u.3, i, u.5))
    (Memᴰ.append_cases l u.4)

-- a whole of what is there and two parts is one of what is there with the second part, and the first
regroup : (F : Family) (l r : List ℕ) (m : ℕ) {W A B : Type 0} → W ↔ (A ⊎ Union F (l ++ r) m) → B ↔ (A ⊎ Union F r m)
    → W ↔ (B ⊎ Union F l m)
regroup F l r m {W} {A} {B} w b = (
  (λ t.
      ⊎_elim {C = B ⊎ Union F l m} (λ y. inl (b.1 (inl y)))
      (λ u. ⊎_elim {C = B ⊎ Union F l m} (λ y. inr y) (λ y. inl (b.1 (inr y))) (union-cases F l r m u))
      (w.0 t)),
  (λ e.
      w.1
      (⊎_elim {C = A ⊎ Union F (l ++ r) m}
      (λ y. ⊎_elim {C = A ⊎ Union F (l ++ r) m} (λ z. inl z) (λ u. inr (union_right F l r m u)) (b.0 y))
      (λ u. inr (union_left F l r m u))
      e)),
)

-- ---- the empty family

none_in : (m : ℕ) → m < 16384 → T (in_family (replicate 256 0) m) → ⊥
unfolding in_family
none_in m h t =
    let e : has (get_or (replicate 256 0) (m / 64) 0) (m % 64) ≡ false =
    ap (λ (y : ℕ). has y (m % 64)) (get_or-replicate 256 (m / 64) 0 0 (omega arith)) ∙ has-none (m % 64) in
    subst T e t

none-absorbs : (l : List ℕ) → Absorbs (in_family (replicate 256 0)) l
none-absorbs l m h = ((λ t. absurd (none_in m h t)), λ u. absurd (none_in u.0 u.2 u.3))

-- ---- going along

module _ (cells bodies held : List ℕ) where
  -- Parts are united up to a link, which is left.
  pub record Choosing (place bound recs : ℕ) (start all : List ℕ) (kept at : ℕ) : Type 0 where
    pub room : length all ≡ 256
    pub ends : Ends cells bodies bound at
    pub falls : weight at ≤ weight place
    pub whole : (senses : List Sense) → Explained cells bodies senses → Held cells bodies senses held
        → Settled cells bodies senses (in_family start) recs → (m : ℕ) → m < 16384
        → Union (in_family start) (ready_by cells bodies senses place) m
        ↔ (T (in_family all m) ⊎ Union (in_family start) (ready_by cells bodies senses at) m)
    pub settled : (senses : List Sense) → Explained cells bodies senses → Held cells bodies senses held
        → Settled cells bodies senses (in_family start) recs
        → Settled cells bodies senses (in_family all) kept

  pub choosing-none : (place bound recs kept : ℕ) {start : List ℕ} → Ends cells bodies bound place
      → Choosing place bound recs start (replicate 256 0) kept place
  choosing-none place bound recs kept ends = record {
    room = length-replicate {A = ℕ} 256 0;
    ends = ends;
    falls = omega arith;
    whole = λ senses x k s m h. ((λ u. inr u), λ e. ⊎_elim (λ t. absurd (none_in m h t)) (λ u. u) e);
    settled = λ senses x k s r h t. none-absorbs (ready_by cells bodies senses (256 + r));
  }

  module _ {place bound recs : ℕ} {start all : List ℕ} {kept at : ℕ} (known : Choosing place bound recs start all kept at)
      {link : ℕ} {all' : List ℕ} {kept' : ℕ} (part : Added cells bodies held link recs start all all' kept kept') where
    keeps-settled : (senses : List Sense) → Explained cells bodies senses → Held cells bodies senses held
        → Settled cells bodies senses (in_family start) recs
        → Settled cells bodies senses (in_family all') kept'
    keeps-settled senses x k s r h t =
        let added = part.added senses x k s in
        let kept-both = added.3 r h t in
        absorbs-either (in_family all) added.0 (in_family all') _ (known.settled senses x k s r h kept-both.0) kept-both.1
        added.2

    -- in what is united: it was before, or it is of the part that was added
    from_all : (senses : List Sense) → Explained cells bodies senses → Held cells bodies senses held
        → Settled cells bodies senses (in_family start) recs → (m : ℕ) → m < 16384
        → T (in_family all' m) ↔ (T (in_family all m) ⊎ Union (in_family start) (ready_by cells bodies senses link) m)
    from_all senses x k s m h =
        let added = part.added senses x k s in (
          (λ t.
              ⊎_elim {C = T (in_family all m) ⊎ Union (in_family start) (ready_by cells bodies senses link) m} (λ y. inl y)
              (λ y. inr ((added.1 m h).0 y))
              (or_cases (in_family all m) (added.0 m) (subst T (added.2 m h) t))),
          (λ e.
              subst⁻¹ T (added.2 m h)
              (⊎_elim (λ y. or_left (in_family all m) (added.0 m) y)
              (λ u. or_right (in_family all m) (added.0 m) ((added.1 m h).1 u))
              e)),
        )

  -- the last part: what is united is the whole
  pub choosing-ends : {place bound recs : ℕ} {start all : List ℕ} {kept at : ℕ} → Choosing place bound recs start all kept at
      → {all' : List ℕ} {kept' : ℕ} → Added cells bodies held at recs start all all' kept kept'
      → JoinedBy cells bodies held place recs start all' kept'
  choosing-ends known part = record {
    room = part.room;
    joined = λ senses x k s m h.
        let w = known.whole senses x k s m h in
        let a = from_all known part senses x k s m h in
        ((λ t. w.1 (a.0 t)), λ u. a.1 (w.0 u));
    settled = keeps-settled known part;
  }

  -- the ready sets of an internal choice
  both-parts : (senses : List Sense) (at : ℕ) → Explained cells bodies senses → Choice cells at → at < 256
      → ready_by cells bodies senses at
      ≡ ready_by cells bodies senses (unpacked (get_or cells at 0)).left ++ ready_by cells bodies senses (unpacked (get_or cells at 0)).right
  unfolding cell_at ready_by
  both-parts senses at x choice small =
      ready-place cells bodies senses at small ∙ x.inner_ready at choice.after choice.inside choice.inner

  pub parts-of : {bound at : ℕ} → Ends cells bodies bound at → Choice cells at → at < 256 → Parts cells bodies bound at
  parts-of ends choice small = to-parts cells bodies ends choice.after small (omega (arith, choice.inner))

  -- one part more
  module _ {place bound recs : ℕ} {start all : List ℕ} {kept at : ℕ} (known : Choosing place bound recs start all kept at)
      (choice : Choice cells at) (small : at < 256) {all' : List ℕ} {kept' left right : ℕ}
      (is-left : left ≡ (unpacked (get_or cells at 0)).left) (is_right : right ≡ (unpacked (get_or cells at 0)).right)
      (part : Added cells bodies held right recs start all all' kept kept') where
    whole-more : (senses : List Sense) → Explained cells bodies senses → Held cells bodies senses held
        → Settled cells bodies senses (in_family start) recs → (m : ℕ) → m < 16384
        → Union (in_family start) (ready_by cells bodies senses place) m
        ↔ (T (in_family all' m) ⊎ Union (in_family start) (ready_by cells bodies senses left) m)
    whole-more senses x k s m h =
        let F = in_family start in
        let by = ready_by cells bodies senses in
        let parts : by at ≡ by left ++ by right =
        both-parts senses at x choice small ∙ sym (ap (λ (y : ℕ). by y ++ by (unpacked (get_or cells at 0)).right) is-left)
        ∙ sym (ap (λ (y : ℕ). by left ++ by y) is_right) in
        let w = subst (λ (l : List ℕ). Union F (by place) m ↔ (T (in_family all m) ⊎ Union F l m)) parts (known.whole senses x k s m h) in
        regroup F (by left) (by right) m w (from_all known part senses x k s m h)

    pub choosing-more : Choosing place bound recs start all' kept' left
    choosing-more = let parts = parts-of known.ends choice small in record {
      room = part.room;
      ends = subst⁻¹ (Ends cells bodies bound) is-left parts.left-ends;
      falls = omega (arith, ap weight is-left, lighter at (unpacked (get_or cells at 0)).left small parts.left-falls, known.falls);
      whole = whole-more;
      settled = keeps-settled known part;
    }
