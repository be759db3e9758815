-- The test of a situation computes what its mode asks of a set of moves: condition (1) of definition 3.7 of Padovani 2010, and in the settled
-- mode the second part. Either grows with the moves of the set that the new state can meet, so both modes are uses of what is proved of any
-- test.
-- Assumes nothing.
use mathlib.Core.Bool.{Bool, true, not, cond, ◌&&◌}
use mathlib.Core.Logic.{◌⊎◌, inl, inr, ⊎_elim}
use mathlib.Core.List.Memᴰ
use mathlib.Core.List.{List, Memᴰ}
use Prim.Native.Nat.{ℕ, ◌+◌, ◌<◌}
use native.Mathlib.Omega.{arith}
use lib.ListN.{get_or}
use lib.Dec.{T, eqb, ltb, eqb→eq, eqb_refl, ltb→lt, lt→ltb}
use Rattle.model.specs.Lists.{any, all, upto}
use Rattle.model.specs.Contract.{Contract, State, actions, has, state, offers_in, offers}
use Rattle.model.specs.Situation.{Situation}
use Rattle.model.specs.Test.{listed, covered, covers, hope, answered, Mode, is_settled, silent, rests, waits, asked, delivered, test}
use Rattle.model.specs.Weak.{Perceived, Covered, Hope, Rests, Waits, Asks, AsksAt}
use Rattle.model.proofs.Lists.{any-intro, any-elim, all-intro, all-elim, and_both, and-of, or_cases, or_left, or_right, if-elim, if-intro}
use Rattle.model.proofs.Lists.{not-elim, not-intro}
use Rattle.model.proofs.Actions.{mem-upto, upto-mem, action, action-below}
use Rattle.model.proofs.Rounds.{IsTest}

pub listed-intro : {A : List ℕ} {c : ℕ} → Memᴰ c A → T (listed A c)
unfolding listed
listed-intro {A} {c} m = any-intro (eqb c) m (eqb_refl c)

pub listed-elim : (A : List ℕ) (c : ℕ) → T (listed A c) → Memᴰ c A
unfolding listed
listed-elim A c t = let w = any-elim (eqb c) A t in Memᴰ.cast (eqb→eq c w.0 w.2) w.1

covered-elim : (A : List ℕ) (S j : ℕ) → T (covered A S j) → Perceived (λ c. Memᴰ c A) S j
unfolding covered
covered-elim A S j t =
    ⊎_elim (λ q. inl (listed-elim A (16 + j) q))
    (λ q. let w = and_both (has S j) (listed A j) q in inr (w.0, listed-elim A j w.1))
    (or_cases (listed A (16 + j)) (has S j && listed A j) t)

pub covered-intro : (A : List ℕ) (S j : ℕ) → Perceived (λ c. Memᴰ c A) S j → T (covered A S j)
unfolding covered
covered-intro A S j (inl m) = or_left (listed A (16 + j)) (has S j && listed A j) (listed-intro m)
covered-intro A S j (inr m) =
    or_right (listed A (16 + j)) (has S j && listed A j) (and-of (has S j) (listed A j) m.0 (listed-intro m.1))

covers-elim : (A : List ℕ) (S R : ℕ) → T (covers A S R) → Covered (λ c. Memᴰ c A) S R
unfolding covers
covers-elim A S R t j h r =
    covered-elim A S j (if-elim (has R j) (covered A S j) (all-elim (λ j. cond (has R j) (covered A S j) true) (action j h) t) r)

covers-intro : (A : List ℕ) (S R : ℕ) → Covered (λ c. Memᴰ c A) S R → T (covers A S R)
unfolding covers
covers-intro A S R f =
    all-intro (λ j. cond (has R j) (covered A S j) true) actions
    (λ j m. if-intro (has R j) (covered A S j) (λ r. covered-intro A S j (f j (action-below j m) r)))

pub hope-elim : (A : List ℕ) (S : ℕ) → T (hope A S) → Hope (λ c. Memᴰ c A) S
unfolding hope
hope-elim A S t =
    let w = any-elim (λ j. has S j && listed A (32 + j)) actions t in
    let v = and_both (has S w.0) (listed A (32 + w.0)) w.2 in
    (w.0, action-below w.0 w.1, v.0, listed-elim A (32 + w.0) v.1)

pub hope-intro : (A : List ℕ) (S : ℕ) → Hope (λ c. Memᴰ c A) S → T (hope A S)
unfolding hope
hope-intro A S w =
    any-intro (λ j. has S j && listed A (32 + j)) (action w.0 w.1)
    (and-of (has S w.0) (listed A (32 + w.0)) w.2 (listed-intro w.3))

-- ---- what is answered

-- a ready set S is answered exactly if condition (1) holds of it, `ready` being the old state's ready sets
pub answered-elim : (ready A : List ℕ) (S : ℕ) → T (answered ready A S)
    → ((R : ℕ) × Memᴰ R ready × Covered (λ c. Memᴰ c A) S R) ⊎ Hope (λ c. Memᴰ c A) S
unfolding answered
answered-elim ready A S t =
    ⊎_elim (λ q. let w = any-elim (covers A S) ready q in inl (w.0, w.1, covers-elim A S w.0 w.2))
    (λ q. inr (hope-elim A S q))
    (or_cases (any (covers A S) ready) (hope A S) t)

pub answered-intro : (ready A : List ℕ) (S : ℕ) → ((R : ℕ) × Memᴰ R ready × Covered (λ c. Memᴰ c A) S R) ⊎ Hope (λ c. Memᴰ c A) S
    → T (answered ready A S)
unfolding answered
answered-intro ready A S (inl w) =
    or_left (any (covers A S) ready) (hope A S) (any-intro (covers A S) w.1 (covers-intro A S w.0 w.2))
answered-intro ready A S (inr w) = or_right (any (covers A S) ready) (hope A S) (hope-intro A S w)

-- ---- when the second part is asked

pub silent-elim : (R : ℕ) → T (silent R) → (j : ℕ) → j < 14 → T (has R j) → ⊥
unfolding silent
silent-elim R t j h = not-elim (has R j) (all-elim (λ j. not (has R j)) (action j h) t)

pub silent-intro : (R : ℕ) → ((j : ℕ) → j < 14 → T (has R j) → ⊥) → T (silent R)
unfolding silent
silent-intro R f = all-intro (λ j. not (has R j)) actions (λ j m. not-intro (has R j) (f j (action-below j m)))

pub rests-elim : (p : State) → T (rests p) → Rests p
unfolding rests
rests-elim p t = let w = any-elim silent p.ready t in (w.0, w.1, silent-elim w.0 w.2)

pub rests-intro : (p : State) → Rests p → T (rests p)
unfolding rests
rests-intro p w = any-intro silent w.1 (silent-intro w.0 w.2)

pub waits-elim : (b : List ℕ) → T (waits b) → Waits b
unfolding waits
waits-elim b t =
    let w = any-elim (λ i. ltb 0 (get_or b i 0)) (upto 0 7) t in
    (w.0, omega (arith, upto-mem 7 0 w.0 w.1), ltb→lt 0 (get_or b w.0 0) w.2)

pub waits-intro : (b : List ℕ) → Waits b → T (waits b)
unfolding waits
waits-intro b w =
    any-intro (λ i. ltb 0 (get_or b i 0)) (mem-upto 7 0 w.0 (omega arith) (omega (arith, w.1))) (lt→ltb 0 (get_or b w.0 0) w.2)

module _ (mode : Mode) (p : State) (b : List ℕ) where
  pub asked-elim : T (asked mode p b) → T (is_settled mode) × Rests p × Waits b
  unfolding asked
  asked-elim t =
      let w = and_both (is_settled mode) (rests p && waits b) t in
      let v = and_both (rests p) (waits b) w.1 in
      (w.0, rests-elim p v.0, waits-elim b v.1)

  asked-intro : T (is_settled mode) → Rests p → Waits b → T (asked mode p b)
  unfolding asked
  asked-intro s r w = and-of (is_settled mode) (rests p && waits b) s (and-of (rests p) (waits b) (rests-intro p r) (waits-intro b w))

  -- a ready set S is delivered exactly if it has hope wherever the second part is asked
  pub delivered-elim : (A : List ℕ) (S : ℕ) → T (delivered (asked mode p b) A S)
      → T (is_settled mode) → Rests p → Waits b → Hope (λ c. Memᴰ c A) S
  unfolding delivered
  delivered-elim A S t s r w = hope-elim A S (if-elim (asked mode p b) (hope A S) t (asked-intro s r w))

  pub delivered-intro : (A : List ℕ) (S : ℕ) → (T (is_settled mode) → Rests p → Waits b → Hope (λ c. Memᴰ c A) S)
      → T (delivered (asked mode p b) A S)
  unfolding delivered
  delivered-intro A S f =
      if-intro (asked mode p b) (hope A S) (λ t. let w = asked-elim t in hope-intro A S (f w.0 w.1 w.2))

-- ---- what is asked grows

-- a state offers what its ready sets have
pub offers-of : (p : State) (S j : ℕ) → Memᴰ S p.ready → T (has S j) → T (offers p j)
unfolding offers offers_in
offers-of p S j m h = any-intro (λ S. has S j) m h

-- the moves of A that the new state τ can meet are in B: it "also meets every 16+j"
pub record MetWithin (τ : State) (A B : ℕ → Type 0) : Type 0 where
  pub straight : (j : ℕ) → j < 14 → T (offers τ j) → A j → B j
  pub client : (j : ℕ) → j < 14 → A (16 + j) → B (16 + j)
  pub service : (j : ℕ) → j < 14 → T (offers τ j) → A (32 + j) → B (32 + j)

module _ (τ : State) {A B : ℕ → Type 0} (within : MetWithin τ A B) {S : ℕ} (m : Memᴰ S τ.ready) where
  hope-grows : Hope A S → Hope B S
  hope-grows w = (w.0, w.1, w.2, within.service w.0 w.1 (offers-of τ S w.0 m w.2) w.3)

  covered-grows : (R : ℕ) → Covered A S R → Covered B S R
  covered-grows R f j l r =
      ⊎_elim (λ a. inl (within.client j l a)) (λ a. inr (a.0, within.straight j l (offers-of τ S j m a.0) a.1)) (f j l r)

pub asks-grows : (mode : Mode) (σ τ : State) (b : List ℕ) (A B : ℕ → Type 0) → MetWithin τ A B → Asks mode σ τ b A → Asks mode σ τ b B
asks-grows mode σ τ b A B within h =
    record {
      passes = λ S m. ⊎_elim (λ w. inl (w.0, w.1, covered-grows τ within m w.0 w.2)) (λ w. inr (hope-grows τ within m w)) (h.passes S m);
      delivers = λ s r w S m. hope-grows τ within m (h.delivers s r w S m);
    }

-- ---- what a test must have

-- a test of situations computes what is asked, and what is asked grows with the moves that the new state can meet
pub record Computes (new : Contract) (passes : List ℕ → Situation → Bool) (asks : (ℕ → Type 0) → Situation → Type 0) : Type 1 where
  pub sound : (A : List ℕ) (s : Situation) → T (passes A s) → asks (λ (c : ℕ). Memᴰ c A) s
  pub complete : (A : List ℕ) (s : Situation) → asks (λ (c : ℕ). Memᴰ c A) s → T (passes A s)
  pub grows : (A B : ℕ → Type 0) (s : Situation) → MetWithin (state new s.new) A B → asks A s → asks B s

-- so it is one of those that rounds can be made with
pub rounds-test : {new : Contract} {passes : List ℕ → Situation → Bool} {asks : (ℕ → Type 0) → Situation → Type 0}
    → Computes new passes asks → IsTest passes asks
rounds-test d =
    record {
      sound = d.sound;
      complete = d.complete;
      grows = λ A B s f h.
          d.grows A B s (record { straight = λ j _ _ a. f j a; client = λ j _ a. f (16 + j) a; service = λ j _ _ a. f (32 + j) a }) h;
    }

-- ---- the two modes

pub mode-computes : (mode : Mode) (old new : Contract) → Computes new (test mode old new) (AsksAt mode old new)
unfolding test
mode-computes mode old new =
    record {
      sound = λ A s t.
          let p = state old s.old in
          let w = and_both (all (answered p.ready A) (state new s.new).ready)
          (all (delivered (asked mode p s.buffer) A) (state new s.new).ready) t in
          record {
            passes = λ S m. answered-elim p.ready A S (all-elim (answered p.ready A) m w.0);
            delivers = λ g r v S m.
                delivered-elim mode p s.buffer A S (all-elim (delivered (asked mode p s.buffer) A) m w.1) g r v;
          };
      complete = λ A s h.
          let p = state old s.old in
          let q = state new s.new in
          and-of (all (answered p.ready A) q.ready) (all (delivered (asked mode p s.buffer) A) q.ready)
          (all-intro (answered p.ready A) q.ready (λ S m. answered-intro p.ready A S (h.passes S m)))
          (all-intro (delivered (asked mode p s.buffer) A) q.ready
          (λ S m. delivered-intro mode p s.buffer A S (λ g r w. h.delivers g r w S m)));
      grows = λ A B s within h. asks-grows mode (state old s.old) (state new s.new) s.buffer A B within h;
    }
