-- A situation that fails the test is a trap: the most demanding client and the new service choose ready sets that need no code of A. If the
-- first part of the test fails, the old state does not rest, and the client asks for uncovered actions only. If the second part fails, the
-- client is content, and a message waits.
-- Assumes nothing.
use mathlib.Core.Path.{◌≡◌, refl, subst⁻¹}
use mathlib.Core.Bool.{◌&&◌}
use mathlib.Core.Logic.{◌⊎◌, inl, inr, ⊎_elim}
use mathlib.Core.List.{List, Memᴰ}
use Prim.Native.Nat.{ℕ, ◌^◌, ◌<◌}
use native.Mathlib.Omega.{arith}
use lib.ListN.{length}
use lib.Dec.{T}
use Rattle.model.specs.Contract.{Contract, State, partner, has, state, offers_in, offers}
use Rattle.model.specs.Situation.{Situation, kind_of, codes}
use Rattle.model.specs.Test.{hope, Mode, is_settled, rests, test}
use Rattle.model.specs.Weak.{Rests, Waits}
use Rattle.model.specs.Run.{need}
use Rattle.model.proofs.Lists.{and_both, and-of}
use Rattle.model.proofs.Actions.{partner-action, partner-injective}
use Rattle.model.proofs.Masks.{power-has}
use Rattle.model.proofs.Situation.{code-elim}
use Rattle.model.proofs.Test.{covered-intro, hope-intro, rests-elim, rests-intro}
use Rattle.model.proofs.Attempts.{need-straight, need-client, need-service}
use Rattle.why.specs.Demanding.{demands_at, demanding_state, demanding}
use Rattle.why.proofs.Demanding.{OnlyBad, demands-bad, content-ready, asking-ready, demanding-state}
use Rattle.why.proofs.Failing.{Uncovered, Unanswered, Undelivered, test-fails}

-- a choice at a situation, between the most demanding client of σ and τ
pub record Trap (mode : Mode) (σ τ : Contract) (A : List ℕ) (s : Situation) : Type 0 where
  pub R : ℕ
  pub S : ℕ
  pub of_client : Memᴰ R (state (demanding mode σ) s.old).ready
  pub of_service : Memᴰ S (state τ s.new).ready
  -- what the client asks for is offered by the old contract
  pub asks : (j : ℕ) → j < 14 → T (has R (partner j)) → T (offers (state σ s.old) j)
  -- no code of A can be made
  pub shut : (code : ℕ) → Memᴰ code codes → T (need R S (kind_of code)) → Memᴰ code A → ⊥
  -- to stand still here is a bad end
  pub bad : (T (has R 14) → ⊥) ⊎ (T (is_settled mode) × Rests (state σ s.old) × Waits s.buffer)

-- ---- S has no hope, and what R asks for is not covered

none_in : (A : List ℕ) (R S : ℕ) → (T (hope A S) → ⊥) → ((j : ℕ) → j < 14 → T (has R (partner j)) → Uncovered A S j)
    → (code : ℕ) → Memᴰ code codes → T (need R S (kind_of code)) → Memᴰ code A → ⊥
none_in A R S hopeless uncovered =
    code-elim (λ (code : ℕ). T (need R S (kind_of code)) → Memᴰ code A → ⊥)
    (λ j h t m. let w = need-straight R S j h t in uncovered j h w.1 (covered-intro A S j (inr (w.0, m))))
    (λ j h t m. uncovered j h (need-client R S j h t) (covered-intro A S j (inl m)))
    (λ j h t m. hopeless (hope-intro A S (j, h, need-service R S j h t, m)))

-- R has partners of uncovered actions only
module _ (ready A : List ℕ) (R S : ℕ) (only : OnlyBad (Uncovered A S) ready R) where
  asks-uncovered : (j : ℕ) → j < 14 → T (has R (partner j)) → T (offers_in ready j) × Uncovered A S j
  asks-uncovered j h t =
      let w = only (partner j) t in
      let e : j ≡ w.0 = partner-injective j w.0 h w.1 w.2 in
      (subst⁻¹ (λ (j : ℕ). T (offers_in ready j)) e w.3, subst⁻¹ (Uncovered A S) e w.4)

  no-mark : T (has R 14) → ⊥
  no-mark t = let w = only 14 t in absurd (omega (arith, w.2, partner-action w.0 w.1))

-- the success mark alone asks for nothing
asks_nothing : (j : ℕ) → j < 14 → T (has (2 ^ 14) (partner j)) → ⊥
asks_nothing j h t = absurd (omega (arith, power-has 14 (partner j) t, partner-action j h))

-- ---- the two parts

module _ (mode : Mode) (σ τ : Contract) (A : List ℕ) (s : Situation) (within : s.old < length σ.states)
    (S : ℕ) (of_service : Memᴰ S (state τ s.new).ready) where
  abbrev p : State
  p = state σ s.old

  -- a ready set of the client
  of-demands : (R : ℕ) → Memᴰ R (demands_at mode p) → Memᴰ R (state (demanding mode σ) s.old).ready
  unfolding demanding_state
  of-demands R m = subst⁻¹ (λ (p : State). Memᴰ R p.ready) (demanding-state mode σ s.old within) m

  -- a state with an uncovered action in each ready set does not rest
  restless : Unanswered p.ready A S → T (is_settled mode && rests p) → ⊥
  restless u t =
      let w = rests-elim p (and_both (is_settled mode) (rests p) t).1 in
      let v = u.uncovered w.0 w.1 in
      w.2 v.0 v.1 v.2

  unanswered-trap : Unanswered p.ready A S → Trap mode σ τ A s
  unfolding offers
  unanswered-trap u =
      let v = demands-bad (Uncovered A S) p.ready u.uncovered in
      let R = v.0 in
      record {
        R = R;
        S = S;
        of_client = of-demands R (subst⁻¹ (Memᴰ R) (asking-ready mode p (restless u)) v.1);
        of_service = of_service;
        asks = λ j h t. (asks-uncovered p.ready A R S v.2 j h t).0;
        shut = none_in A R S u.hopeless (λ j h t. (asks-uncovered p.ready A R S v.2 j h t).1);
        bad = inl (no-mark p.ready A R S v.2);
      }

  undelivered-trap : Undelivered mode p s.buffer A S → Trap mode σ τ A s
  undelivered-trap u =
      let content = and-of (is_settled mode) (rests p) u.is-settled (rests-intro p u.resting) in
      record {
        R = 2 ^ 14;
        S = S;
        of_client = of-demands (2 ^ 14) (subst⁻¹ (Memᴰ (2 ^ 14)) (content-ready mode p content) (Memᴰ.head refl));
        of_service = of_service;
        asks = λ j h t. absurd (asks_nothing j h t);
        shut = none_in A (2 ^ 14) S u.hopeless (λ j h t. absurd (asks_nothing j h t));
        bad = inr (u.is-settled, u.resting, u.waiting);
      }

pub failing-trap : (mode : Mode) (σ τ : Contract) (A : List ℕ) (s : Situation) → s.old < length σ.states
    → (T (test mode σ τ A s) → ⊥) → Trap mode σ τ A s
failing-trap mode σ τ A s within f =
    let w = test-fails mode σ τ A s f in
    ⊎_elim (unanswered-trap mode σ τ A s within w.0 w.1) (undelivered-trap mode σ τ A s within w.0 w.1) w.2
