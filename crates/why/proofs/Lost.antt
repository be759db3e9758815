-- What the rounds remove is lost, in either mode: from there the most demanding client brings every strategy to a bad end. By induction on the
-- rounds: a situation that fails is a trap, where no code can be made, or one that the buffer does not allow, or one to a situation removed
-- earlier.
-- Assumes nothing.
use mathlib.Core.Path.{◌≡◌, refl, ap, subst, ◌∙◌}
use mathlib.Core.Bool.{Bool, ◌&&◌}
use mathlib.Core.Logic.{inl, inr, ⊎_elim}
use mathlib.Core.Option.{Option, none, some}
use mathlib.Core.List.{List, [], ◌∷◌, ◌++◌, Memᴰ}
use Prim.Native.Nat.{ℕ, zero, suc, ◌<◌}
use lib.ListN.{length}
use lib.Dec.{T}
use Rattle.model.specs.Lists.{any}
use Rattle.model.specs.Contract.{Contract, State, partner, has, state, offers, after}
use Rattle.model.specs.Situation.{Situation, start, same, kind_of, codes, buffer_after, offered, old_after, new_after, next}
use Rattle.model.specs.Test.{Mode, test}
use Rattle.model.specs.Search.{Reached, at_start, by_move, member}
use Rattle.model.specs.Rounds.{moves_into, round, sift, sifted}
use Rattle.model.specs.Run.{need}
use Rattle.model.proofs.Lists.{dec-T, and_both, and-of, any-intro, any-elim, keep-intro}
use Rattle.model.proofs.Rounds.{member-intro, member-elim, moves-intro, sift-step}
use Rattle.model.proofs.Situation.{is_same, code-elim, kind-straight, kind-client, kind-service, behind, next-intro}
use Rattle.model.proofs.Attempts.{need-straight, need-client, need-service, need-code}
use Rattle.model.proofs.Test.{offers-of}
use Rattle.model.proofs.Weak.{reached-within}
use Rattle.model.proofs.Sheet.{WellFormed}
use Rattle.why.specs.Demanding.{demanding}
use Rattle.why.specs.Game.{Strategy, Position, opening, client_after, Chosen, proceed, CanBeMade, Played, played_none, played_on, StandsStill}
use Rattle.why.specs.Game.{EndsBadly}
use Rattle.why.proofs.Demanding.{demanding-after, demanding-state}
use Rattle.why.proofs.Trap.{Trap, failing-trap}

-- the position at a situation, with a history: the client stands where the old contract does
unfoldable standing : Situation → List ℕ → Position
standing s made = record { client = s.old; service = s.new; old = s.old; buffer = s.buffer; history = made }

module _ (mode : Mode) (limits : List ℕ) (σ τ : Contract) (σ-formed : WellFormed σ) (τ-formed : WellFormed τ) (offer : Strategy) where
  abbrev nx : Situation → ℕ → Option Situation
  nx = next limits σ τ

  abbrev BadEnd : Type 0
  BadEnd = EndsBadly mode limits (demanding mode σ) σ τ offer

  -- ---- a code that a trap's choice needs

  module _ (A : List ℕ) (s : Situation) (within : s.old < length σ.states) (trap : Trap mode σ τ A s) where
    abbrev R : ℕ
    R = trap.R

    abbrev S : ℕ
    S = trap.S

    abbrev p : State
    p = state σ s.old

    abbrev q : State
    q = state τ s.new

    -- its action is offered
    action-offered : (code : ℕ) → Memᴰ code codes → T (need R S (kind_of code)) → T (offered p q (kind_of code))
    unfolding offered
    action-offered =
        code-elim (λ (code : ℕ). T (need R S (kind_of code)) → T (offered p q (kind_of code)))
        (λ j h t.
        let w = need-straight R S j h t in
        rw (kind-straight j h) (and-of (offers p j) (offers q j) (trap.asks j h w.1) (offers-of q S j trap.of_service w.0)))
        (λ j h t. rw (kind-client j h) (trap.asks j h (need-client R S j h t)))
        (λ j h t. rw (kind-service j h) (offers-of q S j trap.of_service (need-service R S j h t)))

    by-partner : (j : ℕ) → j < 14 → T (has R (partner j)) → after (state (demanding mode σ) s.old) (partner j) ≡ after p j
    by-partner j h t =
        let d = demanding-state mode σ s.old within in
        ap (λ (s : State). after s (partner j)) d
        ∙ demanding-after mode p j h
        (subst (λ (s : State). T (offers s (partner j))) d (offers-of (state (demanding mode σ) s.old) R (partner j) trap.of_client t))

    -- the client goes on as the old contract does
    abbrev GoesAlike : ℕ → Type 0
    GoesAlike code = client_after s.old (state (demanding mode σ) s.old) (kind_of code) ≡ old_after s.old p (kind_of code)

    client-goes : (code : ℕ) → Memᴰ code codes → T (need R S (kind_of code)) → GoesAlike code
    unfolding client_after old_after
    client-goes =
        code-elim (λ (code : ℕ). T (need R S (kind_of code)) → GoesAlike code)
        (λ j h t. rw (kind-straight j h) (by-partner j h (need-straight R S j h t).1))
        (λ j h t. rw (kind-client j h) (by-partner j h (need-client R S j h t)))
        (λ j h t. rw (kind-service j h) refl)

    -- so the position goes on as the situation does
    goes_on : (made b : List ℕ) (code : ℕ) → T (need R S (kind_of code))
        → proceed (demanding mode σ) σ τ (standing s made) code b ≡ standing (behind limits σ τ s b (kind_of code)) (made ++ code ∷ [])
    unfolding standing proceed
    goes_on made b code t = ap at-client (client-goes code (need-code R S code t) t)
      where
        at-client : ℕ → Position
        at-client c =
            record {
              client = c;
              service = new_after s.new q (kind_of code);
              old = old_after s.old p (kind_of code);
              buffer = b;
              history = made ++ code ∷ [];
            }

  -- ---- a round

  -- a play that leads to the situation goes on to a bad end
  abbrev Lost : Situation → Type 0
  Lost s = (made : List ℕ) → Played limits (demanding mode σ) σ τ offer (standing s made) → BadEnd

  -- what is reached and not there is lost
  abbrev LostBut : List Situation → Type 0
  LostBut there = (s : Situation) → Reached codes nx start s → (Memᴰ s there → ⊥) → Lost s

  module _ (there : List Situation) (lost-but : LostBut there) (s : Situation) (reached : Reached codes nx start s)
      (trap : Trap mode σ τ (moves_into same codes nx there s) s) where
    abbrev within : s.old < length σ.states
    within = (reached-within limits σ τ σ-formed τ-formed reached).0

    chosen : (made : List ℕ) → Chosen (demanding mode σ) τ (standing s made) trap.R trap.S
    unfolding standing
    chosen made = record { of_client = trap.of_client; of_service = trap.of_service }

    -- a code can be made: the buffer does not allow it, or it leads to what was removed earlier
    by_code : (made : List ℕ) → Played limits (demanding mode σ) σ τ offer (standing s made)
        → (code : ℕ) → CanBeMade offer (standing s made) trap.R trap.S code → BadEnd
    unfolding standing
    by_code made played code can = go (buffer_after limits s.buffer (kind_of code)) refl
      where
        go : (o : Option (List ℕ)) → buffer_after limits s.buffer (kind_of code) ≡ o → BadEnd
        go none x =
            record {
              at = standing s made;
              played = played;
              badly = inr (inl (record { R = trap.R; S = trap.S; code = code; chosen = chosen made; can = can; leaves = x }));
            }
        go (some b) x =
            let A = moves_into same codes nx there s in
            let known = need-code trap.R trap.S code can.needed in
            let t = behind limits σ τ s b (kind_of code) in
            let offered-now = action-offered A s within trap code known can.needed in
            let leads : nx s code ≡ some t = next-intro limits σ τ s code (kind_of code) b refl offered-now x in
            lost-but t (by_move code known leads reached)
            (λ m. trap.shut code known can.needed (moves-intro same is_same codes nx there s code t known leads m))
            (made ++ code ∷ [])
            (subst (Played limits (demanding mode σ) σ τ offer) (goes_on A s within trap made b code can.needed)
            (played_on trap.R trap.S code played (chosen made) can x))

    -- to stand still here is a bad end
    stopped : (made : List ℕ) → Played limits (demanding mode σ) σ τ offer (standing s made)
        → StandsStill limits (demanding mode σ) σ τ offer (standing s made) trap.R trap.S → BadEnd
    unfolding standing
    stopped made played stands =
        record {
          at = standing s made;
          played = played;
          badly =
              ⊎_elim (λ u. inl (record { R = trap.R; S = trap.S; stands = stands; unmarked = u }))
              (λ w. inr (inr (w.0, record { R = trap.R; S = trap.S; stands = stands; rests = w.1; waits = w.2 })))
              trap.bad;
        }

    -- no code can be made, or one of them is
    trapped : Lost s
    unfolding standing
    trapped made played =
        let possible : ℕ → Bool = λ code. offer made code && need trap.R trap.S (kind_of code) in
        ⊎_elim
        (λ t.
        let c = any-elim possible codes t in
        let both = and_both (offer made c.0) (need trap.R trap.S (kind_of c.0)) c.2 in
        by_code made played c.0 (record { is_offered = both.0; needed = both.1 }))
        (λ t.
        stopped made played
        (record {
          chosen = chosen made;
          none_made = λ code can.
              t (any-intro possible (need-code trap.R trap.S code can.needed)
              (and-of (offer made code) (need trap.R trap.S (kind_of code)) can.is_offered can.needed));
        }))
        (dec-T (any possible codes))

  -- ---- all rounds

  round-lost : (there : List Situation) → LostBut there → LostBut (round same codes nx (test mode σ τ) there)
  unfolding round
  round-lost there lost-but s reached out =
      let passes : Situation → Bool = λ s. test mode σ τ (moves_into same codes nx there s) s in
      ⊎_elim
      (λ t.
      trapped there lost-but s reached
      (failing-trap mode σ τ (moves_into same codes nx there s) s (reached-within limits σ τ σ-formed τ-formed reached).0
      (λ u. out (keep-intro passes (member-elim same is_same s there t) u))))
      (λ t. lost-but s reached (λ m. t (member-intro same is_same m))) (dec-T (member same s there))

  sift-lost : (fuel : ℕ) (there : List Situation) → LostBut there → LostBut (sift same codes nx (test mode σ τ) fuel there).kept
  sift-lost zero there lost-but = unfold sift in lost-but
  sift-lost (suc fuel) there lost-but =
      ⊎_elim (λ w. rw w.1 lost-but)
      (λ w. rw w.1 (sift-lost fuel (round same codes nx (test mode σ τ) there) (round-lost there lost-but)))
      (sift-step same is_same codes nx (test mode σ τ) fuel there)

  -- if the rounds over all that is reached remove the start, every strategy ends badly
  pub start-lost : (reached : List Situation) → ((s : Situation) → Reached codes nx start s → Memᴰ s reached)
      → (Memᴰ start (sifted same codes nx (test mode σ τ) reached).kept → ⊥) → BadEnd
  unfolding sifted standing start opening
  start-lost reached all-reached out =
      sift-lost (length reached) reached (λ s r m. absurd (m (all-reached s r))) start (at_start refl) out [] played_none
