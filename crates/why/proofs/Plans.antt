-- A plan is a strategy: it offers what the row of the state after the history holds. A play against it is a run whose attempts are all
-- moves, and position and history lead to the same situation, so a bad end of the one is a failure of the other.
-- Assumes nothing.
use mathlib.Core.Path.{◌≡◌, refl, sym, ap, subst, subst⁻¹, ◌∙◌}
use mathlib.Core.Bool.{Bool, true, false}
use mathlib.Core.Logic.{inl, inr, ⊎_elim}
use mathlib.Core.Option.{Option, none, some}
use mathlib.Core.List.{List, [], ◌∷◌, ◌++◌, Memᴰ}
use Prim.Native.Nat.{ℕ}
use lib.ListN.{get_or}
use lib.Dec.{T}
use Rattle.model.specs.Lists.{through}
use Rattle.model.specs.Contract.{Contract, state}
use Rattle.model.specs.Situation.{Situation, start, Kind, straight, client, service, stray, kind_of, buffer_after, new_after, with_buffer}
use Rattle.model.specs.Test.{Mode, is_settled}
use Rattle.model.specs.Plan.{Move, held}
use Rattle.model.specs.Run.{Run, begin, Attempt, row_at_run, move_to, moved, run_from, Standstill}
use Rattle.model.specs.History.{history_from, history, buffer_from, made_by, situation_from, situation_after}
use Rattle.model.proofs.Lists.{through-more}
use Rattle.model.proofs.Attempts.{choice-intro, move-is, moved-plan, moved-service, run-move}
use Rattle.model.proofs.History.{history-move, buffer-move, situation-move, situation-buffer}
use Rattle.why.specs.Game.{Strategy, Position, opening, client_after, Chosen, proceed, CanBeMade, Played, played_none, played_on, StandsStill}
use Rattle.why.specs.Game.{Hangs, BreaksLimits, LeavesBehind, EndsBadly, StillAfter, PlanFails}

-- there is one
given : Option ℕ → Bool
given none = false
given (some to) = true

given-elim : (o : Option ℕ) → T (given o) → (to : ℕ) × (o ≡ some to)
unfolding given
given-elim none t = absurd t
given-elim (some to) t = (to, refl)

module _ (rows : List (List Move)) where
  -- where a code leads from a state of the plan
  step : ℕ → ℕ → Option ℕ
  step i code = held (get_or rows i []) code

  -- the plan as a strategy
  pub planned : Strategy
  planned made code = given (through step 0 (made ++ code ∷ []))

-- ---- the situation of a position

-- the old state, the service's and the buffer
abbrev pub situation_of : Position → Situation
situation_of x = record { buffer = x.buffer; old = x.old; new = x.service }

-- it goes on with the position
made-on : (limits : List ℕ) (user old new : Contract) (x : Position) (b : List ℕ) (code : ℕ)
    → buffer_after limits x.buffer (kind_of code) ≡ some b
    → made_by limits old new (situation_of x) (kind_of code) ≡ some (situation_of (proceed user old new x code b))
unfolding made_by with_buffer proceed
made-on limits user old new x b code e = rw e refl

-- it is the situation that the history of the play leads to
pub played-leads : (limits : List ℕ) (user old new : Contract) (offer : Strategy) {x : Position} → Played limits user old new offer x
    → situation_after limits old new x.history ≡ some (situation_of x)
unfolding opening start situation_from through proceed
played-leads limits user old new offer played_none = refl
played-leads limits user old new offer (played_on {x = x} {b = b} R S code p chosen can e) =
    situation-move limits old new x.history start (situation_of x) code (played-leads limits user old new offer p)
    ∙ made-on limits user old new x b code e

-- ---- runs

module _ (user new : Contract) (rows : List (List Move)) where
  -- the client goes on in a run as in a play
  moved-client : (r : Run) (kind : Kind) (to : ℕ)
      → (moved user new rows r kind to).client ≡ client_after r.client (state user r.client) kind
  unfolding moved client_after
  moved-client r (straight j) to = refl
  moved-client r (client j) to = refl
  moved-client r (service j) to = refl
  moved-client r stray to = refl

  -- a run that stands where the play does
  record AsRun (x : Position) : Type 0 where
    attempts : List Attempt
    r : Run
    is : run_from user new rows begin attempts ≡ r
    client : r.client ≡ x.client
    service : r.service ≡ x.service
    plan : through (step rows) 0 x.history ≡ some r.plan
    made : history user new rows attempts ≡ x.history

  -- ---- at a position

  module _ (x : Position) (d : AsRun x) where
    abbrev r : Run
    r = d.r

    row_is : (code : ℕ) → through (step rows) 0 (x.history ++ code ∷ []) ≡ held (row_at_run user new rows r) code
    unfolding row_at_run step
    row_is code = through-more (step rows) x.history 0 r.plan code d.plan

    choosing : (R S : ℕ) → Chosen user new x R S
        → Memᴰ R (state user r.client).ready × Memᴰ S (state new r.service).ready
    choosing R S c = (
      subst⁻¹ (λ (p : ℕ). Memᴰ R (state user p).ready) d.client c.of_client,
      subst⁻¹ (λ (q : ℕ). Memᴰ S (state new q).ready) d.service c.of_service,
    )

    -- what can be made is a move of the run
    as-move : (R S code : ℕ) → Chosen user new x R S → CanBeMade (planned rows) x R S code
        → (to : ℕ) × (move_to user new rows (run_from user new rows begin d.attempts) (record { R = R; S = S; code = code }) ≡ some to)
        × (held (row_at_run user new rows r) code ≡ some to)
    unfolding planned
    as-move R S code c can =
        let w = given-elim (held (row_at_run user new rows r) code)
        (subst (λ (o : Option ℕ). T (given o)) (row_is code) can.is_offered) in
        let m = choosing R S c in (
          w.0,
          subst⁻¹ (λ (r : Run). move_to user new rows r (record { R = R; S = S; code = code }) ≡ some w.0) d.is
              (move-is user new rows r (record { R = R; S = S; code = code }) w.0
              (record { chosen = choice-intro user new rows r R S m.0 m.1; needed = can.needed; holds = w.1 })),
          w.1,
        )

    module _ (limits : List ℕ) (old : Contract) where
      -- a standstill of the play is one of the run
      still : (R S : ℕ) → StandsStill limits user old new (planned rows) x R S → StillAfter user new rows d.attempts R S
      unfolding planned given
      still R S w =
          let m = choosing R S w.chosen in
          subst⁻¹ (λ (r : Run). Standstill user new rows r R S) d.is
          (record {
            chosen = choice-intro user new rows r R S m.0 m.1;
            stuck = λ code to e n.
                w.none_made code
                (record { is_offered = subst⁻¹ (λ (o : Option ℕ). T (given o)) (row_is code ∙ e) tt; needed = n });
          })

      module _ (mode : Mode) (leads : situation_after limits old new x.history ≡ some (situation_of x)) where
        hanging : Hangs limits user old new (planned rows) x → PlanFails mode limits user old new rows
        hanging w = record { attempts = d.attempts; fails = inl (w.R, w.S, still w.R w.S w.stands, w.unmarked) }

        breaking : BreaksLimits limits user old new (planned rows) x → PlanFails mode limits user old new rows
        breaking w =
            let a : Attempt = record { R = w.R; S = w.S; code = w.code } in
            let m = as-move w.R w.S w.code w.chosen w.can in
            record {
              attempts = d.attempts ++ a ∷ [];
              fails = inr (inl (
                  ap (buffer_from limits start.buffer)
                  (history-move user new rows d.attempts begin a m.0 m.1 ∙ ap (λ (l : List ℕ). l ++ w.code ∷ []) d.made)
                  ∙ buffer-move limits x.history start.buffer x.buffer w.code
                  (situation-buffer limits old new x.history start (situation_of x) leads)
                  ∙ w.leaves
                  ));
            }

        leaving : T (is_settled mode) → LeavesBehind limits user old new (planned rows) x → PlanFails mode limits user old new rows
        leaving is-settled w =
            record {
              attempts = d.attempts;
              fails = inr (inr (
                is-settled,
                record {
                  R = w.R;
                  S = w.S;
                  stands = still w.R w.S w.stands;
                  at = situation_of x;
                  leads = ap (situation_after limits old new) d.made ∙ leads;
                  rests = w.rests;
                  waits = w.waits;
                },
              ));
            }

  -- ---- every position of a play

  as-run : (limits : List ℕ) (old : Contract) {x : Position} → Played limits user old new (planned rows) x → AsRun x
  unfolding opening begin run_from history_from through proceed
  as-run limits old played_none =
      record { attempts = []; r = begin; is = refl; client = refl; service = refl; plan = refl; made = refl }
  as-run limits old (played_on {x = x} {b = b} R S code p chosen can e) =
      let d = as-run limits old p in
      let a : Attempt = record { R = R; S = S; code = code } in
      let m = as-move x d R S code chosen can in
      let goes = run-move user new rows d.attempts begin a m.0 m.1 in
      record {
        attempts = d.attempts ++ a ∷ [];
        r = moved user new rows d.r (kind_of code) m.0;
        is = goes ∙ ap (λ (r : Run). moved user new rows r (kind_of code) m.0) d.is;
        client = moved-client d.r (kind_of code) m.0 ∙ ap (λ (p : ℕ). client_after p (state user p) (kind_of code)) d.client;
        service = moved-service user new rows d.r (kind_of code) m.0 ∙ ap (λ (q : ℕ). new_after q (state new q) (kind_of code)) d.service;
        plan = row_is x d code ∙ m.2 ∙ ap some (sym (moved-plan user new rows d.r (kind_of code) R S m.0 can.needed));
        made = history-move user new rows d.attempts begin a m.0 m.1 ∙ ap (λ (l : List ℕ). l ++ code ∷ []) d.made;
      }

-- a bad end against the plan as a strategy
pub plan-fails : (mode : Mode) (limits : List ℕ) (user old new : Contract) (rows : List (List Move))
    → EndsBadly mode limits user old new (planned rows) → PlanFails mode limits user old new rows
plan-fails mode limits user old new rows w =
    let d = as-run user new rows limits old w.played in
    let leads = played-leads limits user old new (planned rows) w.played in
    ⊎_elim (hanging user new rows w.at d limits old mode leads)
    (⊎_elim (breaking user new rows w.at d limits old mode leads)
    (λ l. leaving user new rows w.at d limits old mode leads l.0 l.1))
    w.badly
