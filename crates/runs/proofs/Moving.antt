-- A move of a run. Where its masks are ready sets of the two states and have what the code needs, those who go on offer the action; so
-- their successors are states, and the run goes where the model's does, by the kind of the code. Assumes nothing.
use mathlib.Core.Path.{◌≡◌, refl, sym, subst, subst⁻¹, ◌∙◌}
use mathlib.Core.Bool.{Bool, true}
use mathlib.Core.List.{List, [], Memᴰ}
use Prim.Native.Nat.{ℕ, ◌<◌}
use lib.Dec.{T}
use Rattle.model.specs.Contract.{partner, has, state, offers, after}
use Rattle.model.specs.Sheet.{contract_in}
use Rattle.model.specs.Situation.{Kind, straight, client, service, stray, kind_of}
use Rattle.model.specs.Run.{need, choice, moved}
use Rattle.model.proofs.Lists.{is_true, and_both}
use Rattle.model.proofs.Actions.{partner-action}
use Rattle.model.proofs.Ranges.{OfAction, kind-action}
use Rattle.model.proofs.Attempts.{choice-elim}
use Rattle.model.proofs.Test.{offers-of}
use Rattle.sheet.specs.Whole.{IsState}
use Rattle.sheet.specs.Offer.{IsOffered}
use Rattle.sheet.proofs.SuccessorAt.{successor-state}
use Rattle.runs.specs.Runs.{run_of, GoOn, MoveReady}
use Rattle.runs.specs.declared.Run.{Run}

-- ---- a move is ready

-- a state offers what one of its ready sets has
ready-offers : {b : List ℕ} {q : ℕ} (R j : ℕ) → IsState b q → Memᴰ R (state (contract_in b) q).ready → j < 14 → T (has R j)
    → IsOffered b q j
ready-offers {b} {q} R j at m l h =
    let s = state (contract_in b) q in
    record { at = at; action = l; offered = is_true (offers s j) (offers-of s R j m h) }

-- so under a choice, as the test of it says, those who go on offer what the need names
pub move-ready : {user new : List ℕ} (run : Run) (R S code : ℕ) {chosen needed : Bool} → IsState user run.client
    → IsState new run.service → chosen ≡ choice (contract_in user) (contract_in new) [] (run_of run) R S → chosen ≡ true
    → needed ≡ need R S (kind_of code) → needed ≡ true → MoveReady user new run (kind_of code)
unfolding need run_of
move-ready {user} {new} run R S code p q is-choice chosen is-need needed =
    record { client_at = p; service_at = q; going = go (kind_of code) (kind-action code) (subst⁻¹ T (sym is-need ∙ needed) tt) }
  where
    sets : Memᴰ R (state (contract_in user) run.client).ready × Memᴰ S (state (contract_in new) run.service).ready
    sets = choice-elim (contract_in user) (contract_in new) [] (run_of run) R S (subst⁻¹ T (sym is-choice ∙ chosen) tt)

    client-offers : (j : ℕ) → j < 14 → T (has R (partner j)) → IsOffered user run.client (partner j)
    client-offers j l h = ready-offers R (partner j) p sets.0 (partner-action j l) h

    go : (kind : Kind) → OfAction kind → T (need R S kind) → GoOn user new run.client run.service kind
    go (straight j) l h =
        let w = and_both (has S j) (has R (partner j)) h in
        (client-offers j l w.1, ready-offers S j q sets.1 l w.0)
    go (client j) l h = client-offers j l h
    go (service j) l h = ready-offers S j q sets.1 l h
    go stray l h = absurd h

-- ---- a move is made

module _ {user new : List ℕ} {run : Run} {kind : Kind} (m : MoveReady user new run kind) where
  -- those who go on, by the kind of the move
  go_on : {other : Kind} → kind ≡ other → GoOn user new run.client run.service other
  go_on e = subst (GoOn user new run.client run.service) e m.going

  pub straight-client : {i j : ℕ} → kind ≡ straight j → i ≡ partner j → IsOffered user run.client i
  straight-client e f = subst⁻¹ (IsOffered user run.client) f (go_on e).0

  pub straight-service : {j : ℕ} → kind ≡ straight j → IsOffered new run.service j
  straight-service e = (go_on e).1

  pub client-client : {i j : ℕ} → kind ≡ client j → i ≡ partner j → IsOffered user run.client i
  client-client e f = subst⁻¹ (IsOffered user run.client) f (go_on e)

  pub service-service : {j : ℕ} → kind ≡ service j → IsOffered new run.service j
  service-service e = go_on e

  -- states p, q and `to` are those of the model's run after the move; p and q are states of the sheets
  abbrev Made : (p q to : ℕ) → Type 0
  Made p q to =
      (record { client = p; service = q; plan = to } ≡ moved (contract_in user) (contract_in new) [] (run_of run) kind to)
      × (IsState user p × IsState new q)

  pub straight-made : {i j p q to : ℕ} → kind ≡ straight j → i ≡ partner j → p ≡ after (state (contract_in user) run.client) i
      → q ≡ after (state (contract_in new) run.service) j → Made p q to
  unfolding moved run_of
  straight-made e f g h = (rw (e, g, h, f) refl, (successor-state (straight-client e f) g, successor-state (straight-service e) h))

  pub client-made : {i j p to : ℕ} → kind ≡ client j → i ≡ partner j → p ≡ after (state (contract_in user) run.client) i
      → Made p run.service to
  unfolding moved run_of
  client-made e f g = (rw (e, g, f) refl, (successor-state (client-client e f) g, m.service_at))

  pub service-made : {j q to : ℕ} → kind ≡ service j → q ≡ after (state (contract_in new) run.service) j → Made run.client q to
  unfolding moved run_of
  service-made e h = (rw (e, h) refl, (m.client_at, successor-state (service-service e) h))

  -- no kind: the run stays as it is
  pub stray-made : (to : ℕ) → kind ≡ stray
      → (run_of run ≡ moved (contract_in user) (contract_in new) [] (run_of run) kind to)
      × (IsState user run.client × IsState new run.service)
  unfolding moved
  stray-made to e = (rw e refl, (m.client_at, m.service_at))
