-- Accepted plans from any hand run as emitted ones do, `any-hand`: plan state i stands for every situation with which it is reached. In the
-- settled mode they run as emitted settled ones do, `any-hand-settles`.
-- Assumes nothing.
use mathlib.Core.Path.{refl}
use mathlib.Core.List.{List, Memᴰ}
use Prim.Native.Nat.{ℕ}
use lib.Dec.{T}
use Rattle.model.specs.Contract.{Contract, State, partner, has, state}
use Rattle.model.specs.Situation.{Situation, Kind, straight, client, service, stray, kind_of, alike}
use Rattle.model.specs.Test.{Mode, settled, is_settled}
use Rattle.model.specs.Search.{at_start}
use Rattle.model.specs.Plan.{Move}
use Rattle.model.specs.Run.{need}
use Rattle.model.specs.Demands.{Runs, Settles}
use Rattle.model.proofs.Lists.{and_both}
use Rattle.model.proofs.Test.{offers-of, rounds-test, mode-computes}
use Rattle.model.proofs.Attempts.{need-code}
use Rattle.model.proofs.Upheld.{HeldAt, StandFor}
use Rattle.model.proofs.PlanRuns.{stand-runs, stand-settles}
use Rattle.edits.specs.Places.{Place, first_place, row_here, IsPlace}
use Rattle.edits.specs.Sound.{new_meets}
use Rattle.edits.specs.Promises.{RowCode, IsSound, AnyHand, AnyHandSettles}
use Rattle.edits.proofs.Places.{holds-code}
use Rattle.edits.proofs.Leads.{held-leads}
use Rattle.edits.proofs.Passed.{over-passed}

-- the new state can meet what a choice of its ready sets meets the need of
new-met : (q : State) (R S : ℕ) → Memᴰ S q.ready → (kind : Kind) → T (need R S kind) → T (new_meets q kind)
unfolding need new_meets
new-met q R S m (straight j) n = offers-of q S j m (and_both (has S j) (has R (partner j)) n).0
new-met q R S m (client j) n = tt
new-met q R S m (service j) n = offers-of q S j m n
new-met q R S m stray n = n

module _ (mode : Mode) (limits : List ℕ) (old new : Contract) (rows : List (List Move)) (sound : IsSound mode limits old new rows) where
  abbrev Stands : ℕ → Situation → Type 0
  Stands i s = IsPlace limits old new rows (record { plan = i; at = s })

  -- a held code whose need is met leads to a reached pair, and the row passes the test
  pub sound-stand : StandFor mode limits old new rows Stands
  unfolding first_place row_here
  sound-stand =
      record {
        begins = at_start refl;
        goes_on = λ i s r R S code to m n h.
            held-leads mode limits old new rows sound (record { plan = i; at = s }) r code to (need-code R S code n) h
            (new-met (state new s.new) R S m (kind_of code) n);
        asks = λ i s r.
            let x : Place = record { plan = i; at = s } in
            let held_All = holds-code (row_here limits old new rows x) in
            (rounds-test (mode-computes mode old new)).grows (RowCode mode limits old new rows x) (HeldAt rows i) s held_All (sound x r).passes;
      }

pub any-hand : AnyHand
any-hand R blank mode old new plan work sheet user attempts z read =
    over-passed blank mode old new plan work z (λ k σ τ. Runs k user.contract σ τ plan attempts)
    (λ p σ τ reads formed sound.
    stand-runs plan p reads mode p.k σ τ (Stands mode (alike p.k) σ τ p.rows sound)
    (sound-stand mode (alike p.k) σ τ p.rows sound) user.contract attempts formed)

pub any-hand-settles : AnyHandSettles
unfolding is_settled
any-hand-settles R blank old new plan work user attempts z =
    over-passed blank settled old new plan work z (λ k σ τ. Settles k user σ τ plan attempts)
    (λ p σ τ reads formed sound.
    stand-settles plan p reads settled p.k σ τ (Stands settled (alike p.k) σ τ p.rows sound)
    (sound-stand settled (alike p.k) σ τ p.rows sound) user attempts tt)
