-- A pair of sheets for which some plan is accepted connects, `accepted-connects`: the situations of sound reached pairs are a relation of
-- definition 3.7 of Padovani 2010. Its sets A are the rows' enabled codes.
-- Assumes nothing.
use mathlib.Core.Path.{◌≡◌, refl, subst⁻¹}
use mathlib.Core.Option.{Option, some}
use mathlib.Core.List.{List, Memᴰ}
use Prim.Native.Nat.{ℕ, ◌+◌}
use lib.Dec.{T}
use Rattle.model.specs.Contract.{Contract, state}
use Rattle.model.specs.Situation.{Situation, Kind, straight, client, service, kind_of, codes, start, alike, next}
use Rattle.model.specs.Test.{Mode}
use Rattle.model.specs.Search.{at_start, by_move}
use Rattle.model.specs.Plan.{Move}
use Rattle.model.specs.Weak.{AsksAt, Largest}
use Rattle.model.specs.Demands.{Related}
use Rattle.model.proofs.Rounds.{Step}
use Rattle.model.proofs.Situation.{code-straight, code-client, code-service, kind-straight, kind-client, kind-service}
use Rattle.model.proofs.Test.{mode-computes}
use Rattle.model.proofs.Weak.{rank-reached, step-weak}
use Rattle.edits.specs.Places.{Place, first_place, row_here, IsPlace}
use Rattle.edits.specs.Sound.{new_meets}
use Rattle.edits.specs.Promises.{RowCode, IsSound, AcceptedConnects}
use Rattle.edits.proofs.Places.{holds-code, follow-intro, situation-reached}
use Rattle.edits.proofs.Leads.{met-enabled}
use Rattle.edits.proofs.Passed.{over-passed}

module _ (mode : Mode) (limits : List ℕ) (old new : Contract) (rows : List (List Move)) (sound : IsSound mode limits old new rows) where
  abbrev nx : Situation → ℕ → Option Situation
  nx = next limits old new

  -- the situation is that of a reached pair
  abbrev Visited : Situation → Type 0
  Visited s = (i : ℕ) × IsPlace limits old new rows (record { plan = i; at = s })

  module _ (s : Situation) (i : ℕ) (r : IsPlace limits old new rows (record { plan = i; at = s })) where
    abbrev here : Place
    here = record { plan = i; at = s }

    -- the row's enabled codes
    abbrev Acts : ℕ → Type 0
    Acts code = RowCode mode limits old new rows here code × Memᴰ code codes × ((t : Situation) × (nx s code ≡ some t))

    -- a code of the row that the new state can meet is one of them
    enabled : (code : ℕ) (kind : Kind) → kind_of code ≡ kind → Memᴰ code codes → RowCode mode limits old new rows here code
        → T (new_meets (state new s.new) kind) → Acts code
    enabled code kind e known m met =
        (m, known, met-enabled mode limits old new rows sound here r code m (subst⁻¹ (λ (k : Kind). T (new_meets (state new s.new) k)) e met))

    -- a visited situation passes with them, and they lead to visited ones
    visited-step : Step codes nx (AsksAt mode old new) Visited s
    unfolding new_meets
    visited-step =
        record {
          acts = Acts;
          passes = (mode-computes mode old new).grows (RowCode mode limits old new rows here) Acts s
              (record {
                straight = λ j h o m. enabled j (straight j) (kind-straight j h) (code-straight j h) m o;
                client = λ j h m. enabled (16 + j) (client j) (kind-client j h) (code-client j h) m tt;
                service = λ j h o m. enabled (32 + j) (service j) (kind-service j h) (code-service j h) m o;
              })
              (sound here r).passes;
          known = λ code a. a.1;
          leads = λ code a.
              let t = a.2 in
              let to = holds-code (row_here limits old new rows here) code a.0 in
              (t.0, t.1, (to.0, by_move code a.1 (follow-intro limits old new rows here code to.0 t.0 to.1 t.1) r));
        }

  -- the visited situations are such a relation, and the start is one of them
  pub sound-related : Largest limits old new (AsksAt mode old new) start
  unfolding first_place
  sound-related = (
    Visited,
    (λ s w.
        let within = rank-reached limits old new (situation-reached limits old new rows w.1) in
        step-weak limits old new (AsksAt mode old new) Visited s within (visited-step s w.0 w.1)),
    (0, at_start refl),
  )

pub accepted-connects : AcceptedConnects
accepted-connects R blank mode old new plan work z =
    over-passed blank mode old new plan work z (λ k σ τ. Related (AsksAt mode σ τ) k σ τ start)
    (λ p σ τ reads formed sound. sound-related mode (alike p.k) σ τ p.rows sound)
