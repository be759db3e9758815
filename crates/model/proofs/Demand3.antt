-- Demand 3: acceptance gives situations that are kept and a plan whose states stand for them, so what holds of runs over rows that stand
-- for situations holds of the plan's bytes. So does what is promised of settled plans.
-- Assumes nothing.
use mathlib.Core.Path.{◌≡◌, subst, subst⁻¹}
use mathlib.Core.Option.{Option, some}
use mathlib.Core.List.{List, Memᴰ}
use Prim.Native.Nat.{ℕ, ◌≤◌}
use lib.ListN.{length, get_elem?}
use Rattle.model.specs.Contract.{Contract}
use Rattle.model.specs.Sheet.{contract_in}
use Rattle.model.specs.Situation.{Situation, start, alike, same, codes, next}
use Rattle.model.specs.Test.{Mode, settled, is_settled, test}
use Rattle.model.specs.Search.{search_from}
use Rattle.model.specs.Plan.{Move, held, plan_states, plan_rows, rows_in}
use Rattle.model.specs.Connect.{sifted_of, rows_for, limit_of, connect_of}
use Rattle.model.specs.Run.{Attempt}
use Rattle.model.specs.History.{history, buffer_from}
use Rattle.model.specs.Weak.{AsksAt}
use Rattle.model.specs.Demands.{emitted_plan, Runs, Demand-3, Settles, SettledRuns}
use Rattle.model.proofs.Rounds.{Step, Closed, moves-intro, sifted-closed}
use Rattle.model.proofs.Situation.{is_same}
use Rattle.model.proofs.Test.{rounds-test, mode-computes}
use Rattle.model.proofs.PlanRows.{at_mem, row-elim, row-intro, row-at, state-kept, start_first}
use Rattle.model.proofs.Upheld.{HeldAt, StandFor}
use Rattle.model.proofs.PlanRuns.{stand-runs, stand-allowed, stand-settles}
use Rattle.model.proofs.Accepted.{kept_of, plan_of, Accepted, accepted-formed, accepted-reads, over-bytes}
use Rattle.model.proofs.Demand2.{limit-few}

-- ---- the states of a plan of kept situations stand for them

module _ (mode : Mode) (limits : List ℕ) (old new : Contract) (kept : List Situation) (begun : Memᴰ start kept)
    (closed : Closed codes (next limits old new) (AsksAt mode old new) (λ (s : Situation). Memᴰ s kept)) where
  abbrev nx : Situation → ℕ → Option Situation
  nx = next limits old new

  abbrev states : List Situation
  states = plan_states same codes nx kept start

  abbrev rows : List (List Move)
  rows = plan_rows same codes nx kept start

  -- the codes of a relation's set have their moves in the row
  acts-held : (i : ℕ) (s : Situation) → get_elem? states i ≡ some s
      → (st : Step codes nx (AsksAt mode old new) (λ (s : Situation). Memᴰ s kept) s) → (code : ℕ) → st.acts code → HeldAt rows i code
  acts-held i s e st code a =
      let x = st.leads code a in
      let m = moves-intro same is_same codes nx kept s code x.0 (st.known code a) x.1 x.2 in
      let w = row-intro same is_same codes nx kept start begun s code m in
      (w.0, subst⁻¹ (λ (row : List Move). held row code ≡ some w.0) (row-at same is_same codes nx kept start begun i s e) w.1)

  -- where what is kept is closed, plan state i stands for situation i of the plan's states
  pub kept-stand : StandFor mode limits old new rows (λ i s. get_elem? states i ≡ some s)
  kept-stand =
      record {
        begins = start_first same is_same codes nx kept start begun;
        goes_on = λ i s e R S code to m n h.
            let h' = subst (λ (row : List Move). held row code ≡ some to) (row-at same is_same codes nx kept start begun i s e) h in
            let t = (row-elim same is_same codes nx kept start begun s code to (at_mem states i s e) h').1 in
            (t.0, t.1, t.3);
        asks = λ i s e.
            let st = closed s (state-kept same is_same codes nx kept start begun s (at_mem states i s e)) in
            (rounds-test (mode-computes mode old new)).grows st.acts (HeldAt rows i) s (acts-held i s e st) st.passes;
      }

-- ---- the plan of an acceptance

module _ (mode : Mode) (k limit room : ℕ) (old new : List ℕ) (c : Accepted mode k limit room old new) where
  abbrev σ : Contract
  σ = c.sheets.one

  abbrev τ : Contract
  τ = c.sheets.two

  abbrev kept : List Situation
  kept = kept_of mode k limit σ τ

  -- plan state i is the place of the situation
  abbrev pub Place : ℕ → Situation → Type 0
  Place i s = get_elem? (plan_states same codes (next (alike k) σ τ) kept start) i ≡ some s

  pub accepted-stand : StandFor mode (alike k) σ τ (rows_for k σ τ kept) Place
  unfolding rows_for sifted_of
  accepted-stand =
      let nx : Situation → ℕ → Option Situation = next (alike k) σ τ in
      kept-stand mode (alike k) σ τ kept c.begun
      (sifted-closed same is_same codes nx (test mode σ τ) (AsksAt mode σ τ) (rounds-test (mode-computes mode σ τ)) (search_from same codes nx limit start).done)

  module _ (limit-ok : limit ≤ 4096) (user : Contract) (attempts : List Attempt) where
    accepted-runs : Runs k user σ τ (plan_of mode k limit σ τ) attempts
    accepted-runs =
        stand-runs (plan_of mode k limit σ τ) _ (accepted-reads mode k limit room old new c limit-ok) mode k σ τ Place accepted-stand user attempts
        (accepted-formed mode k limit room old new c).1

    accepted-allowed : (b : List ℕ)
        × (buffer_from (alike k) start.buffer (history user τ (rows_in (plan_of mode k limit σ τ)) attempts) ≡ some b)
    accepted-allowed =
        stand-allowed (plan_of mode k limit σ τ) _ (accepted-reads mode k limit room old new c limit-ok) mode k σ τ Place accepted-stand user attempts

-- of a settled plan
accepted-settles : (k limit room : ℕ) (old new : List ℕ) (c : Accepted settled k limit room old new) → limit ≤ 4096
    → (user : Contract) (attempts : List Attempt)
    → Settles k user c.sheets.one c.sheets.two (plan_of settled k limit c.sheets.one c.sheets.two) attempts
unfolding is_settled
accepted-settles k limit room old new c limit-ok user attempts =
    stand-settles (plan_of settled k limit c.sheets.one c.sheets.two) _ (accepted-reads settled k limit room old new c limit-ok)
    settled k c.sheets.one c.sheets.two (Place settled k limit room old new c) (accepted-stand settled k limit room old new c) user attempts tt

-- ---- over connecting's outcome

module _ {R : Type 0} (blank : R) (mode : Mode) (k : ℕ) (old new : List ℕ) (work : List R) (plan : List ℕ)
    (z : (connect_of blank mode k old new work plan).answer.number ≡ 0) where
  abbrev limit : ℕ
  limit = limit_of (length work)

  abbrev written : List ℕ
  written = emitted_plan (connect_of blank mode k old new work plan)

  -- runs of the written plan, whatever contract the client has
  pub emitted-runs : (user : Contract) (attempts : List Attempt) → Runs k user (contract_in old) (contract_in new) written attempts
  emitted-runs user attempts =
      over-bytes blank mode k old new work plan z (λ o n b. Runs k user o n b attempts)
      (λ c. accepted-runs mode k limit (length plan) old new c (limit-few (length work)) user attempts)

  -- and their buffer allows every move
  pub emitted-allowed : (user : Contract) (attempts : List Attempt)
      → (b : List ℕ) × (buffer_from (alike k) start.buffer (history user (contract_in new) (rows_in written) attempts) ≡ some b)
  emitted-allowed user attempts =
      over-bytes blank mode k old new work plan z
      (λ o n b. (l : List ℕ) × (buffer_from (alike k) start.buffer (history user n (rows_in b) attempts) ≡ some l))
      (λ c. accepted-allowed mode k limit (length plan) old new c (limit-few (length work)) user attempts)

pub demand-3 : Demand-3
demand-3 R blank mode k old new work plan client user attempts z read = emitted-runs blank mode k old new work plan z user.contract attempts

pub settled-runs : SettledRuns
settled-runs R blank k old new work plan user attempts z =
    over-bytes blank settled k old new work plan z (λ o n b. Settles k user o n b attempts)
    (λ c. accepted-settles k (limit_of (length work)) (length plan) old new c (limit-few (length work)) user attempts)
