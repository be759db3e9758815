-- No means none, in either mode: some search is whole, and if no relation of definition 3.7 holds the start, with what the mode asks, the
-- rounds over what it finds remove the start. So it is lost; a plan is one of the strategies. And where the rounds keep the start, it is served,
-- as it is by the emitted plan.
-- Assumes nothing.
use mathlib.Core.Path.{◌≡◌, refl, sym, subst, subst⁻¹, ◌∙◌}
use mathlib.Core.Logic.{⊎_elim}
use mathlib.Core.Option.{Option, some-injective, none-ne-some}
use mathlib.Core.List.{List, [], Memᴰ}
use Prim.Native.Nat.{ℕ}
use native.Mathlib.Omega.{arith}
use lib.ListN.{length}
use lib.Dec.{T}
use Rattle.model.specs.Contract.{Contract, state}
use Rattle.model.specs.Sheet.{contract_in}
use Rattle.model.specs.Situation.{Situation, start, alike, same, codes, next}
use Rattle.model.specs.Test.{Mode, paper, settled, is_settled, test}
use Rattle.model.specs.Search.{at_start, member, search_from}
use Rattle.model.specs.Rounds.{sifted}
use Rattle.model.specs.Plan.{rows_in}
use Rattle.model.specs.Connect.{connect_of}
use Rattle.model.specs.Run.{Attempt}
use Rattle.model.specs.Weak.{Rests, Waits, AsksAt}
use Rattle.model.specs.Demands.{emitted_plan}
use Rattle.model.proofs.Lists.{dec-T}
use Rattle.model.proofs.Search.{search-all}
use Rattle.model.proofs.Situation.{is_same}
use Rattle.model.proofs.Rounds.{member-intro, member-elim, sifted-closed}
use Rattle.model.proofs.Test.{rounds-test, mode-computes}
use Rattle.model.proofs.Weak.{kept-is-largest, largest-is-kept}
use Rattle.model.proofs.Finite.{some-search-whole}
use Rattle.model.proofs.Sheet.{WellFormed, both-well-formed, both-contracts}
use Rattle.model.proofs.Demand2.{answer-admitted, demand-2}
use Rattle.model.proofs.Demand3.{emitted-runs, emitted-allowed, settled-runs}
use Rattle.why.specs.Demanding.{demanding}
use Rattle.why.specs.Game.{Strategy, EndsBadly, RunLeavesBehind, Defeats, StartHeld, NoMeansNone, RefusedForGood, EmittedServes, Serves}
use Rattle.why.specs.Game.{AllServed, GameDecides}
use Rattle.why.proofs.Served.{served}
use Rattle.why.proofs.Demanding.{demanding-complies}
use Rattle.why.proofs.Lost.{start-lost}
use Rattle.why.proofs.Plans.{planned, plan-fails}

-- ---- two well-formed contracts

module _ (mode : Mode) (limits : List ℕ) (σ τ : Contract) (σ-formed : WellFormed σ) (τ-formed : WellFormed τ) where
  abbrev nx : Situation → ℕ → Option Situation
  nx = next limits σ τ

  abbrev limit : ℕ
  limit = (some-search-whole limits σ τ σ-formed τ-formed).0

  whole : (search_from same codes nx limit start).todo ≡ []
  whole = (some-search-whole limits σ τ σ-formed τ-formed).1

  abbrev kept : List Situation
  kept = (sifted same codes nx (test mode σ τ) (search_from same codes nx limit start).done).kept

  kept-held : Memᴰ start kept → StartHeld mode limits σ τ
  kept-held = kept-is-largest limits σ τ (test mode σ τ) (AsksAt mode σ τ) (mode-computes mode σ τ) limit whole start

  held_kept : StartHeld mode limits σ τ → Memᴰ start kept
  held_kept = largest-is-kept limits σ τ (test mode σ τ) (AsksAt mode σ τ) (mode-computes mode σ τ) limit whole start (at_start refl)

  every-strategy : (StartHeld mode limits σ τ → ⊥) → (offer : Strategy) → EndsBadly mode limits (demanding mode σ) σ τ offer
  every-strategy none-holds offer =
      start-lost mode limits σ τ σ-formed τ-formed offer (search_from same codes nx limit start).done
      (search-all same is_same codes nx start limit whole)
      (λ m. none-holds (kept-held m))

  defeated : (StartHeld mode limits σ τ → ⊥) → Defeats mode limits σ τ (demanding mode σ)
  defeated none-holds =
      record {
        complying = demanding-complies mode σ;
        strategies = every-strategy none-holds;
        plans = λ bytes.
            plan-fails mode limits (demanding mode σ) σ τ (rows_in bytes) (every-strategy none-holds (planned (rows_in bytes)));
      }

  -- it is enough that the most demanding client is served
  served-related : (offer : Strategy) → Serves mode limits (demanding mode σ) σ τ offer → StartHeld mode limits σ τ
  served-related offer serves =
      ⊎_elim (λ t. kept-held (member-elim same is_same start kept t))
      (λ t. absurd (serves (every-strategy (λ l. t (member-intro same is_same (held_kept l))) offer)))
      (dec-T (member same start kept))

  related-served : StartHeld mode limits σ τ → AllServed mode limits σ τ
  related-served l =
      served limits σ τ kept mode
      (sifted-closed same is_same codes nx (test mode σ τ) (AsksAt mode σ τ) (rounds-test (mode-computes mode σ τ))
      (search_from same codes nx limit start).done)
      (held_kept l)

-- ---- over sheets

pub no-means-none : NoMeansNone
no-means-none mode limits old new sheets e =
    let w = both-well-formed 0 0 old new sheets e in
    defeated mode limits sheets.one sheets.two w.0 w.1

pub game-decides : GameDecides
game-decides mode limits old new sheets e =
    let σ = sheets.one in
    let τ = sheets.two in
    let w = both-well-formed 0 0 old new sheets e in
    let related : (offer : Strategy) → Serves mode limits (demanding mode σ) σ τ offer → StartHeld mode limits σ τ =
    served-related mode limits σ τ w.0 w.1 in
    let one : StartHeld mode limits σ τ → AllServed mode limits σ τ = related-served mode limits σ τ w.0 w.1 in (
      (
        (λ each. let s = each (demanding mode σ) (demanding-complies mode σ) in related s.0 s.1),
        (λ l user complies. ((one l).offer, (one l).serves user complies)),
      ),
      ((λ all-served. related all-served.offer (all-served.serves (demanding mode σ) (demanding-complies mode σ))), one),
    )

-- ---- over connecting's answer

pub refused-for-good : RefusedForGood
unfolding connect_of
refused-for-good R blank mode k old new work plan z =
    let a = answer-admitted mode (length work) (length plan) k old new (λ l h. absurd (omega (arith, z, h))) in
    let sheets = a.0 in
    let are = both-contracts 0 0 old new sheets a.1.reads in
    let none-holds = ((demand-2 R blank mode k old new sheets work plan a.1).refuses (λ e. absurd (omega (arith, z, e)))).0 z in
    subst⁻¹ (λ (o : Contract). Defeats mode (alike k) o (contract_in new) (demanding mode o)) are.0
    (subst⁻¹ (λ (n : Contract). Defeats mode (alike k) sheets.one n (demanding mode sheets.one)) are.1
    (no-means-none mode (alike k) old new sheets a.1.reads none-holds))

-- no run of a plan that is emitted in the settled mode leaves a message behind, whatever the client
none-behind : {R : Type 0} (blank : R) (mode : Mode) (k : ℕ) (old new : List ℕ) (work : List R) (plan : List ℕ) (user : Contract)
    (attempts : List Attempt) → (connect_of blank mode k old new work plan).answer.number ≡ 0 → T (is_settled mode)
    → RunLeavesBehind (alike k) user (contract_in old) (contract_in new) (rows_in (emitted_plan (connect_of blank mode k old new work plan))) attempts → ⊥
unfolding is_settled
none-behind blank paper k old new work plan user attempts z s w = s
none-behind {R} blank settled k old new work plan user attempts z s w =
    let d = settled-runs R blank k old new work plan user attempts z in
    let e : w.at ≡ d.at = some-injective w.at d.at (sym w.leads ∙ d.leads) in
    d.none_waits w.R w.S w.stands (subst (λ (s : Situation). Rests (state (contract_in old) s.old)) e w.rests)
    (subst (λ (s : Situation). Waits s.buffer) e w.waits)

-- the emitted plan comes to no standstill without the success mark, its buffer allows every move, and it leaves no message behind
pub emitted-serves : EmittedServes
emitted-serves R blank mode k old new work plan user z complies w =
    ⊎_elim
    (λ h. h.3 ((emitted-runs blank mode k old new work plan z user w.attempts).no_standstill complies h.0 h.1 h.2))
    (⊎_elim
    (λ e. let a = emitted-allowed blank mode k old new work plan z user w.attempts in none-ne-some a.0 (sym e ∙ a.1))
    (λ l. none-behind blank mode k old new work plan user w.attempts z l.0 l.1))
    w.fails
