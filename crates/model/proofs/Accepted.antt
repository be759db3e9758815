-- What acceptance gives: two well-formed contracts over the same names, situations that the rounds keep, the start among them, and a plan
-- whose bytes read back as the rows of these. By the cases of connecting.
-- Assumes nothing.
use mathlib.Core.Path.{◌≡◌, sym, ap, subst⁻¹, ◌∙◌}
use mathlib.Core.Option.{some}
use mathlib.Core.List.{List, [], Memᴰ}
use Prim.Native.Nat.{ℕ, ◌≤◌}
use native.Mathlib.Omega.{arith}
use lib.ListN.{length}
use Rattle.model.specs.Contract.{Contract}
use Rattle.model.specs.Sheet.{plain, Both, contract_in}
use Rattle.model.specs.Situation.{Situation, start, alike, same, codes, next}
use Rattle.model.specs.Test.{Mode, test}
use Rattle.model.specs.Search.{search_from}
use Rattle.model.specs.Plan.{plan_bytes, read_plan}
use Rattle.model.specs.Connect.{Outcome, refused, counted, sifted_of, rows_for, connected, limit_of, outcome_of, connect_of}
use Rattle.model.specs.Demands.{emitted_plan, Admitted}
use Rattle.model.proofs.Sheet.{WellFormed, both-well-formed, both-contracts}
use Rattle.model.proofs.Connect.{Shape, cut_off, removed, too_long, fits, shape, emitted-reads}
use Rattle.model.proofs.Demand2.{answer-admitted, admitted-outcome, emitted-is}

-- what the rounds keep of a search, and the plan of that
abbrev pub kept_of : Mode → (k limit : ℕ) → (σ τ : Contract) → List Situation
kept_of mode k limit σ τ = (sifted_of (test mode σ τ) k σ τ (search_from same codes (next (alike k) σ τ) limit start).done).kept

abbrev pub plan_of : Mode → (k limit : ℕ) → (σ τ : Contract) → List ℕ
plan_of mode k limit σ τ = plan_bytes σ.n k (rows_for k σ τ (kept_of mode k limit σ τ))

-- What acceptance gives: two sheets of contracts, a search that was not cut off, a start that was kept, and the plan.
pub record Accepted (mode : Mode) (k limit room : ℕ) (old new : List ℕ) : Type 0 where
  pub sheets : Both
  pub admitted : Admitted k old new sheets
  pub whole : (search_from same codes (next (alike k) sheets.one sheets.two) limit start).todo ≡ []
  pub begun : Memᴰ start (kept_of mode k limit sheets.one sheets.two)
  pub situations : ℕ
  pub states : ℕ
  pub rounds : ℕ
  pub emits : connected (test mode sheets.one sheets.two) k sheets.one sheets.two limit room
      ≡ counted 0 situations states rounds (plan_of mode k limit sheets.one sheets.two)

accepted-shape : (mode : Mode) (k limit room : ℕ) (old new : List ℕ) (sheets : Both) → Admitted k old new sheets
    → (connected (test mode sheets.one sheets.two) k sheets.one sheets.two limit room).answer.number ≡ 0
    → Shape k sheets.one sheets.two limit (test mode sheets.one sheets.two) room → Accepted mode k limit room old new
unfolding refused counted plain
accepted-shape mode k limit room old new sheets a z (cut_off n e) = absurd (omega (arith, ap (λ (o : Outcome). o.answer.number) e))
accepted-shape mode k limit room old new sheets a z (removed w n e) = absurd (omega (arith, ap (λ (o : Outcome). o.answer.number) e))
accepted-shape mode k limit room old new sheets a z (too_long w m l e) = absurd (omega (arith, ap (λ (o : Outcome). o.answer.number) e))
accepted-shape mode k limit room old new sheets a z (fits w m l e) =
    record { sheets = sheets; admitted = a; whole = w; begun = m; situations = _; states = _; rounds = _; emits = e }

pub accepted : (mode : Mode) (records room k : ℕ) (old new : List ℕ) → (outcome_of mode records room k old new).answer.number ≡ 0
    → Accepted mode k (limit_of records) room old new
accepted mode records room k old new z =
    let a = answer-admitted mode records room k old new (λ l h. absurd (omega (arith, z, l))) in
    let sheets = a.0 in
    accepted-shape mode k (limit_of records) room old new sheets a.1
    (ap (λ (o : Outcome). o.answer.number) (sym (admitted-outcome mode records room k old new sheets a.1)) ∙ z)
    (shape k sheets.one sheets.two (limit_of records) (test mode sheets.one sheets.two) room)

module _ (mode : Mode) (k limit room : ℕ) (old new : List ℕ) (c : Accepted mode k limit room old new) where
  abbrev σ : Contract
  σ = c.sheets.one

  abbrev τ : Contract
  τ = c.sheets.two

  -- the contracts are well formed, over the same names
  pub accepted-formed : WellFormed σ × WellFormed τ × (σ.n ≡ τ.n)
  accepted-formed = both-well-formed 0 0 old new c.sheets c.admitted.reads

  -- the plan's bytes read back as its rows
  pub accepted-reads : limit ≤ 4096
      → read_plan (plan_of mode k limit σ τ) ≡ some (record { n = σ.n; k = k; rows = rows_for k σ τ (kept_of mode k limit σ τ) })
  accepted-reads limit-ok =
      let formed = accepted-formed in
      emitted-reads k σ τ limit (test mode σ τ) c.whole c.begun formed.0 formed.1 formed.2 c.admitted.rank limit-ok

-- ---- over connecting's outcome

module _ {R : Type 0} (blank : R) (mode : Mode) (k : ℕ) (old new : List ℕ) (work : List R) (plan : List ℕ)
    (z : (connect_of blank mode k old new work plan).answer.number ≡ 0) where
  abbrev written : List ℕ
  written = emitted_plan (connect_of blank mode k old new work plan)

  abbrev limit : ℕ
  limit = limit_of (length work)

  acceptance : Accepted mode k limit (length plan) old new
  unfolding connect_of
  acceptance = accepted mode (length work) (length plan) k old new z

  -- what holds of the two contracts and the plan that acceptance gives holds of the bytes passed and written
  pub over-bytes : (P : Contract → Contract → List ℕ → Type 0)
      → ((c : Accepted mode k limit (length plan) old new)
      → P c.sheets.one c.sheets.two (plan_of mode k limit c.sheets.one c.sheets.two))
      → P (contract_in old) (contract_in new) written
  over-bytes P f =
      let c = acceptance in
      let are = both-contracts 0 0 old new c.sheets c.admitted.reads in
      let emits = emitted-is blank mode k old new c.sheets work c.admitted plan c.situations c.states c.rounds c.emits in
      subst⁻¹ (λ (o : Contract). P o (contract_in new) written) are.0
      (subst⁻¹ (λ (n : Contract). P c.sheets.one n written) are.1 (subst⁻¹ (P c.sheets.one c.sheets.two) emits (f c)))
