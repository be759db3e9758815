-- A standstill is decided: of the choices of a run's states, those under which no move of the row has its need met. For a row holds
-- exactly the codes of its moves.
-- Assumes nothing.
use mathlib.Core.Path.{◌≡◌, sym, ap, subst⁻¹}
use mathlib.Core.Bool.{Bool, not}
use mathlib.Core.Logic.{◌↔◌}
use mathlib.Core.Option.{some}
use mathlib.Core.List.Memᴰ
use mathlib.Core.List.{List, Memᴰ}
use Prim.Native.Nat.{ℕ}
use lib.Dec.{T}
use Rattle.model.specs.Lists.{all, keep, combine}
use Rattle.model.specs.Contract.{Contract, state}
use Rattle.model.specs.Situation.{kind_of}
use Rattle.model.specs.Plan.{Move, held}
use Rattle.model.specs.Run.{Run, need, row_at_run, Standstill}
use Rattle.model.specs.RunCases.{Choice}
use Rattle.model.proofs.Lists.{not-elim, not-intro, all-elim, all-intro, keep-intro, keep-elim, combine-intro, combine-elim}
use Rattle.model.proofs.Held.{move-of, code-held}
use Rattle.model.proofs.Attempts.{choice-intro, choice-elim}

-- ---- choices

-- each R with each S
unfoldable pub choices_of : List ℕ → List ℕ → List Choice
choices_of = combine (λ R S. record { R = R; S = S })

choices-intro : {R S : ℕ} {ours theirs : List ℕ} → Memᴰ R ours → Memᴰ S theirs → Memᴰ (record { R = R; S = S }) (choices_of ours theirs)
unfolding choices_of
choices-intro r s = combine-intro (λ R S. record { R = R; S = S }) r s

choices-elim : (c : Choice) (ours theirs : List ℕ) → Memᴰ c (choices_of ours theirs) → Memᴰ c.R ours × Memᴰ c.S theirs
unfolding choices_of
choices-elim c ours theirs m =
    let w = combine-elim (λ R S. record { R = R; S = S }) c ours theirs m in
    (Memᴰ.cast (ap (λ (x : Choice). x.R) (sym w.4)) w.2, Memᴰ.cast (ap (λ (x : Choice). x.S) (sym w.4)) w.3)

-- ---- standstills

-- no move of the row has its need met
unfoldable pub none_made : List Move → Choice → Bool
none_made row c = all (λ m. not (need c.R c.S (kind_of m.code))) row

module _ (user new : Contract) (rows : List (List Move)) (r : Run) where
  -- the standstills of a run's present states
  unfoldable pub standstills_of : List Choice
  standstills_of = keep (none_made (row_at_run user new rows r)) (choices_of (state user r.client).ready (state new r.service).ready)

  -- no code can be made exactly if no move of the row has its need met
  stuck-test : (R S : ℕ) → ((code to : ℕ) → held (row_at_run user new rows r) code ≡ some to → T (need R S (kind_of code)) → ⊥)
      → T (none_made (row_at_run user new rows r) (record { R = R; S = S }))
  unfolding none_made
  stuck-test R S stuck =
      all-intro (λ (m : Move). not (need R S (kind_of m.code))) (row_at_run user new rows r)
      (λ m d.
      let w = code-held (row_at_run user new rows r) m d in
      not-intro (need R S (kind_of m.code)) (stuck m.code w.0 w.1))

  test-stuck : (R S : ℕ) → T (none_made (row_at_run user new rows r) (record { R = R; S = S }))
      → (code to : ℕ) → held (row_at_run user new rows r) code ≡ some to → T (need R S (kind_of code)) → ⊥
  unfolding none_made
  test-stuck R S t code to e n =
      let w = move-of (row_at_run user new rows r) code to e in
      not-elim (need R S (kind_of w.0.code)) (all-elim (λ (m : Move). not (need R S (kind_of m.code))) w.1 t)
      (subst⁻¹ (λ (c : ℕ). T (need R S (kind_of c))) w.2 n)

  pub standstill-decided : (R S : ℕ) → Standstill user new rows r R S ↔ Memᴰ (record { R = R; S = S }) standstills_of
  unfolding standstills_of
  standstill-decided R S = (
    λ z.
        let w = choice-elim user new rows r R S z.chosen in
        keep-intro (none_made (row_at_run user new rows r)) (choices-intro w.0 w.1) (stuck-test R S z.stuck),
    λ m.
        let d = keep-elim (none_made (row_at_run user new rows r)) (record { R = R; S = S }) (choices_of (state user r.client).ready (state new r.service).ready) m in
        let w = choices-elim (record { R = R; S = S }) (state user r.client).ready (state new r.service).ready d.0 in
        record {
          chosen = choice-intro user new rows r R S w.0 w.1;
          stuck = test-stuck R S d.1;
        },
  )
