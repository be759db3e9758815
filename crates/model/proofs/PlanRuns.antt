-- Runs of a plan's bytes, which can be from any hand: the run's plan state stays a state of the plan, so stepping follows its row; and what
-- an upheld invariant gives of runs over the rows is what demand 3 says of the bytes.
-- Assumes nothing.
use mathlib.Core.Path.{◌≡◌, refl, ap, subst⁻¹, ◌∙◌}
use mathlib.Core.Option.{some}
use mathlib.Core.List.{List, []}
use Prim.Native.Nat.{ℕ, ◌*◌, ◌≤◌, ◌<◌}
use lib.ListN.{length, get_or}
use lib.Dec.{T}
use borrow.Author.Tests.{lt-ltb}
use Rattle.model.specs.Contract.{Contract, has, state, offers, name}
use Rattle.model.specs.Situation.{Situation, start, alike}
use Rattle.model.specs.Plan.{Move, held, Plan, read_plan, rows_of, rows_in, row_step, step_in, step_of}
use Rattle.model.specs.Client.{Complies}
use Rattle.model.specs.Test.{Mode, is_settled}
use Rattle.model.specs.Run.{Run, begin, Attempt, row_at_run, run_from, most_alone, Standstill}
use Rattle.model.specs.History.{history, buffer_from, situation_after}
use Rattle.model.specs.Demands.{Follows, Runs, Settles}
use Rattle.model.specs.Weak.{Rests, Waits}
use Rattle.model.proofs.Bound.{allowed-alike}
use Rattle.model.proofs.Sheet.{WellFormed}
use Rattle.model.proofs.PlanLaid.{laid, laid-inside}
use Rattle.model.proofs.Attempts.{run-below}
use Rattle.model.proofs.History.{situation-buffer}
use Rattle.model.proofs.Upheld.{Upheld, StandFor, Standing, stand-upheld}
use Rattle.model.proofs.Run.{tied-attempts, no_standstill, none_waits, few_alone}

module _ (bytes : List ℕ) (p : Plan) (reads : read_plan bytes ≡ some p) where
  abbrev rows : List (List Move)
  rows = p.rows

  -- the rows of the bytes are those of the plan
  pub rows-read : rows_in bytes ≡ p.rows
  unfolding rows_in rows_of
  rows-read = ap rows_of reads

  -- stepping at a state of the plan follows its row
  pub step_follows : (i code : ℕ) → i < length rows → Follows (get_or rows i []) code (step_of bytes i code)
  unfolding step_of step_in row_step
  step_follows i code h =
      let is : step_of bytes i code ≡ row_step (held (get_or rows i []) code) = rw (reads, lt-ltb i (length rows) h) refl in
      record { goes = λ to e. is ∙ ap row_step e; stays = λ e. is ∙ ap row_step e }

  -- ---- an invariant is upheld

  module _ (mode : Mode) (k : ℕ) (old new serving : Contract) (I : (i q : ℕ) → Situation → Type 0)
      (upheld : Upheld mode (alike k) old new serving rows I)
      (user : Contract) (attempts : List Attempt) where
    abbrev run_over : List (List Move) → List Attempt → Run
    run_over rows l = run_from user serving rows begin l

    -- the run's plan state is a state of the plan
    plan-below : (l : List Attempt) → (run_over rows l).plan < length rows
    unfolding begin
    plan-below l = let d = laid bytes p reads in run-below user serving rows (laid-inside p d) l begin d.begun

    steps-follow : (l : List Attempt) (code : ℕ)
        → Follows (row_at_run user serving rows (run_over rows l)) code (step_of bytes (run_over rows l).plan code)
    unfolding row_at_run
    steps-follow l code = step_follows (run_over rows l).plan code (plan-below l)

    -- a complying client stands still only with the success mark
    marked-standstill : Complies user old → (R S : ℕ) → Standstill user serving rows (run_over rows attempts) R S → T (has R 14)
    marked-standstill complies =
        let w = tied-attempts mode (alike k) user old new serving rows I upheld attempts in
        no_standstill mode (alike k) user old new serving rows I upheld complies (run_over rows attempts) w.0 w.2

    -- what demand 3 says of runs in which the service follows `serving`, if the new contract offers names of that one only
    pub upheld-runs : serving.n ≤ 7 → ((q j : ℕ) → j < 14 → T (offers (state new q) j) → name j < serving.n)
        → Runs k user old serving bytes attempts
    upheld-runs few named =
        record {
          steps = λ before after a e.
              subst⁻¹
              (λ (rs : List (List Move)).
              Follows (row_at_run user serving rs (run_over rs before)) a.code (step_of bytes (run_over rs before).plan a.code))
              rows-read (steps-follow before a.code);
          no_standstill = λ complies R S.
              subst⁻¹ (λ (rs : List (List Move)). Standstill user serving rs (run_over rs attempts) R S → T (has R 14))
              rows-read (marked-standstill complies R S);
          few_alone =
              subst⁻¹ (λ (rs : List (List Move)). most_alone user serving rs attempts ≤ 2 * k * serving.n) rows-read
              (rw (← allowed-alike serving.n k few)
              (few_alone mode (alike k) user old new serving rows I upheld serving.n few named attempts));
        }

    -- the moves made lead to a situation
    pub upheld-leads : (s : Situation) × (situation_after (alike k) old new (history user serving (rows_in bytes) attempts) ≡ some s)
    upheld-leads =
        let w = tied-attempts mode (alike k) user old new serving rows I upheld attempts in
        (w.0, subst⁻¹ (λ (rs : List (List Move)). situation_after (alike k) old new (history user serving rs attempts) ≡ some w.0) rows-read w.1)

    -- in the settled mode the run does not stand still there while a message waits that the old contract need not answer
    pub upheld-settles : T (is_settled mode) → (R S : ℕ) → Standstill user serving (rows_in bytes) (run_over (rows_in bytes) attempts) R S
        → Rests (state old upheld-leads.0.old) → Waits upheld-leads.0.buffer → ⊥
    unfolding upheld-leads
    upheld-settles is-settled R S =
        let w = tied-attempts mode (alike k) user old new serving rows I upheld attempts in
        subst⁻¹
        (λ (rs : List (List Move)).
        Standstill user serving rs (run_over rs attempts) R S → Rests (state old w.0.old) → Waits w.0.buffer → ⊥)
        rows-read
        (λ z. none_waits mode (alike k) user old new serving rows I upheld is-settled (run_over rows attempts) w.0 w.2 R S z)

  -- ---- plan states stand for situations, and the service follows the new contract

  module _ (mode : Mode) (k : ℕ) (old new : Contract) (J : ℕ → Situation → Type 0) (stand : StandFor mode (alike k) old new rows J) where
    abbrev upheld : Upheld mode (alike k) old new new rows (Standing J)
    upheld = stand-upheld mode (alike k) old new rows J stand

    module _ (user : Contract) (attempts : List Attempt) where
      -- what demand 3 says of the bytes
      pub stand-runs : WellFormed new → Runs k user old new bytes attempts
      stand-runs formed = upheld-runs mode k old new new (Standing J) upheld user attempts formed.few_names formed.named

      -- that the buffer allows every move
      pub stand-allowed : (b : List ℕ) × (buffer_from (alike k) start.buffer (history user new (rows_in bytes) attempts) ≡ some b)
      stand-allowed =
          let w = upheld-leads mode k old new new (Standing J) upheld user attempts in
          (w.0.buffer, situation-buffer (alike k) old new (history user new (rows_in bytes) attempts) start w.0 w.1)

      -- and what a settled plan does
      pub stand-settles : T (is_settled mode) → Settles k user old new bytes attempts
      stand-settles is-settled =
          let w = upheld-leads mode k old new new (Standing J) upheld user attempts in
          record { at = w.0; leads = w.1; none_waits = upheld-settles mode k old new new (Standing J) upheld user attempts is-settled }
