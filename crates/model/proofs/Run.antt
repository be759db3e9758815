-- A run over any rows: where an invariant ties plan state and service state to a situation, every move of the run is one of the situation,
-- and the client can be met in its old state. So the moves made lead to that situation, a client that complies with the old contract comes
-- to no standstill, in the settled mode no client does while a message waits that the old contract need not answer, and service-alone moves in
-- a row use up what is left for them.
-- Assumes nothing.
use mathlib.Core.Path.{◌≡◌, refl, sym, subst, subst⁻¹, ◌∙◌}
use mathlib.Core.Bool.{Bool, true, false}
use mathlib.Core.Logic.{⊎_elim}
use mathlib.Core.Option.{Option, none, some}
use mathlib.Core.List.{List, [], ◌∷◌, Memᴰ}
use Prim.Native.Nat.{ℕ, suc, ◌+◌, ◌≤◌, ◌<◌}
use native.Mathlib.Omega.{arith}
use lib.Dec.{T}
use Rattle.model.specs.Lists.{through}
use Rattle.model.specs.Contract.{Contract, partner, has, state, offers, name}
use Rattle.model.specs.Situation.{Situation, Kind, straight, client, service, stray, kind_of, start, offered, old_after, next}
use Rattle.model.specs.Plan.{Move}
use Rattle.model.specs.Client.{Meet, met_first, met_on, Complies}
use Rattle.model.specs.Run.{Run, begin, Attempt, need, is_alone, if_move, longest, row_at_run, move_to, moved, moved_if, attempted, run_from}
use Rattle.model.specs.Run.{alones_from, most_alone, Standstill}
use Rattle.model.specs.Test.{Mode, is_settled}
use Rattle.model.specs.History.{if_made, history_from, history, situation_from, situation_after}
use Rattle.model.specs.Weak.{Rank, Rests, Waits}
use Rattle.model.proofs.Lists.{and_both, and-of}
use Rattle.model.proofs.Ranges.{OfAction, kind-action}
use Rattle.model.proofs.Situation.{kind-straight, kind-client, kind-service}
use Rattle.model.proofs.Moves.{rank-kept, Enabled, enabled}
use Rattle.model.proofs.Rank.{rank-start}
use Rattle.model.proofs.Test.{offers-of}
use Rattle.model.proofs.Bound.{left, allowed, left-allowed, left_less}
use Rattle.model.proofs.Attempts.{choice-elim, IsMove, is_move, moved-plan, moved-service}
use Rattle.model.proofs.History.{situation-made}
use Rattle.model.proofs.Upheld.{HeldAt, Upheld}

module _ (mode : Mode) (limits : List ℕ) (user old new serving : Contract) (rows : List (List Move)) where
  -- the invariant holds of the run's plan and service states and the situation, which is within the limits and whose old state meets the
  -- client's
  pub record Tied (I : (i q : ℕ) → Situation → Type 0) (r : Run) (s : Situation) : Type 0 where
    pub tie : I r.plan r.service s
    pub meets : Meet user old r.client s.old
    pub rank : Rank limits s.buffer

  -- an enabled move leaves the client where it can be met, by its kind
  module _ (r : Run) (R S to : ℕ) (mR : Memᴰ R (state user r.client).ready) (s t : Situation)
      (m : Meet user old r.client s.old) where
    moved-meets : (kind : Kind) → OfAction kind → T (need R S kind) → Enabled limits old new s t kind
        → Meet user old (moved user serving rows r kind to).client t.old
    unfolding need moved offered old_after
    moved-meets (straight j) h n e =
        met_on j h m (offers-of (state user r.client) R (partner j) mR (and_both (has S j) (has R (partner j)) n).1)
        (and_both (offers (state old s.old) j) (offers (state new s.new) j) e.offers).0 refl (sym e.old-goes)
    moved-meets (client j) h n e =
        met_on j h m (offers-of (state user r.client) R (partner j) mR n) e.offers refl (sym e.old-goes)
    moved-meets (service j) h n e = subst (λ (q : ℕ). Meet user old r.client q) e.old-goes m
    moved-meets stray h n e = absurd n

  module _ (I : (i q : ℕ) → Situation → Type 0) (upheld : Upheld mode limits old new serving rows I) where
    abbrev Ties : Run → Situation → Type 0
    Ties = Tied I

    abbrev goes : Run → Attempt → ℕ → Run
    goes r a to = moved user serving rows r (kind_of a.code) to

    pub tied-begin : Ties begin start
    unfolding begin start
    tied-begin = record { tie = upheld.begins; meets = met_first refl refl; rank = rank-start limits }

    -- a move of the run is enabled in the situation, and where both go is tied again
    pub tied_moved : (r : Run) (s : Situation) (a : Attempt) (to : ℕ) → Ties r s → IsMove user serving rows r a to
        → (t : Situation) × (next limits old new s a.code ≡ some t) × Ties (goes r a to) t
    unfolding next row_at_run
    tied_moved r s a to d m =
        let kind = kind_of a.code in
        let w = choice-elim user serving rows r a.R a.S m.chosen in
        let g = upheld.goes_on r.plan r.service s d.tie a.R a.S a.code to w.1 m.needed m.holds in
        let t = g.0 in
        let e = enabled limits old new s t kind g.1 in (
          t,
          g.1,
          record {
            tie = subst⁻¹ (λ (i : ℕ). I i (goes r a to).service t) (moved-plan user serving rows r kind a.R a.S to m.needed)
                (subst⁻¹ (λ (q : ℕ). I to q t) (moved-service user serving rows r kind to) g.2);
            meets = moved-meets r a.R a.S to w.0 s t d.meets kind (kind-action a.code) m.needed e;
            rank = rank-kept limits s.buffer t.buffer kind e.counts d.rank;
          },
        )

    -- a tied run stays tied, to the situation that its moves lead to
    tied-run : (attempts : List Attempt) (r : Run) (s : Situation) → Ties r s
        → (t : Situation) × (situation_from limits old new s (history_from user serving rows r attempts) ≡ some t)
        × Ties (run_from user serving rows r attempts) t
    unfolding run_from attempted moved_if history_from if_made situation_from through
    tied-run [] r s d = (s, refl, d)
    tied-run (a ∷ attempts) r s d = go (move_to user serving rows r a) refl (λ r s d. tied-run attempts r s d)
      where
        after : Option ℕ → Run
        after o = moved_if user serving rows r (kind_of a.code) o

        go : (o : Option ℕ) → move_to user serving rows r a ≡ o
            → ((r : Run) (s : Situation) → Ties r s
            → (t : Situation) × (situation_from limits old new s (history_from user serving rows r attempts) ≡ some t)
            × Ties (run_from user serving rows r attempts) t)
            → (t : Situation)
            × (situation_from limits old new s (if_made o a.code (history_from user serving rows (after o) attempts)) ≡ some t)
            × Ties (run_from user serving rows (after o) attempts) t
        go none e ih = ih r s d
        go (some to) e ih =
            let w = tied_moved r s a to d (is_move user serving rows r a to e) in
            let rest = ih (goes r a to) w.0 w.2 in
            (rest.0, situation-made limits old new s w.0 a.code (history_from user serving rows (goes r a to) attempts) w.1 ∙ rest.1, rest.2)

    -- so a run from the start is tied to the situation that its history leads to
    pub tied-attempts : (attempts : List Attempt)
        → (s : Situation) × (situation_after limits old new (history user serving rows attempts) ≡ some s)
        × Ties (run_from user serving rows begin attempts) s
    tied-attempts attempts = tied-run attempts begin start tied-begin

    -- ---- no standstill

    -- under a standstill no code of the row can be made
    none_made : (r : Run) (R S : ℕ) → Standstill user serving rows r R S
        → (c : ℕ) (kind : Kind) → kind_of c ≡ kind → HeldAt rows r.plan c → T (need R S kind) → ⊥
    unfolding row_at_run
    none_made r R S z c kind e a n = z.stuck c a.0 a.1 (subst⁻¹ (λ (k : Kind). T (need R S k)) e n)

    -- By the test of the row, the service's choice makes a code alone, or the row covers a ready set of the old state that the client
    -- meets. If the client's choice shares an action with that set, a code can be made; if not, complying gives it the success mark.
    pub no_standstill : Complies user old → (r : Run) (s : Situation) → Ties r s
        → (R S : ℕ) → Standstill user serving rows r R S → T (has R 14)
    unfolding need row_at_run
    no_standstill complies r s d R S z =
        let chosen = choice-elim user serving rows r R S z.chosen in
        ⊎_elim
        (λ x. complies r.client s.old d.meets R x.0 chosen.0 x.1
        (λ j h a b.
        ⊎_elim
        (λ y. cannot (16 + j) (client j) (kind-client j h) y b)
        (λ y. cannot j (straight j) (kind-straight j h) y.1 (and-of (has S j) (has R (partner j)) y.0 b))
        (x.2 j h a)))
        (λ x. absurd (cannot (32 + x.0) (service x.0) (kind-service x.0 x.1) x.3 x.2))
        ((upheld.asks r.plan r.service s d.tie).passes S chosen.1)
      where
        cannot : (c : ℕ) (kind : Kind) → kind_of c ≡ kind → HeldAt rows r.plan c → T (need R S kind) → ⊥
        cannot = none_made r R S z

    -- In the settled mode the row has a code alone for every choice of the service, wherever the old state has an empty ready set and a
    -- message waits for the service; that code can be made, whatever the client chooses.
    pub none_waits : T (is_settled mode) → (r : Run) (s : Situation) → Ties r s → (R S : ℕ) → Standstill user serving rows r R S
        → Rests (state old s.old) → Waits s.buffer → ⊥
    unfolding need
    none_waits is-settled r s d R S z rest waiting =
        let chosen = choice-elim user serving rows r R S z.chosen in
        let x = (upheld.asks r.plan r.service s d.tie).delivers is-settled rest waiting S chosen.1 in
        none_made r R S z (32 + x.0) (service x.0) (kind-service x.0 x.1) x.3 x.2

    -- ---- how many service-alone moves come in a row

    module _ (n : ℕ) (few : n ≤ 7) (named : (q j : ℕ) → j < 14 → T (offers (state new q) j) → name j < n) where
      abbrev left_at : Situation → ℕ
      left_at s = left n limits s.buffer

      -- a service-alone move uses one up
      uses : (s t : Situation) (kind : Kind) → OfAction kind → T (is_alone kind) → Rank limits s.buffer → Enabled limits old new s t kind
          → left_at s ≡ suc (left_at t)
      unfolding is_alone offered
      uses s t (straight j) h l r e = absurd l
      uses s t (client j) h l r e = absurd l
      uses s t (service j) h l r e = left_less n limits s.buffer few j t.buffer h (named s.new j h e.offers) r e.counts
      uses s t stray h l r e = absurd l

      streak-allowed : (attempts : List Attempt) (r : Run) (s : Situation) → Ties r s → (before : ℕ) → before + left_at s ≤ allowed n limits
          → longest before (alones_from user serving rows r attempts) ≤ allowed n limits
      unfolding alones_from attempted moved_if if_move longest next
      streak-allowed [] r s d before h = omega arith
      streak-allowed (a ∷ attempts) r s d before h =
          go (move_to user serving rows r a) (is_alone (kind_of a.code)) refl refl
          (λ r s d before h. streak-allowed attempts r s d before h)
        where
          go : (o : Option ℕ) (b : Bool) → move_to user serving rows r a ≡ o → is_alone (kind_of a.code) ≡ b
              → ((r : Run) (s : Situation) → Ties r s → (before : ℕ) → before + left_at s ≤ allowed n limits
              → longest before (alones_from user serving rows r attempts) ≤ allowed n limits)
              → longest before (if_move o b (alones_from user serving rows (moved_if user serving rows r (kind_of a.code) o) attempts))
              ≤ allowed n limits
          go none b e f ih = ih r s d before h
          go (some to) true e f ih =
              let w = tied_moved r s a to d (is_move user serving rows r a to e) in
              let e = enabled limits old new s w.0 (kind_of a.code) w.1 in
              let one = uses s w.0 (kind_of a.code) (kind-action a.code) (rw f tt) d.rank e in
              ih (goes r a to) w.0 w.2 (suc before) (omega (arith, one))
          go (some to) false e f ih =
              let w = tied_moved r s a to d (is_move user serving rows r a to e) in
              let z : longest 0 (alones_from user serving rows (goes r a to) attempts) ≤ allowed n limits =
              ih (goes r a to) w.0 w.2 0 (omega (arith, left-allowed n limits w.0.buffer w.2.rank)) in
              omega arith

      pub few_alone : (attempts : List Attempt) → most_alone user serving rows attempts ≤ allowed n limits
      unfolding most_alone
      few_alone attempts =
          streak-allowed attempts begin start tied-begin 0 (omega (arith, left-allowed n limits start.buffer (rank-start limits)))
