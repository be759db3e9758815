-- Connecting any bytes, by cases: refused as a pair, refused for k, or what follows; and what was lent as it is afterwards.
-- Assumes nothing.
use mathlib.Core.Path.{◌≡◌, refl, sym, ap, subst, ◌∙◌}
use mathlib.Core.Bool.{Bool, true, false, cond}
use mathlib.Core.List.{List, [], ◌∷◌, ◌++◌, map}
use Prim.Native.Nat.{ℕ, ◌≤◌, ◌<◌}
use native.Mathlib.Omega.{arith}
use lib.ListN.{length, drop}
use borrow.Author.Tests.{le-leb, lt-leb, ne_eqb, le-ltb}
use Rattle.model.specs.Situation.{Situation}
use Rattle.model.specs.Test as model-test
use Rattle.moves.specs.declared.Mode.{Mode}
use Rattle.moves.specs.Modes.{mode_of, test_of}
use Rattle.model.specs.Contract.{Contract}
use Rattle.model.specs.Sheet.{good, read_both, contract_in, plain}
use Rattle.model.specs.Connect.{Outcome, refused, counted, connected, limit_of, ranked, outcome_of, clears, Connected, connect_of}
use Rattle.model.proofs.Connect.{Shape, cut_off, removed, too_long, fits, shape}
use Rattle.model.proofs.Refusals.{only-elim, both-numbers}
use Rattle.little_endian.specs.Front.{front}
use Rattle.std.specs.Prelude.{Result, Ok, Err}
use Rattle.sheet.specs.Answers as Reading
use Rattle.sheet.specs.Answers.{reading_of}
use Rattle.pair.specs.Pairs.{refusal_of}
use Rattle.pair.specs.declared.Refusal.{Refusal}
use Rattle.pair.proofs.Pairs.{refused-both, good-both, both-sheets}
use Rattle.table.specs.declared.Record.{Record}
use Rattle.table.specs.Records.{blank, cleared}
use Rattle.connect.specs.Answers.{answer_of, answer_for, answer_in, refusing, Writes, Admitted, Refused}
use Rattle.connect.specs.declared.Accepted.{Accepted}
use Rattle.connect.specs.declared.Answer.{Answer}
use Rattle.connect.specs.declared.NoPlan.{NoPlan}
use Rattle.connect.specs.declared.NoPlan.TheVariants.{Pair, Rank}

not-cleared : (number : ℕ) → 1 ≤ number → number ≤ 10 → clears number ≡ false
unfolding clears
not-cleared number l h = rw (ne_eqb number 0 (λ e. omega arith), le-ltb 10 number h) refl

-- ---- a refusal of the pair or of k, or none

module _ (old new : List ℕ) (k : ℕ) {pair : Result (Unit {0}) Refusal} (is-pair : reading_of refusal_of pair ≡ Reading.whole (read_both 0 0 old new)) where
  pub pair-checked : {refusal : Refusal} → pair ≡ Err refusal → Refused k old new (Pair refusal)
  unfolding outcome_of ranked refused refusing
  pair-checked {refusal} is-refused =
      let read = refused-both 0 0 old new is-pair is-refused in
      let n = only-elim _ (read_both 0 0 old new) _ (both-numbers 0 0 old new) read in
      record {
        bad = λ mode records room. ap (ranked (mode_of mode) k records room) read;
        uncleared = not-cleared (refusal_of refusal).number n.0 (omega (arith, n.1));
      }

  module _ {u : Unit {0}} (is-good : pair ≡ Ok u) where
    read : read_both 0 0 old new ≡ good (record { one = contract_in old; two = contract_in new })
    read = good-both 0 0 old new is-pair is-good

    pub rank-checked : 3 < k → Refused k old new Rank
    unfolding outcome_of ranked refused plain refusing
    rank-checked high = record {
      bad = λ mode records room. ap (ranked (mode_of mode) k records room) read ∙ rw (lt-leb k 3 high) refl;
      uncleared = not-cleared 10 (omega arith) (omega arith);
    }

    pub good-checked : k ≤ 3 → Admitted k old new
    unfolding outcome_of ranked
    good-checked low =
        let sheets = both-sheets 0 0 old new _ read in
        record {
          old_sheet = sheets.0;
          new_sheet = sheets.1;
          rank = low;
          good = λ mode records room. ap (ranked (mode_of mode) k records room) read ∙ rw (le-leb k 3 low) refl;
        }

-- ---- the whole outcome

connected-clears : (tested : List ℕ → Situation → Bool) (k : ℕ) (σ τ : Contract) (limit room : ℕ) → clears (connected tested k σ τ limit room).answer.number ≡ true
unfolding clears refused counted plain
connected-clears tested k σ τ limit room = go (shape k σ τ limit tested room)
  where
    go : Shape k σ τ limit tested room → clears (connected tested k σ τ limit room).answer.number ≡ true
    go (cut_off n e) = rw e refl
    go (removed w n e) = rw e refl
    go (too_long w m l e) = rw e refl
    go (fits w m l e) = rw e refl

cleared-same : (a b : List Record) → length a ≡ length b → cleared a ≡ map (λ r. blank) b
unfolding cleared
cleared-same [] [] e = refl
cleared-same [] (y ∷ b) e = absurd (omega arith)
cleared-same (x ∷ a) [] e = absurd (omega arith)
cleared-same (x ∷ a) (y ∷ b) e = ap (λ (l : List Record). blank ∷ l) (cleared-same a b (omega arith))

module _ (mode : Mode) (k : ℕ) (old new : List ℕ) (work : List Record) (plan : List ℕ) where
  -- the whole outcome, by its answer and bytes
  abbrev whole : Outcome → Connected Record
  whole o =
      record {
        answer = o.answer;
        plan = o.bytes ++ drop (length o.bytes) plan;
        work = cond (clears o.answer.number) (map (λ r. blank) work) work;
      }

  is_whole : whole (outcome_of (mode_of mode) (length work) (length plan) k old new) ≡ connect_of blank (mode_of mode) k old new work plan
  unfolding connect_of
  is_whole = refl

  -- refused before situations are counted: nothing changes
  pub connect-refused : {why : NoPlan} (r : Answer) → Refused k old new why → answer_of r ≡ answer_for why
      → record { answer = answer_of r; plan = plan; work = work } ≡ connect_of blank (mode_of mode) k old new work plan
  connect-refused {why} r c a =
      let kept : work ≡ cond (clears (answer_for why).number) (map (λ r. blank) work) work = rw c.uncleared refl in
      (λ i. record { answer = a i; plan = plan; work = kept i })
      ∙ ap whole (sym (c.bad mode (length work) (length plan))) ∙ is_whole

  -- or what follows, and all records cleared
  pub connect-done : {found : Result Accepted NoPlan} (r : Answer) {plan' : List ℕ} {work' : List Record} (between : List Record) → Admitted k old new
      → Writes (connected (test_of mode old new) k (contract_in old) (contract_in new) (limit_of (length work)) (length plan)) found plan plan'
      → length between ≡ length work
      → work' ≡ cleared between
      → answer_of r ≡ answer_in found
      → record { answer = answer_of r; plan = plan'; work = work' } ≡ connect_of blank (mode_of mode) k old new work plan
  unfolding front
  connect-done r {work' = work'} between c w long is-cleared a =
      let σ = contract_in old in
      let τ = contract_in new in
      let o = connected (test_of mode old new) k σ τ (limit_of (length work)) (length plan) in
      let zero : work' ≡ cond (clears o.answer.number) (map (λ r. blank) work) work =
      rw (connected-clears (test_of mode old new) k σ τ (limit_of (length work)) (length plan)) (is-cleared ∙ cleared-same between work long) in
      let answered = a ∙ w.answer in
      (λ i. record { answer = answered i; plan = w.written i; work = zero i })
      ∙ ap whole (sym (c.good mode (length work) (length plan))) ∙ is_whole

-- ---- by another name of the mode

pub connect-named : (k : ℕ) (old new : List ℕ) (work : List Record) (plan : List ℕ) (mode : Mode) {named : model-test.Mode}
    → mode_of mode ≡ named → {whole : Connected Record} → whole ≡ connect_of blank (mode_of mode) k old new work plan
    → whole ≡ connect_of blank named k old new work plan
connect-named k old new work plan mode e {whole} is =
    subst (λ (named : model-test.Mode). whole ≡ connect_of blank named k old new work plan) e is
