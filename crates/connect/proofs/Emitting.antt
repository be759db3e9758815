-- The plan of what stays: its length decides between 13 and acceptance, and is known before a byte is written.
-- Assumes nothing.
use mathlib.Core.Path.{◌≡◌, sym, ap, subst, ◌∙◌}
use mathlib.Core.List.{List, []}
use Prim.Native.Nat.{ℕ, ◌≤◌, ◌<◌}
use native.Mathlib.Omega.{arith}
use lib.ListN.{length}
use borrow.Author.Tests.{le-leb, lt-leb}
use Rattle.model.specs.Plan.{Move, plan_bytes}
use Rattle.model.specs.Sheet.{contract_in}
use Rattle.model.specs.Connect.{counted, emitted}
use Rattle.little_endian.specs.Front.{front}
use Rattle.little_endian.proofs.Front.{front-none}
use Rattle.table.specs.declared.Record.{Record}
use Rattle.numbering.specs.Table.{states_at, kept_rows_at, UnnumberedTable, NumberedTable, NumberedInto}
use Rattle.numbering.specs.Writing.{ToWrite}
use Rattle.numbering.proofs.records.Held.{rows_stay}
use Rattle.numbering.proofs.records.Numbering.{numbered-table}
use Rattle.numbering.proofs.records.States.{states-are}
use Rattle.std.specs.Prelude.{Result, Ok, Err}
use Rattle.connect.specs.Answers.{counting, answer_in, Writes}
use Rattle.connect.specs.Related.{emitted_from}
use Rattle.connect.specs.declared.Accepted.{Accepted}
use Rattle.connect.specs.declared.NoPlan.{NoPlan}
use Rattle.connect.specs.declared.NoPlan.TheVariants.{Room}

-- a refusal after situations were counted, with nothing written
pub writes-none : (number situations states rounds : ℕ) {r : Result Accepted NoPlan} (plan : List ℕ)
    → answer_in r ≡ counting number situations states rounds 0
    → Writes (counted number situations states rounds []) r plan plan
unfolding counted counting
writes-none number situations states rounds plan a = record { answer = a; written = sym (front-none plan) }

-- ---- the length decides

module _ (k n situations states rounds size : ℕ) (rows : List (List Move)) (plan : List ℕ)
    (size_is : size ≡ length (plan_bytes n k rows)) (is-states : states ≡ length rows) where
  emit-short : length plan < size → Writes (emitted n k (length plan) situations rounds rows) (Err (Room situations states rounds)) plan plan
  unfolding emitted
  emit-short h =
      rw (lt-leb (length (plan_bytes n k rows)) (length plan) (omega (arith, size_is)))
      (writes-none 13 situations (length rows) rounds plan (λ i. counting 13 situations (is-states i) rounds 0))

  emit-fits : (plan' : List ℕ) → size ≤ length plan → plan' ≡ front (plan_bytes n k rows) plan
      → Writes (emitted n k (length plan) situations rounds rows)
      (Ok (record { situations = situations; states = states; rounds = rounds; length = size })) plan plan'
  unfolding emitted counted counting
  emit-fits plan' h w =
      rw (le-leb (length (plan_bytes n k rows)) (length plan) (omega (arith, size_is)))
      (record { answer = λ i. counting 0 situations (is-states i) rounds (size_is i); written = w })

-- ---- the records after the numbering

module _ (k : ℕ) (old : List ℕ) (count rounds : ℕ) (ys : List Record) {states : ℕ} {ys' : List Record}
    (unnumbered : UnnumberedTable count ys)
    (into : NumberedInto count (states_at count ys) states ys ys') where
  pub numbered-states : NumberedTable count states ys'
  numbered-states = numbered-table ys unnumbered.sifted into

  abbrev rows : List (List Move)
  rows = kept_rows_at count ys

  rows_same : kept_rows_at count ys' ≡ rows
  rows_same = rows_stay into.only count

  states-count : states ≡ length rows
  states-count = states-are ys' numbered-states ∙ ap length rows_same

  module _ {size : ℕ} (size_is : (n k : ℕ) → size ≡ length (plan_bytes n k (kept_rows_at count ys'))) (plan : List ℕ) where
    size_same : (n : ℕ) → size ≡ length (plan_bytes n k rows)
    size_same n = size_is n k ∙ ap (λ (rows : List (List Move)). length (plan_bytes n k rows)) rows_same

    module _ (fitting : size ≤ length plan) where
      pub plan-to-write : (n : ℕ) → ToWrite (plan_bytes n k (kept_rows_at count ys')) count states ys' plan
      plan-to-write n = record { table = numbered-states; room = omega (arith, size_is n k, fitting) }

      pub plan-emitted : {n : ℕ} {plan' : List ℕ} → n ≡ (contract_in old).n → plan' ≡ front (plan_bytes n k (kept_rows_at count ys')) plan
          → Writes (emitted_from k old count rounds ys (length plan))
          (Ok (record { situations = count; states = states; rounds = rounds; length = size })) plan plan'
      plan-emitted {n} {plan'} n-is written =
          subst (λ (n : ℕ). Writes (emitted n k (length plan) count rounds rows)
          (Ok (record { situations = count; states = states; rounds = rounds; length = size })) plan plan') n-is
          (emit-fits k n count states rounds size rows plan (size_same n) states-count plan' fitting
          (written ∙ ap (λ (rows : List (List Move)). front (plan_bytes n k rows) plan) rows_same))

    pub plan-refused : length plan < size → Writes (emitted_from k old count rounds ys (length plan)) (Err (Room count states rounds)) plan plan
    plan-refused = emit-short k (contract_in old).n count states rounds size rows plan (size_same (contract_in old).n) states-count
