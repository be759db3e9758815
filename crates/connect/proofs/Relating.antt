-- What follows the search, by cases: the start is marked, or the records are fit for numbering.
-- Assumes nothing.
use mathlib.Core.Path.{◌≡◌, refl, sym, ap, subst, subst⁻¹, ◌∙◌}
use mathlib.Core.Bool.{Bool, true, false, cond}
use mathlib.Core.List.{List, [], ◌∷◌}
use Prim.Native.Nat.{ℕ, zero, suc, ◌<◌}
use native.Mathlib.Omega.{arith}
use lib.ListN.{length, get_or}
use lib.Dec.{eqb}
use borrow.Author.Tests.{eq-eqb, ne_eqb}
use Rattle.model.specs.Lists.{any, keep, upto}
use Rattle.moves.specs.declared.Mode.{Mode}
use Rattle.moves.specs.Modes.{test_of}
use Rattle.model.specs.Situation.{Situation, codes}
use Rattle.model.specs.Search.{member}
use Rattle.model.specs.Rounds.{Sifted}
use Rattle.model.specs.Plan.{plan_rows}
use Rattle.model.specs.Sheet.{contract_in}
use Rattle.model.specs.Connect.{Outcome, counted, emitted}
use Rattle.keys.specs.Links.{next_in, unmarked, LinksWithin}
use Rattle.keys.specs.Masks.{MasksLeft}
use Rattle.table.specs.declared.Record.{Record}
use Rattle.table.specs.Records.{blank}
use Rattle.table.specs.Lists.{keys_of, links_of, marks_of, present_of}
use Rattle.table.specs.States.{SearchedTable}
use Rattle.table.proofs.Lists.{marks-at, numbers-at}
use Rattle.lists.specs.Sifted.{sifted_in, SiftedDone}
use Rattle.rounds.specs.Work.{SiftedWork}
use Rattle.lists.specs.Kept.{kept_rows}
use Rattle.numbering.specs.Table.{kept_rows_at, UnnumberedTable}
use Rattle.std.specs.Prelude.{Result, Err}
use Rattle.connect.specs.Answers.{Writes}
use Rattle.connect.specs.Related.{related_in, related_from, emitted_from}
use Rattle.connect.proofs.Emitting.{writes-none}
use Rattle.connect.specs.declared.Accepted.{Accepted}
use Rattle.connect.specs.declared.NoPlan.{NoPlan}
use Rattle.connect.specs.declared.NoPlan.TheVariants.{NoAdapter}

-- ---- the start among the unmarked

above-start : (p : ℕ → Bool) (count first : ℕ) → 0 < first → any (eqb 0) (keep p (upto first count)) ≡ false
unfolding any keep upto
above-start p zero first h = refl
above-start p (suc count) first h = go (p first) (above-start p count (suc first) (omega arith))
  where
    go : (t : Bool) → any (eqb 0) (keep p (upto (suc first) count)) ≡ false
        → any (eqb 0) (cond t (first ∷ keep p (upto (suc first) count)) (keep p (upto (suc first) count))) ≡ false
    go true r = rw (ne_eqb 0 first (λ e. omega arith)) r
    go false r = r

pub start-unmarked : (marks : List ℕ) (count : ℕ) → 0 < count → member eqb 0 (unmarked marks count) ≡ eqb (get_or marks 0 0) 0
unfolding member unmarked any keep upto
start-unmarked marks zero h = absurd (omega arith)
start-unmarked marks (suc count) h = go (eqb (get_or marks 0 0) 0)
  where
    go : (t : Bool) → any (eqb 0) (cond t (0 ∷ keep (λ i. eqb (get_or marks i 0) 0) (upto 1 count))
        (keep (λ i. eqb (get_or marks i 0) 0) (upto 1 count))) ≡ t
    go true = refl
    go false = above-start (λ i. eqb (get_or marks i 0) 0) count 1 (omega arith)

-- ---- the rounds decide

module _ (tested : List ℕ → Situation → Bool) (k n : ℕ) (keys links : List ℕ) (count room rounds : ℕ) (marks marks' : List ℕ)
    (done : SiftedDone tested keys links count rounds marks marks') (some : 0 < count) where
  abbrev left : Sifted ℕ
  left = sifted_in tested keys links count

  start-stays : member eqb 0 left.kept ≡ eqb (get_or marks' 0 0) 0
  start-stays = ap (member eqb 0) (sym done.kept_are) ∙ start-unmarked marks' count some

  related-removed : (get_or marks' 0 0 ≡ 0 → ⊥) → related_in tested k n keys links count room ≡ counted 12 count 0 rounds []
  unfolding related_in
  related-removed gone = rw (start-stays, ne_eqb (get_or marks' 0 0) 0 gone) (ap (λ (r : ℕ). counted 12 count 0 r []) (sym done.rounds_are))

  related-kept : get_or marks' 0 0 ≡ 0
      → related_in tested k n keys links count room ≡ emitted n k room count rounds (kept_rows links marks' count)
  unfolding related_in kept_rows
  related-kept e =
      let r = sym done.rounds_are in
      let kept = sym done.kept_are in
      rw (start-stays, eq-eqb (get_or marks' 0 0) 0 e) (λ i. emitted n k room count (r i) (plan_rows eqb codes (next_in links) (kept i) 0))

-- ---- the records after the rounds

module _ (mode : Mode) (k : ℕ) (old new : List ℕ) (count rounds : ℕ) (ys : List Record) {ys' : List Record} (searched : SearchedTable old new count ys)
    (some : 0 < count)
    (sifted : SiftedWork (test_of mode old new) count rounds ys ys') where
  pub start-there : 0 < length ys'
  start-there = omega (arith, searched.situated.room, sifted.size)

  module _ {y : Record} (y-is : y ≡ get_or ys' 0 blank) where
    start-mark : get_or (marks_of ys') 0 0 ≡ y.mark
    start-mark = marks-at ys' 0 start-there ∙ ap (λ (y : Record). y.mark) (sym y-is)

    -- 12
    pub relate-removed : (y.mark ≡ 0 → ⊥) → (plan : List ℕ)
        → Writes (related_from mode k old new count ys (length plan)) (Err (NoAdapter count rounds)) plan plan
    relate-removed n plan =
        subst⁻¹ (λ (o : Outcome). Writes o (Err (NoAdapter count rounds)) plan plan)
        (related-removed (test_of mode old new) k (contract_in old).n (keys_of ys) (links_of ys) count (length plan) rounds (marks_of ys) (marks_of ys')
        sifted.done some (λ e. n (sym start-mark ∙ e)))
        (writes-none 12 count 0 rounds plan refl)

    module _ (kept : y.mark ≡ 0) where
      -- what the numbering asks of the records
      pub emit-needs : UnnumberedTable count ys'
      emit-needs =
          record {
            sifted = record {
              some_situation = some;
              few = searched.situated.few;
              room = omega (arith, searched.situated.room, sifted.size);
              links_within = subst⁻¹ (LinksWithin count) sifted.links searched.situated.links_within;
              start_kept = start-mark ∙ kept;
              masks = subst⁻¹ (λ (links : List ℕ). MasksLeft count links (marks_of ys') (present_of ys')) sifted.links sifted.masks;
            };
            none = λ i h.
                ap (λ (numbers : List ℕ). get_or numbers i 0) sifted.numbers
                ∙ numbers-at ys i (omega (arith, searched.situated.room)) ∙ searched.unnumbered i h;
          }

      -- 13 or acceptance
      pub relate-kept : {r : Result Accepted NoPlan} (plan plan' : List ℕ) → Writes (emitted_from k old count rounds ys' (length plan)) r plan plan'
          → Writes (related_from mode k old new count ys (length plan)) r plan plan'
      unfolding kept_rows_at
      relate-kept {r} plan plan' w =
          subst⁻¹ (λ (o : Outcome). Writes o r plan plan')
          (related-kept (test_of mode old new) k (contract_in old).n (keys_of ys) (links_of ys) count (length plan) rounds (marks_of ys) (marks_of ys')
          sifted.done some (start-mark ∙ kept))
          (subst (λ (links : List ℕ). Writes
          (emitted (contract_in old).n k (length plan) count rounds (kept_rows links (marks_of ys') count)) r plan plan')
          sifted.links w)
