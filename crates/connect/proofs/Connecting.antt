-- Connecting two checked sheets: a search that is over the limit is refusal 11; else the records hold all that is reached, and what
-- follows over them is what follows over the situations.
-- Assumes nothing.
use mathlib.Core.Path.{◌≡◌, refl, sym, ap, subst, subst⁻¹, ◌∙◌}
use mathlib.Core.List.Memᴰ
use mathlib.Core.List.{List, [], ◌∷◌, Memᴰ}
use Prim.Native.Nat.{ℕ, zero, suc, ◌≤◌, ◌<◌}
use native.Mathlib.Omega.{arith}
use lib.ListN.{length, get_or, replicate}
use Rattle.moves.specs.declared.Mode.{Mode}
use Rattle.moves.specs.Modes.{test_of}
use Rattle.model.specs.Contract.{Contract}
use Rattle.model.specs.Sheet.{plain, contract_in}
use Rattle.model.specs.Situation.{Situation, start, alike, same, codes, next}
use Rattle.model.specs.Search.{Reached, at_start, Search, search_from}
use Rattle.model.specs.Connect.{Outcome, refused, related, found, connected, limit_of}
use Rattle.model.proofs.Situation.{is_same}
use Rattle.model.proofs.Search.{search-all}
use Rattle.model.proofs.Weak.{is-reached, rank-reached, reached-within}
use Rattle.model.proofs.Sheet.{WellFormed}
use Rattle.sheet.specs.Whole.{IsSheet}
use Rattle.sheet.proofs.Whole.{sheet-formed}
use Rattle.little_endian.proofs.Front.{front-none}
use Rattle.keys.proofs.Keys.{Fits}
use Rattle.table.specs.declared.Record.{Record}
use Rattle.table.specs.Lists.{keys_of, links_of}
use Rattle.table.specs.States.{SearchedTable}
use Rattle.reached.specs.declared.Full.{Full}
use Rattle.reached.specs.Reached.{Searchable, found_by, Explored}
use Rattle.std.specs.Prelude.{Result, Ok, Err}
use Rattle.connect.specs.Answers.{refusing, connected_from, Writes}
use Rattle.connect.specs.Related.{related_in, related_from}
use Rattle.connect.specs.declared.Accepted.{Accepted}
use Rattle.connect.specs.declared.NoPlan.{NoPlan}
use Rattle.connect.specs.declared.NoPlan.TheVariants.{Capacity}
use Rattle.connect.proofs.Table.{HoldsSearch, related-table}

-- ---- reached situations fit their keys

module _ (k : ℕ) (σ τ : Contract) (σ-formed : WellFormed σ) (τ-formed : WellFormed τ) (rank : k ≤ 3) where
  alike-few : (i : ℕ) → get_or (alike k) i 0 ≤ 3
  unfolding alike
  alike-few i = go 14 i
    where
      go : (n i : ℕ) → get_or (replicate n k) i 0 ≤ 3
      go zero i = omega arith
      go (suc n) zero = rank
      go (suc n) (suc i) = go n i

  pub reached-fits : {s : Situation} → Reached codes (next (alike k) σ τ) start s → Fits s
  reached-fits r =
      let b = rank-reached (alike k) σ τ r in
      record {
        size = b.size;
        small = λ i. omega (arith, b.bounded i, alike-few i);
        old_state = omega (arith, (reached-within (alike k) σ τ σ-formed τ-formed r).0, σ-formed.few_states);
      }

-- ---- the limit

-- what the search asks: as many records as are lent, and 4,096 at most
pub search-needs : {old new : List ℕ} {k limit : ℕ} (work : List Record) → IsSheet old → IsSheet new → k ≤ 3 → limit ≡ limit_of (length work)
    → Searchable old new k limit work
unfolding limit_of
search-needs work old_sheet new_sheet rank e =
    record { old_sheet = old_sheet; new_sheet = new_sheet; rank = rank; few = omega arith; room = omega arith }

-- ---- the outcome

module _ (k : ℕ) (old new : List ℕ) (limit : ℕ) (ys ys' : List Record) where
  abbrev σ : Contract
  σ = contract_in old

  abbrev τ : Contract
  τ = contract_in new

  abbrev search : Search Situation
  search = search_from same codes (next (alike k) σ τ) limit start

  -- 11
  pub writes-over : {full : Full} → Explored old new k limit (Err full) ys ys' → (mode : Mode) → limit ≡ limit_of (length ys) → (plan : List ℕ)
      → Writes (connected_from mode k old new (length ys) (length plan)) (Err Capacity) plan plan
  unfolding connected found refused plain refusing
  writes-over {full} explored mode l plan =
      subst (λ (limit : ℕ). Writes (connected (test_of mode old new) k σ τ limit (length plan)) (Err Capacity) plan plan) l
      (go search.todo refl)
    where
      go : (t : List Situation) → search.todo ≡ t → Writes (connected (test_of mode old new) k σ τ limit (length plan)) (Err Capacity) plan plan
      go [] e = let some : Err full ≡ Ok (length search.done) = explored.answer ∙ ap (λ (t : List Situation). found_by t (length search.done)) e in cc
      go (s ∷ t) e =
          subst⁻¹ (λ (o : Outcome). Writes o (Err Capacity) plan plan) (ap (found (test_of mode old new) k σ τ (length plan) search.done) e)
          (record { answer = refl; written = sym (front-none plan) })

  module _ {count : ℕ} (explored : Explored old new k limit (Ok count) ys ys') (old_sheet : IsSheet old) (new_sheet : IsSheet new) (rank : k ≤ 3) where
    -- nothing is left to do
    whole-found : (search.todo ≡ []) × (length search.done ≡ count)
    whole-found = go search.todo refl
      where
        go : (t : List Situation) → search.todo ≡ t → (search.todo ≡ []) × (length search.done ≡ count)
        go [] e =
            let same : Ok count ≡ Ok (length search.done) = explored.answer ∙ ap (λ (t : List Situation). found_by t (length search.done)) e in
            (e, cc)
        go (s ∷ t) e =
            let none : ◌≡◌ {A = Result ℕ Full} (Ok count) (Err (record {})) = explored.answer ∙ ap (λ (t : List Situation). found_by t (length search.done)) e in cc

    whole : search.todo ≡ []
    whole = whole-found.0

    -- the start is among what was found
    some-found : 0 < length search.done
    some-found = go search.done (search-all same is_same codes (next (alike k) σ τ) start limit whole start (at_start refl))
      where
        go : (l : List Situation) → Memᴰ start l → 0 < length l
        go [] m = absurd (Memᴰ.not-nil m)
        go (s ∷ l) m = omega arith

    held : HoldsSearch k σ τ limit (keys_of ys') (links_of ys')
    held =
        record {
          whole = whole;
          fits = λ s m. reached-fits k σ τ (sheet-formed old old_sheet) (sheet-formed new new_sheet) rank
              (is-reached (alike k) σ τ limit whole s m);
          keys-hold = explored.keys whole;
          links-hold = explored.links whole;
        }

    module _ {total : ℕ} (total-is : total ≡ count) where
      is-total : length search.done ≡ total
      is-total = whole-found.1 ∙ sym total-is

      -- what the rounds ask of the records, and that there are some
      pub searched-table : SearchedTable old new total ys'
      searched-table = subst (λ (n : ℕ). SearchedTable old new n ys') is-total (explored.searched whole)

      pub some-total : 0 < total
      some-total = omega (arith, is-total, some-found)

      -- what follows
      pub writes-whole : (mode : Mode) → limit ≡ limit_of (length ys) → {r : Result Accepted NoPlan} (plan plan' : List ℕ)
          → Writes (related_from mode k old new total ys' (length plan)) r plan plan'
          → Writes (connected_from mode k old new (length ys) (length plan)) r plan plan'
      unfolding connected found
      writes-whole mode limit_is {r} plan plan' w =
          let over-found : related_in (test_of mode old new) k σ.n (keys_of ys') (links_of ys') total (length plan) ≡ related (test_of mode old new) k σ τ (length plan) search.done =
          ap (λ (n : ℕ). related_in (test_of mode old new) k σ.n (keys_of ys') (links_of ys') n (length plan)) (sym is-total)
          ∙ related-table k σ τ limit (keys_of ys') (links_of ys') held (test_of mode old new) (length plan) in
          subst (λ (limit : ℕ). Writes (connected (test_of mode old new) k σ τ limit (length plan)) r plan plan') limit_is
          (subst⁻¹ (λ (o : Outcome). Writes o r plan plan') (ap (found (test_of mode old new) k σ τ (length plan) search.done) whole)
          (subst (λ (o : Outcome). Writes o r plan plan') over-found w))
