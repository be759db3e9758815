-- Connecting, by cases: cut off (11), start removed (12), plan too long (13), accepted (0). Each case says what the definitions
-- of search, rounds and plan give there, with any test; and what relations of definition 3.7 of Padovani 2010 say, for what the test computes.
-- Assumes nothing.
use mathlib.Core.Path.{◌≡◌, refl, sym, ap, subst, subst⁻¹, ◌∙◌}
use mathlib.Core.Bool.{Bool, ◌&&◌}
use mathlib.Core.Logic.{◌≢◌, ◌↔◌, inl, inr, ◌⊎◌}
use mathlib.Core.Option.{Option, some, some-injective}
use mathlib.Core.List.Memᴰ
use mathlib.Core.List.{List, [], ◌∷◌, ◌++◌, append-nil, nil≢cons, Memᴰ}
use Prim.Native.Nat.{ℕ, ◌*◌, ◌≤◌, ◌<◌}
use native.Mathlib.Omega.{arith}
use lib.ListN.{length, get_or, get_elem?, length-append, length-map}
use lib.Dec.{T, leb, leb→le, le→leb, ltb}
use Rattle.model.specs.Lists.{Distinct, all}
use Rattle.model.specs.Contract.{Contract}
use Rattle.model.specs.Situation.{Situation, start, alike, same, kind_of, codes, next}
use Rattle.model.specs.Search.{Reached, at_start, by_move, Search, member, search_from}
use Rattle.model.specs.Rounds.{Sifted, within}
use Rattle.model.specs.Plan.{Move, held, plan_states, row_of, plan_rows, move_bytes, row_bytes, rows_bytes, plan_bytes, named_below, ascending, good_row, read_plan, rows_of, rows_in}
use Rattle.model.specs.Sheet.{plain}
use Rattle.model.specs.Connect.{Outcome, refused, counted, sifted_of, rows_for, emitted, related, found, connected}
use Rattle.model.specs.Demands.{Exceed, ReachedCount, Related, IsKept, kept_start, kept_move, HoldsLargest}
use Rattle.model.proofs.Lists.{and_both, dec-T, cond_yes, cond_no}
use Rattle.model.proofs.Rounds.{member-intro, member-elim, moves-intro, sifted-from, sifted-rounds}
use Rattle.model.proofs.Search.{Inv, search-inv, search-all, search-cut, search-few, pigeons}
use Rattle.model.proofs.Situation.{is_same}
use Rattle.model.proofs.Test.{Computes}
use Rattle.model.proofs.Weak.{is-reached, kept-is-largest, largest-is-kept}
use Rattle.model.proofs.Sheet.{WellFormed}
use Rattle.model.proofs.PlanRows.{at_mem, within-elim, state-found, state-kept, state-closed, row-elim, row-intro, row-at, start_first, states-distinct, mem-at}
use Rattle.model.proofs.PlanBytes.{length-moves, plan-read-back}
use Rattle.model.proofs.PlanEmitted.{emitted-row}

-- rows of the plan layout are short, so their offsets fit 32 bits
rows_short : (n count : ℕ) (rs : List (List Move)) → ((r : List Move) → Memᴰ r rs → T (good_row n count r)) → length (rows_bytes rs) ≤ 127 * length rs
unfolding rows_bytes row_bytes good_row
rows_short n count [] g = omega arith
rows_short n count (r ∷ rs) g =
    let a = (and_both (leb (length r) 42 && ascending r) (all (λ m. named_below n (kind_of m.code) && ltb m.to count) r) (g r (Memᴰ.head refl))).0 in
    let size : length r ≤ 42 = leb→le (length r) 42 (and_both (leb (length r) 42) (ascending r) a).0 in
    let rest = rows_short n count rs (λ x m. g x (Memᴰ.tail m)) in
    omega (arith, length-append (length r ∷ move_bytes r) (rows_bytes rs), length-moves r)

module _ (k : ℕ) (σ τ : Contract) (limit : ℕ) where
  abbrev nx : Situation → ℕ → Option Situation
  nx = next (alike k) σ τ

  abbrev search : Search Situation
  search = search_from same codes nx limit start

  -- ---- how many situations are reached

  abbrev inv : Inv codes nx start search.done search.todo
  inv = search-inv same is_same codes nx start limit

  -- a search that is cut off: more than the limit are reached
  pub cut-exceeds : (search.todo ≢ []) → Exceed k σ τ limit
  cut-exceeds n = (search.done ++ search.todo, inv.distinct, inv.found, more search.todo refl)
    where
      more : (l : List Situation) → search.todo ≡ l → limit < length (search.done ++ search.todo)
      more [] e = absurd (n e)
      more (s ∷ l) e =
          omega (arith, search-cut same is_same codes nx start limit n, length-append search.done search.todo, ap length e)

  module _ (whole : search.todo ≡ []) where
    -- a whole search: no more than the limit are reached
    pub whole-within : Exceed k σ τ limit → ⊥
    whole-within x =
        let all_found = pigeons x.0 search.done x.1 (λ s m. search-all same is_same codes nx start limit whole s (x.2 s m)) in
        absurd (omega (arith, x.3, all_found, search-few same codes nx limit start))

    pub whole-count : ReachedCount k σ τ (length search.done)
    whole-count = (
      search.done,
      subst (λ (l : List Situation). Distinct l) (ap (λ (l : List Situation). search.done ++ l) whole ∙ append-nil search.done) inv.distinct,
      (λ s. (is-reached (alike k) σ τ limit whole s, search-all same is_same codes nx start limit whole s)),
      refl,
    )

  -- ---- with a test

  module _ (passes : List ℕ → Situation → Bool) where
    abbrev left : Sifted Situation
    left = sifted_of passes k σ τ search.done

    abbrev rows : List (List Move)
    rows = rows_for k σ τ left.kept

    abbrev bytes : List ℕ
    bytes = plan_bytes σ.n k rows

    -- what connecting comes to, with so much room for the plan
    pub data Shape (room : ℕ) : Type 0 where
      cut_off : (search.todo ≢ []) → connected passes k σ τ limit room ≡ refused (plain 11 0) → Shape room
      removed : search.todo ≡ [] → (Memᴰ start left.kept → ⊥)
          → connected passes k σ τ limit room ≡ counted 12 (length search.done) 0 left.rounds [] → Shape room
      too_long : search.todo ≡ [] → Memᴰ start left.kept → room < length bytes
          → connected passes k σ τ limit room ≡ counted 13 (length search.done) (length rows) left.rounds [] → Shape room
      fits : search.todo ≡ [] → Memᴰ start left.kept → length bytes ≤ room
          → connected passes k σ τ limit room ≡ counted 0 (length search.done) (length rows) left.rounds bytes → Shape room

    shape-whole : (room : ℕ) → search.todo ≡ [] → connected passes k σ τ limit room ≡ related passes k σ τ room search.done → Shape room
    unfolding related emitted
    shape-whole room w e = go (dec-T (member same start left.kept)) (dec-T (leb (length bytes) room))
      where
        accepted : Outcome
        accepted = counted 0 (length search.done) (length rows) left.rounds bytes

        longer : Outcome
        longer = counted 13 (length search.done) (length rows) left.rounds []

        start-gone : Outcome
        start-gone = counted 12 (length search.done) 0 left.rounds []

        go : T (member same start left.kept) ⊎ (T (member same start left.kept) → ⊥)
            → T (leb (length bytes) room) ⊎ (T (leb (length bytes) room) → ⊥) → Shape room
        go (inl m) (inl l) =
            fits w (member-elim same is_same start left.kept m) (leb→le (length bytes) room l)
            (e ∙ cond_yes (member same start left.kept) _ start-gone m ∙ cond_yes (leb (length bytes) room) accepted longer l)
        go (inl m) (inr l) =
            let n : (length bytes ≤ room) → ⊥ = (λ h. l (le→leb (length bytes) room h)) in
            too_long w (member-elim same is_same start left.kept m) (omega arith)
            (e ∙ cond_yes (member same start left.kept) _ start-gone m ∙ cond_no (leb (length bytes) room) accepted longer l)
        go (inr m) l =
            removed w (λ q. m (member-intro same is_same q)) (e ∙ cond_no (member same start left.kept) _ start-gone m)

    pub shape : (room : ℕ) → Shape room
    unfolding connected found
    shape room = go search.todo refl
      where
        go : (l : List Situation) → search.todo ≡ l → Shape room
        go [] e = shape-whole room e (ap (found passes k σ τ room search.done) e)
        go (s ∷ l) e = cut_off (λ z. nil≢cons (sym z ∙ e)) (ap (found passes k σ τ room search.done) e)

    module _ (whole : search.todo ≡ []) where
      -- no more rounds remove something than there are situations
      pub rounds-within : left.rounds ≤ length search.done
      unfolding sifted_of
      rounds-within = sifted-rounds same is_same codes nx passes search.done

      -- what is asked where the test passes
      module _ (asks : (ℕ → Type 0) → Situation → Type 0) (computes : Computes τ passes asks) where
        -- the start is kept exactly if some relation of definition 3.7 holds it
        pub kept-related : Memᴰ start left.kept ↔ Related asks k σ τ start
        unfolding sifted_of
        kept-related = (kept-is-largest (alike k) σ τ passes asks computes limit whole start, largest-is-kept (alike k) σ τ passes asks computes limit whole start (at_start refl))

      -- ---- the plan

      module _ (begun : Memᴰ start left.kept) (σ-formed : WellFormed σ) (τ-formed : WellFormed τ) (same-n : σ.n ≡ τ.n)
          (k-ok : k ≤ 3) (limit-ok : limit ≤ 4096) where
        abbrev states : List Situation
        states = plan_states same codes nx left.kept start

        pub rows-states : length rows ≡ length states
        unfolding rows_for plan_rows
        rows-states = length-map states (row_of same codes nx left.kept start)

        -- a plan state is a reached situation
        pub state-reached : (s : Situation) → Memᴰ s states → Memᴰ s search.done
        unfolding sifted_of
        state-reached s m = sifted-from same is_same codes nx passes search.done s (state-kept same is_same codes nx left.kept start begun s m)

        few_rows : length rows ≤ 4096
        few_rows =
            omega (
              arith,
              rows-states,
              pigeons states search.done (states-distinct same is_same codes nx left.kept start begun) state-reached,
              search-few same codes nx limit start,
            )

        some-rows : 1 ≤ length rows
        some-rows = omega (arith, rows-states, mem-at states 0 start (start_first same is_same codes nx left.kept start begun))

        good-rows : (r : List Move) → Memᴰ r rows → T (good_row σ.n (length rows) r)
        unfolding rows_for plan_rows
        good-rows r m =
            let w = Memᴰ.of_map (row_of same codes nx left.kept start) states m in
            subst (λ (r : List Move). T (good_row σ.n (length rows) r)) w.2
            (subst⁻¹ (λ (count : ℕ). T (good_row σ.n count (row_of same codes nx left.kept start w.0))) rows-states
            (emitted-row (alike k) σ τ σ.n σ-formed τ-formed refl (sym same-n) left.kept begun w.0 w.1))

        -- the emitted bytes read as the plan with these rows
        pub emitted-reads : read_plan bytes ≡ some (record { n = σ.n; k = k; rows = rows })
        emitted-reads =
            plan-read-back σ.n k rows σ-formed.few_names k-ok some-rows few_rows (omega (arith, rows_short σ.n (length rows) rows good-rows, few_rows)) good-rows

        pub emitted-rows : rows_in bytes ≡ rows
        unfolding rows_in rows_of
        emitted-rows = ap rows_of emitted-reads

        row-of : (i : ℕ) (s : Situation) → get_elem? states i ≡ some s → get_or (rows_in bytes) i [] ≡ row_of same codes nx left.kept start s
        unfolding rows_for
        row-of i s e = ap (λ (rs : List (List Move)). get_or rs i []) emitted-rows ∙ row-at same is_same codes nx left.kept start begun i s e

        -- what the plan holds, by what is asked where the test passes
        module _ (asks : (ℕ → Type 0) → Situation → Type 0) (computes : Computes τ passes asks) where
          -- what a row holds is a move into the largest relation
          only-largest : (i code to : ℕ) (s : Situation) → get_elem? states i ≡ some s → held (get_or (rows_in bytes) i []) code ≡ some to
              → (t : Situation) × Memᴰ code codes × (nx s code ≡ some t) × Related asks k σ τ t × (get_elem? states to ≡ some t)
          unfolding sifted_of
          only-largest i code to s e h =
              let h' = subst (λ (r : List Move). held r code ≡ some to) (row-of i s e) h in
              let w = row-elim same is_same codes nx left.kept start begun s code to (at_mem states i s e) h' in
              let t = w.1 in
              (t.0, w.0, t.1, kept-is-largest (alike k) σ τ passes asks computes limit whole t.0 t.2, t.3)

          -- and each such move is held
          every-largest : (i code : ℕ) (s t : Situation) → get_elem? states i ≡ some s → Memᴰ code codes → nx s code ≡ some t → Related asks k σ τ t
              → (to : ℕ) × (held (get_or (rows_in bytes) i []) code ≡ some to) × (get_elem? states to ≡ some t)
          unfolding sifted_of
          every-largest i code s t e m x r =
              let here = at_mem states i s e in
              let reached-t = by_move code m x (is-reached (alike k) σ τ limit whole s (state-reached s here)) in
              let kept-t = largest-is-kept (alike k) σ τ passes asks computes limit whole t reached-t r in
              let w = row-intro same is_same codes nx left.kept start begun s code (moves-intro same is_same codes nx left.kept s code t m x kept-t) in
              let v = (row-elim same is_same codes nx left.kept start begun s code w.0 here w.1).1 in
              let q : v.0 ≡ t = some-injective v.0 t (sym v.1 ∙ x) in (
                w.0,
                subst⁻¹ (λ (r : List Move). held r code ≡ some w.0) (row-of i s e) w.1,
                subst (λ (t : Situation). get_elem? states w.0 ≡ some t) q v.3,
              )

          -- the plan's states are the situations reached by kept moves
          state-is-kept : {s : Situation} → Reached codes (within same nx left.kept) start s → IsKept asks k σ τ s
          unfolding sifted_of
          state-is-kept (at_start e) = kept_start e
          state-is-kept (by_move {s = s} {t = t} code m x r) =
              let w = within-elim same is_same codes nx left.kept s code t x in
              kept_move code m w.0 (kept-is-largest (alike k) σ τ passes asks computes limit whole t w.1) (state-is-kept r)

          kept-is-state : {s : Situation} → IsKept asks k σ τ s → Memᴰ s states
          unfolding sifted_of
          kept-is-state (kept_start e) = Memᴰ.cast e (at_mem states 0 start (start_first same is_same codes nx left.kept start begun))
          kept-is-state (kept_move {s = s} {t = t} code m x r from) =
              let here = kept-is-state from in
              let reached-t = by_move code m x (is-reached (alike k) σ τ limit whole s (state-reached s here)) in
              state-closed same is_same codes nx left.kept start begun s t code here m x (largest-is-kept (alike k) σ τ passes asks computes limit whole t reached-t r)

          pub holds-largest : HoldsLargest asks k σ τ bytes
          holds-largest =
              record {
                states = states;
                first = start_first same is_same codes nx left.kept start begun;
                distinct = states-distinct same is_same codes nx left.kept start begun;
                kept = λ s. ((λ m. state-is-kept (state-found same is_same codes nx left.kept start begun s m)), kept-is-state);
                rows = ap length emitted-rows ∙ rows-states;
                only = only-largest;
                every = every-largest;
              }
