-- From the work lists to the definitions: where the keys and the links hold a whole search, rounds and plan rows over the numbers
-- of situations are those over the situations. Situation i is element i of what the search found.
-- Assumes nothing.
use mathlib.Core.Path.{◌≡◌, refl, sym, ap, subst, subst⁻¹, ◌∙◌}
use mathlib.Core.Bool.{Bool, true, false, cond}
use mathlib.Core.Option
use mathlib.Core.Option.{Option, none, some, some-injective, none-ne-some}
use mathlib.Core.List.Memᴰ
use mathlib.Core.List.{List, [], ◌∷◌, ◌++◌, map, append-nil, Memᴰ}
use Prim.Native.Nat.{ℕ, zero, suc, ◌<◌}
use native.Mathlib.Omega.{arith}
use lib.ListN.{length, get_or, get_elem?, take, length-append}
use lib.Seq.{get_or-take, append_snoc, get_or-append_seam}
use lib.Dec.{T, eqb}
use borrow.Author.Tests.{eqb-true, eqb-false}
use Rattle.model.specs.Lists.{place, upto, Distinct}
use Rattle.model.specs.Contract.{Contract}
use Rattle.model.specs.Situation.{Situation, start, alike, same, codes, next}
use Rattle.model.specs.Search.{at_start, Search, member, add_all, search, search_from}
use Rattle.model.specs.Rounds.{Sifted, sifted}
use Rattle.model.specs.Plan.{plan_rows}
use Rattle.model.specs.Connect.{sifted_of, rows_for, counted, emitted, related}
use Rattle.model.proofs.Lists.{is_true, get_d_mem, get_d_map_in}
use Rattle.model.proofs.Actions.{upto-mem}
use Rattle.model.proofs.Situation.{is_same}
use Rattle.model.proofs.Search.{Inv, search-inv, search-all, search-front}
use Rattle.model.proofs.PlanRows.{place_at, mem-at}
use Rattle.model.proofs.Renumber.{AllIn, Renumbering, sifted_named, sifted-renumber, sifted-within, plan-rows-renumber, member-renumber}
use Rattle.keys.specs.Keys.{key_of, situation_in}
use Rattle.keys.specs.Links.{next_in}
use Rattle.keys.proofs.Keys.{Fits, key_back}
use Rattle.lists.specs.Sifted.{test_in, sifted_in}
use Rattle.connect.specs.Related.{related_in}

-- ---- elements by their place

-- an element's place in a list that has it once
distinct-places : {A : Type 0} (l : List A) (d : A) (i j : ℕ) → Distinct l → i < length l → j < length l → get_or l i d ≡ get_or l j d → i ≡ j
distinct-places [] d i j u h k e = absurd (omega arith)
distinct-places (x ∷ l) d zero zero u h k e = refl
distinct-places (x ∷ l) d zero (suc j) u h k e = absurd (u.0 (subst⁻¹ (λ y. Memᴰ y l) e (get_d_mem l j d (omega arith))))
distinct-places (x ∷ l) d (suc i) zero u h k e = absurd (u.0 (subst (λ y. Memᴰ y l) e (get_d_mem l i d (omega arith))))
distinct-places (x ∷ l) d (suc i) (suc j) u h k e = ap suc (distinct-places l d i j u.1 (omega arith) (omega arith) e)

at_get_d : {A : Type 0} (l : List A) (i : ℕ) (d x : A) → get_elem? l i ≡ some x → get_or l i d ≡ x
at_get_d [] i d x e = absurd (none-ne-some x e)
at_get_d (y ∷ l) zero d x e = some-injective y x e
at_get_d (y ∷ l) (suc i) d x e = at_get_d l i d x e

-- a list is its elements by their places
places-all : {A : Type 0} (l front : List A) (d : A) → map (λ i. get_or (front ++ l) i d) (upto (length front) (length l)) ≡ l
unfolding upto
places-all [] front d = refl
places-all {A} (x ∷ l) front d =
    let size : length (front ++ x ∷ []) ≡ suc (length front) = omega (arith, length-append front (x ∷ [])) in
    let ih = places-all l (front ++ x ∷ []) d in
    let rest : map (λ i. get_or (front ++ x ∷ l) i d) (upto (suc (length front)) (length l)) ≡ l =
    subst (λ (n : ℕ). map (λ i. get_or (front ++ x ∷ l) i d) (upto n (length l)) ≡ l) size
    (subst (λ (xs : List A). map (λ i. get_or xs i d) (upto (length (front ++ x ∷ [])) (length l)) ≡ l) (append_snoc front x l) ih) in
    rw (get_or-append_seam front x l d, rest) refl

-- ---- sameness, as a test

same-yes : (s t : Situation) → s ≡ t → same s t ≡ true
same-yes s t e = is_true (same s t) (subst (λ (x : Situation). T (same s x)) e (is_same.reflexive s))

same-no : (s t : Situation) → (s ≡ t → ⊥) → same s t ≡ false
same-no s t n = is_false (same s t) (λ h. n (is_same.sound s t h))
  where
    is_false : (b : Bool) → (T b → ⊥) → b ≡ false
    is_false true h = absurd (h tt)
    is_false false h = refl

module _ (k : ℕ) (σ τ : Contract) (limit : ℕ) where
  abbrev nx : Situation → ℕ → Option Situation
  nx = next (alike k) σ τ

  abbrev searched : Search Situation
  searched = search_from same codes nx limit start

  abbrev done : List Situation
  done = searched.done

  abbrev count : ℕ
  count = length done

  abbrev name : ℕ → Situation
  name i = get_or done i start

  abbrev Domain : ℕ → Type 0
  Domain i = i < count

  -- the lists hold the search
  pub record HoldsSearch (keys links : List ℕ) : Type 0 where
    pub whole : searched.todo ≡ []
    pub fits : (s : Situation) → Memᴰ s done → Fits s
    pub keys-hold : take count keys ≡ map key_of done
    pub links-hold : (i code : ℕ) → i < count → Memᴰ code codes
        → next_in links i code ≡ Option.map (λ t. place (same t) done) (nx (name i) code)

  module _ (keys links : List ℕ) (h : HoldsSearch keys links) where
    inv : Inv codes nx start done searched.todo
    inv = search-inv same is_same codes nx start limit

    distinct : Distinct done
    distinct = subst (λ (l : List Situation). Distinct l) (ap (λ (l : List Situation). done ++ l) h.whole ∙ append-nil done)
        inv.distinct

    agree : (a b : ℕ) → Domain a → Domain b → same (name a) (name b) ≡ eqb a b
    agree a b p q = go (eqb a b) refl
      where
        go : (t : Bool) → eqb a b ≡ t → same (name a) (name b) ≡ t
        go true e = same-yes (name a) (name b) (ap name (eqb-true a b e))
        go false e = same-no (name a) (name b) (λ z. eqb-false a b e (distinct-places done start a b distinct p q z))

    -- where a move leads has been found
    found-next : (i code : ℕ) (t : Situation) → Domain i → Memᴰ code codes → nx (name i) code ≡ some t → Memᴰ t done
    found-next i code t p m e =
        subst (λ (l : List Situation). Memᴰ t l) (ap (λ (l : List Situation). done ++ l) h.whole ∙ append-nil done)
        (inv.closed (name i) code t (get_d_mem done i start p) m e)

    step : (i code : ℕ) → Domain i → Memᴰ code codes → nx (name i) code ≡ Option.map name (next_in links i code)
    step i code p m = go (nx (name i) code) refl ∙ ap (Option.map name) (sym (h.links-hold i code p m))
      where
        go : (o : Option Situation) → nx (name i) code ≡ o
            → nx (name i) code ≡ Option.map name (Option.map (λ t. place (same t) done) (nx (name i) code))
        go none e = rw e refl
        go (some t) e =
            rw e (ap some (sym (at_get_d done (place (same t) done) start t (place_at same is_same (found-next i code t p m e)))))

    inside : (i code j : ℕ) → Domain i → Memᴰ code codes → next_in links i code ≡ some j → Domain j
    inside i code j p m e = go (nx (name i) code) refl
      where
        go : (o : Option Situation) → nx (name i) code ≡ o → Domain j
        go none z = absurd (none-ne-some j (ap (Option.map (λ t. place (same t) done)) (sym z) ∙ sym (h.links-hold i code p m) ∙ e))
        go (some t) z =
            let q : place (same t) done ≡ j = some-injective _ j
            (ap (Option.map (λ t. place (same t) done)) (sym z) ∙ sym (h.links-hold i code p m) ∙ e) in
            subst (λ (n : ℕ). n < count) q (mem-at done (place (same t) done) t (place_at same is_same (found-next i code t p m z)))

    renumbering : Renumbering same eqb codes nx (next_in links) name Domain
    renumbering = record { agree = agree; step = step; inside = inside }

    -- a key holds its situation
    key-names : (i : ℕ) → Domain i → situation_in (get_or keys i 0) ≡ name i
    key-names i p =
        let there : get_or keys i 0 ≡ key_of (name i) =
        sym (get_or-take count keys i 0 p) ∙ ap (λ (l : List ℕ). get_or l i 0) h.keys-hold ∙ get_d_map_in key_of done i 0 start p in
        ap situation_in there ∙ key_back (name i) (h.fits (name i) (get_d_mem done i start p))

    all-within : AllIn Domain (upto 0 count)
    all-within a m = omega (arith, upto-mem count 0 a m)

    -- ---- the start

    start-named : name 0 ≡ start
    unfolding search_from search
    start-named = go limit
      where
        go : (f : ℕ) → get_or (search same codes nx f [] (start ∷ [])).done 0 start ≡ start
        go zero = refl
        go (suc f) =
            let w = search-front same codes nx f (start ∷ []) (add_all same nx (start ∷ []) [] start codes) in
            ap (λ (l : List Situation). get_or l 0 start) w.1

    pub start-there : Domain 0
    start-there = go done (search-all same is_same codes nx start limit h.whole start (at_start refl))
      where
        go : (l : List Situation) → Memᴰ start l → 0 < length l
        go [] m = absurd (Memᴰ.not-nil m)
        go (s ∷ l) m = omega arith

    -- ---- rounds and rows over numbers

    module _ (tested : List ℕ → Situation → Bool) where
      abbrev left : Sifted ℕ
      left = sifted_in tested keys links count

      kept-within : AllIn Domain left.kept
      unfolding sifted_in test_in
      kept-within = sifted-within renumbering (test_in tested keys) (upto 0 count) all-within

      sifted-table : sifted_of tested k σ τ done ≡ sifted_named name left
      unfolding sifted_of sifted_in test_in
      sifted-table =
          ap (sifted same codes nx tested) (sym (places-all done [] start))
          ∙ sifted-renumber renumbering (test_in tested keys) tested (λ A i p. ap (tested A) (sym (key-names i p))) (upto 0 count)
          all-within

      rows-table : rows_for k σ τ (sifted_of tested k σ τ done).kept ≡ plan_rows eqb codes (next_in links) left.kept 0
      unfolding rows_for
      rows-table =
          ap (λ (r : Sifted Situation). plan_rows same codes nx r.kept start) sifted-table
          ∙ ap (λ (s : Situation). plan_rows same codes nx (map name left.kept) s) (sym start-named)
          ∙ plan-rows-renumber renumbering left.kept 0 kept-within start-there

      -- the start is kept exactly if its number is
      start-table : member same start (sifted_of tested k σ τ done).kept ≡ member eqb 0 left.kept
      start-table =
          ap (λ (r : Sifted Situation). member same start r.kept) sifted-table
          ∙ ap (λ (s : Situation). member same s (map name left.kept)) (sym start-named)
          ∙ member-renumber renumbering 0 left.kept start-there kept-within

      -- what follows the search is the same over numbers
      pub related-table : (room : ℕ) → related_in tested k σ.n keys links count room ≡ related tested k σ τ room done
      unfolding related_in related
      related-table room =
          let rounds : left.rounds ≡ (sifted_of tested k σ τ done).rounds = ap (λ (r : Sifted Situation). r.rounds) (sym sifted-table) in
          let rows = sym rows-table in
          let stays = sym start-table in
          λ i. cond (stays i) (emitted σ.n k room count (rounds i) (rows i)) (counted 12 count 0 (rounds i) [])
