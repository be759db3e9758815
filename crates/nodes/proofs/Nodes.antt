-- The contract of nodes: state i is node i, its continuation by an action is the number of the node that the action leads to, as the nodes
-- found are closed under actions; so the contract is well formed.
-- Assumes nothing.
use mathlib.Core.Path.{◌≡◌, refl, sym, ap, subst, subst⁻¹, ◌∙◌}
use mathlib.Core.Bool.{Bool}
use mathlib.Core.Option.{Option, some}
use mathlib.Core.List.{List, [], ◌∷◌, ◌++◌, append-nil, Memᴰ}
use Prim.Native.Nat.{ℕ, zero, suc, ◌≤◌, ◌<◌}
use native.Mathlib.Omega.{arith}
use lib.ListN.{length, get_elem?, length-map}
use lib.Dec.{T, leb→le}
use Rattle.model.specs.Lists.{place}
use Rattle.model.specs.Contract.{Contract, State, actions, nowhere, state, offers, offers_in, offered_below, after}
use Rattle.model.specs.Search.{Reached, search, search_from, add_all}
use Rattle.model.specs.Sheet.{good}
use Rattle.model.proofs.Lists.{all-elim}
use Rattle.model.proofs.Rounds.{IsSame}
use Rattle.model.proofs.Actions.{action, kept_result}
use Rattle.model.proofs.Search.{search-inv, search-few, search-front}
use Rattle.model.proofs.PlanRows.{get_d_map_at, at_mem, mem-at, place_at}
use Rattle.model.proofs.Sheet.{WellFormed, check-good, good-injective, offers-within}
use Rattle.nodes.specs.Nodes.{Lawful, is_none, nodes_found, number_among, state_of, few, contract_with, contract_of}

-- what `is_none` says
none-left : {A : Type 0} (l : List A) → T (is_none l) → l ≡ []
unfolding is_none
none-left [] t = refl
none-left (x ∷ l) t = absurd t

-- something stands at every place of a list
stands : {A : Type 0} (l : List A) (i : ℕ) → i < length l → (x : A) × (get_elem? l i ≡ some x)
stands [] i h = absurd (omega arith)
stands (y ∷ l) zero h = (y, refl)
stands (y ∷ l) (suc i) h = stands l i (omega arith)

module _ {N : Type 0} (same : N → N → Bool) (isSame : IsSame same) (next : N → ℕ → Option N) (ready : N → List ℕ) (start : N) where
  -- the nodes found
  abbrev nodes : List N
  nodes = (nodes_found same next start).done

  -- a contract is that of the nodes found; nothing was left, and no node has more than 8 ready sets
  pub contract-nodes : (n : ℕ) (c : Contract) → contract_of same next ready n start ≡ good c
      → (c ≡ contract_with same next ready n nodes) × ((nodes_found same next start).todo ≡ [])
      × ((x : N) → Memᴰ x nodes → length (ready x) ≤ 8)
  unfolding contract_of few
  contract-nodes n c e =
      let one = check-good _ _ _ e in
      let two = check-good _ _ _ one.1 in (
        sym (good-injective two.1),
        none-left (nodes_found same next start).todo one.0,
        λ x m. leb→le (length (ready x)) 8 (all-elim (few ready) m two.0),
      )

  -- the start is node 0
  pub start_first : (rest : List N) × (nodes ≡ start ∷ rest)
  unfolding nodes_found search_from search
  start_first = search-front same actions next 63 (start ∷ []) (add_all same next (start ∷ []) [] start actions)

  -- each is reached
  pub node-reached : (x : N) → Memᴰ x nodes → Reached actions next start x
  unfolding nodes_found
  node-reached x m =
      (search-inv same isSame actions next start 64).found x (mathlib.Core.List.Memᴰ.append_left (search_from same actions next 64 start).todo m)

  -- no more than 64 are found
  pub few-nodes : length nodes ≤ 64
  unfolding nodes_found
  few-nodes = search-few same actions next 64 start

  -- actions lead from nodes found to nodes found
  pub nodes-closed : (nodes_found same next start).todo ≡ [] → (x y : N) (j : ℕ) → Memᴰ x nodes → j < 14 → next x j ≡ some y
      → Memᴰ y nodes
  unfolding nodes_found
  nodes-closed whole x y j m h e =
      let t : Memᴰ y ((search_from same actions next 64 start).done ++ (search_from same actions next 64 start).todo) =
      (search-inv same isSame actions next start 64).closed x j y m (action j h) e in
      rw (whole, append-nil) at t

  -- the continuation of a node's state is the number of the next node
  state-after : (x : N) (j : ℕ) → j < 14 → T (offers_in (ready x) j)
      → after (state_of same next ready nodes x) j ≡ number_among same nodes (next x j)
  unfolding after offered_below state_of offers actions
  state-after x j h o =
      kept_result (λ i. number_among same nodes (next x i)) (offers_in (ready x)) j o 14 0 (omega arith) (omega arith)

  module _ (n : ℕ) (lawful : Lawful n next ready start) where
    -- their contract
    abbrev whole : Contract
    whole = contract_with same next ready n nodes

    -- state i is node i's
    pub state-is : (i : ℕ) (x : N) → get_elem? nodes i ≡ some x → state whole i ≡ state_of same next ready nodes x
    unfolding state contract_with
    state-is i x e = get_d_map_at (state_of same next ready nodes) nodes i nowhere x e

    module _ (ended : (nodes_found same next start).todo ≡ []) where
      -- where the continuation of node x leads
      after_is : (x y : N) (j : ℕ) → Memᴰ x nodes → j < 14 → next x j ≡ some y
          → after (state_of same next ready nodes x) j ≡ place (same y) nodes
      unfolding number_among
      after_is x y j m h e =
          state-after x j h (lawful.offered x y (node-reached x m) j h e) ∙ ap (number_among same nodes) e

      -- that is where the next node stands
      pub after-node : (x y : N) (j : ℕ) → Memᴰ x nodes → j < 14 → next x j ≡ some y
          → get_elem? nodes (after (state_of same next ready nodes x) j) ≡ some y
      after-node x y j m h e = rw (after_is x y j m h e) (place_at same isSame (nodes-closed ended x y j m h e))

      -- the node of a state that offers something
      at-state : (q j : ℕ) → T (offers (state whole q) j)
          → (x : N) × (get_elem? nodes q ≡ some x) × Memᴰ x nodes × T (offers_in (ready x) j)
      unfolding offers contract_with state_of
      at-state q j o =
          let size = length-map nodes (state_of same next ready nodes) in
          let w = stands nodes q (subst (λ (m : ℕ). q < m) size (offers-within whole q j o)) in
          (w.0, w.1, at_mem nodes q w.0 w.1, subst (λ (s : State). T (offers_in s.ready j)) (state-is q w.0 w.1) o)

      -- the contract of the nodes found is well formed
      with-well-formed : n ≤ 7 → WellFormed whole
      unfolding contract_with state_of
      with-well-formed small =
          let size : length whole.states ≡ length nodes = length-map nodes (state_of same next ready nodes) in
          record {
            few_names = small;
            some-state = omega (arith, ap length start_first.1);
            few_states = omega (arith, few-nodes);
            named = λ q j h o. let w = at-state q j o in lawful.named w.0 (node-reached w.0 w.2) j h w.3;
            closed = λ q j h o.
                let w = at-state q j o in
                let v = lawful.leads w.0 (node-reached w.0 w.2) j h w.3 in
                let k = mem-at nodes (after (state_of same next ready nodes w.0) j) v.0 (after-node w.0 v.0 j w.2 h v.1) in
                subst⁻¹ (λ (s : State). after s j < length whole.states) (state-is q w.0 w.1) (omega (arith, k));
            some_ready = λ q h.
                let w = stands nodes q (omega arith) in
                subst⁻¹ (λ (s : State). 0 < length s.ready) (state-is q w.0 w.1)
                (lawful.some_ready w.0 (node-reached w.0 (at_mem nodes q w.0 w.1)));
          }

    -- the contract that is made is well formed
    pub made-well-formed : n ≤ 7 → (c : Contract) → contract_of same next ready n start ≡ good c → WellFormed c
    made-well-formed small c e = let w = contract-nodes n c e in subst⁻¹ WellFormed w.0 (with-well-formed w.1 small)

    -- state i has the ready sets of node i, and its continuation by an action is the number of the node that the action leads to
    pub made-states : (c : Contract) → contract_of same next ready n start ≡ good c → (i : ℕ) (x : N) → get_elem? nodes i ≡ some x
        → ((state c i).ready ≡ ready x) × ((j : ℕ) (y : N) → j < 14 → next x j ≡ some y → get_elem? nodes (after (state c i) j) ≡ some y)
    unfolding state_of
    made-states c e i x q =
        let w = contract-nodes n c e in
        let is : state c i ≡ state_of same next ready nodes x = ap (λ (c : Contract). state c i) w.0 ∙ state-is i x q in (
          ap (λ (s : State). s.ready) is,
          λ j y h z. subst⁻¹ (λ (s : State). get_elem? nodes (after s j) ≡ some y) is (after-node w.1 x y j (at_mem nodes i x q) h z),
        )
