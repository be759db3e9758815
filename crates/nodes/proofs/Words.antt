-- After every list of actions the contract and the nodes have the same ready sets, and can do the same: state and node stand at the same
-- place at the start, and each action leads both on to the same place, or neither.
-- Assumes nothing.
use mathlib.Core.Path.{◌≡◌, refl, sym, ap, subst, subst⁻¹, ◌∙◌}
use mathlib.Core.Bool.{Bool, true, false, cond}
use mathlib.Core.Option.{Option, none, some, bind, bind-eq-some_iff, map, none-ne-some, some-injective}
use mathlib.Core.List.{List, [], ◌∷◌, Memᴰ}
use Prim.Native.Nat.{ℕ, ◌<◌}
use lib.ListN.{get_elem?}
use lib.Dec.{T, ltb, ltb→lt}
use borrow.Author.Tests.{ltb-true, lt-ltb}
use Rattle.model.specs.Lists.{through}
use Rattle.model.specs.Contract.{Contract, State, state, offers, offers_in, after}
use Rattle.model.specs.Sheet.{good}
use Rattle.model.proofs.Lists.{cond-some}
use Rattle.model.proofs.Rounds.{IsSame}
use Rattle.model.proofs.PlanRows.{at_mem}
use Rattle.nodes.specs.Nodes.{Lawful, nodes_found, state_of, contract_with, contract_of}
use Rattle.nodes.specs.Words.{by_action, node_after, goes_on, state_after, ready_after, nodes_ready}
use Rattle.nodes.proofs.Nodes.{contract-nodes, start_first, node-reached, state-is, after-node}

module _ {N : Type 0} (next : N → ℕ → Option N) where
  -- a word that was done: its first action, which is one of the fourteen, and the others from where it led
  pub node-first : (j : ℕ) (word : List ℕ) (x y : N) → node_after next x (j ∷ word) ≡ some y
      → (z : N) × (j < 14) × (next x j ≡ some z) × (node_after next z word ≡ some y)
  unfolding node_after through by_action
  node-first j word x y e =
      let a = (bind-eq-some_iff (by_action next x j) (λ z. through (by_action next) z word)).0 e in
      let b = cond-some (ltb j 14) (next x j) a.0 a.1 in
      (a.0, ltb→lt j 14 b.0, b.1, a.2)

  -- and such a word can be done
  pub first-node : (j : ℕ) (word : List ℕ) (x y z : N) → j < 14 → next x j ≡ some z → node_after next z word ≡ some y
      → node_after next x (j ∷ word) ≡ some y
  unfolding node_after through by_action bind
  first-node j word x y z h e r = rw (lt-ltb j 14 h, e) r

  -- what every action keeps, every word keeps
  pub node-keeps : (P : N → Type 0) → ((x y : N) (j : ℕ) → j < 14 → P x → next x j ≡ some y → P y) → (word : List ℕ) (x y : N) → P x
      → node_after next x word ≡ some y → P y
  unfolding node_after through
  node-keeps P keeps [] x y p e = subst P (some-injective x y e) p
  node-keeps P keeps (j ∷ word) x y p e =
      let a = node-first j word x y e in
      node-keeps P keeps word a.0 y (keeps x a.0 j a.1 p a.2) a.3

module _ {N : Type 0} (same : N → N → Bool) (isSame : IsSame same) (next : N → ℕ → Option N) (ready : N → List ℕ) (start : N) (n : ℕ)
    (lawful : Lawful n next ready start) (ended : (nodes_found same next start).todo ≡ []) where
  -- the nodes found
  abbrev nodes : List N
  nodes = (nodes_found same next start).done

  -- their contract
  abbrev whole : Contract
  whole = contract_with same next ready n nodes

  -- state i stands where node x stands
  abbrev Tied : ℕ → N → Type 0
  Tied i x = get_elem? nodes i ≡ some x

  -- both go on, or neither
  data Alike : Option ℕ → Option N → Type 0 where
    neither : Alike none none
    both : {i : ℕ} {x : N} → Tied i x → Alike (some i) (some x)

  -- the state of a node
  abbrev st : N → State
  st x = state_of same next ready nodes x

  -- an action that a node offers, and its state, or not
  alike-offer : (x : N) (j : ℕ) (t : Bool) (o : Option N) → j < 14 → Memᴰ x nodes → offers_in (ready x) j ≡ t → next x j ≡ o
      → Alike (cond t (some (after (st x) j)) none) o
  alike-offer x j true (some y) h m p q = both (after-node same isSame next ready start n lawful ended x y j m h q)
  alike-offer x j true none h m p q =
      let w = lawful.leads x (node-reached same isSame next ready start x m) j h (subst⁻¹ T p tt) in
      absurd (none-ne-some w.0 (sym q ∙ w.1))
  alike-offer x j false (some y) h m p q = absurd (subst T p (lawful.offered x y (node-reached same isSame next ready start x m) j h q))
  alike-offer x j false none h m p q = neither

  -- one action, if it is one
  alike-step : (i : ℕ) (x : N) (j : ℕ) → Tied i x → Alike (by_action (goes_on whole) i j) (by_action next x j)
  unfolding by_action goes_on offers state_of
  alike-step i x j e =
      subst⁻¹ (λ (s : State).
      Alike (cond (ltb j 14) (cond (offers_in s.ready j) (some (after s j)) none) none) (cond (ltb j 14) (next x j) none))
      (state-is same isSame next ready start n lawful i x e) (go (ltb j 14) (ltb-true j 14))
    where
      go : (t : Bool) → (t ≡ true → j < 14)
          → Alike (cond t (cond (offers_in (ready x) j) (some (after (st x) j)) none) none) (cond t (next x j) none)
      go true h = alike-offer x j (offers_in (ready x) j) (next x j) (h refl) (at_mem nodes i x e) refl refl
      go false h = neither

  -- one action more
  alike-bind : (word : List ℕ) → ((i : ℕ) (x : N) → Tied i x → Alike (node_after (goes_on whole) i word) (node_after next x word))
      → (o : Option ℕ) (p : Option N) → Alike o p
      → Alike (bind o (λ i. node_after (goes_on whole) i word)) (bind p (λ x. node_after next x word))
  unfolding bind
  alike-bind word f none (some x) x3 = elim x3 [ ]
  alike-bind word f (some i) none x3 = elim x3 [ ]
  alike-bind word f none none neither = neither
  alike-bind word f (some i) (some x) (both e) = f i x e

  -- all actions of a list
  alike-word : (word : List ℕ) (i : ℕ) (x : N) → Tied i x → Alike (node_after (goes_on whole) i word) (node_after next x word)
  unfolding node_after through
  alike-word [] i x e = both e
  alike-word (j ∷ word) i x e = alike-bind word (alike-word word) (by_action (goes_on whole) i j) (by_action next x j) (alike-step i x j e)

  -- state and node at one place have the same ready sets
  same_ready : (o : Option ℕ) (p : Option N) → Alike o p → map (λ (q : ℕ). (state whole q).ready) o ≡ map ready p
  unfolding state_of
  same_ready none (some x) x3 = elim x3 [ ]
  same_ready (some i) none x3 = elim x3 [ ]
  same_ready none none neither = refl
  same_ready (some i) (some x) (both e) = ap (λ (s : State). some s.ready) (state-is same isSame next ready start n lawful i x e)

  -- from the start
  with-ready : (word : List ℕ) → ready_after whole word ≡ nodes_ready next ready start word
  unfolding ready_after nodes_ready state_after
  with-ready word =
      let w = start_first same isSame next ready start in
      same_ready (node_after (goes_on whole) 0 word) (node_after next start word)
      (alike-word word 0 start (subst⁻¹ (λ (l : List N). get_elem? l 0 ≡ some start) w.1 refl))

-- for every list of actions: both can do it or neither, and the ready sets after it are the same
pub made-ready : {N : Type 0} (same : N → N → Bool) (isSame : IsSame same) (next : N → ℕ → Option N) (ready : N → List ℕ)
    (start : N) (n : ℕ) → Lawful n next ready start → (c : Contract) → contract_of same next ready n start ≡ good c
    → (word : List ℕ) → ready_after c word ≡ nodes_ready next ready start word
made-ready same isSame next ready start n lawful c e word =
    let w = contract-nodes same isSame next ready start n c e in
    subst⁻¹ (λ (c : Contract). ready_after c word ≡ nodes_ready next ready start word) w.0
    (with-ready same isSame next ready start n lawful w.1 word)
