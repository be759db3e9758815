-- For every sequence of actions the contract of a term and the term have the same ready sets, and can do the same: by induction on the word,
-- the set behind it holds exactly the places that steps reach, and at these stand the terms directly behind the word.
-- Assumes nothing.
use mathlib.Core.Path.{◌≡◌, refl, sym, subst, subst⁻¹, ◌∙◌}
use mathlib.Core.Logic.{◌↔◌}
use mathlib.Core.Option.{some, some-injective}
use mathlib.Core.List.{List, [], ◌∷◌}
use Prim.Native.Nat.{ℕ, ◌<◌, ◌^◌}
use native.Mathlib.Omega.{arith}
use lib.Dec.{T, eqb}
use Rattle.model.specs.Lists.{through}
use Rattle.model.specs.Contract.{Contract, has}
use Rattle.model.specs.Sheet.{good, read_sheet}
use Rattle.model.proofs.Rounds.{same_number}
use Rattle.model.proofs.Masks.{has-power, power-has}
use Rattle.nodes.specs.Words.{node_after}
use Rattle.nodes.specs.SheetBytes.{sheet_bytes}
use Rattle.nodes.specs.Transitions.{rests, Behind, at_once, acts, CanDo, SameBehind}
use Rattle.nodes.proofs.Words.{node-first, first-node, node-keeps}
use Rattle.nodes.proofs.Behind.{made-behind}
use Rattle.nodes.proofs.Made.{made-read-back}
use Rattle.nodes.proofs.Transitions.{along-split, along-join}
use Rattle.text.specs.Terms.{Term, Faulty}
use Rattle.text.specs.Transitions.{Hides, Does}
use Rattle.text.specs.Places.{places_of, first_place, ready_sets, next_places, contract_of_term}
use Rattle.text.specs.Promises.{Reaches, here, onwards, StatesAreSets, ReadyAreSets}
use Rattle.text.proofs.Substitution.{closed}
use Rattle.text.proofs.Stands.{ActionsBelow, StandsFor, place-means, place_inside, root_stands}
use Rattle.text.proofs.Lawful.{Proper, start-proper, next-proper, proper-inside, ready-intro, ready-elim, next-intro, next-elim, places-lawful}

module _ (root : Term) (shut : closed root) (sound : Faulty root → ⊥) (below : ActionsBelow root) where
  -- ---- sets and steps

  -- the places that steps reach from those of a set are found in the set after it
  reaches-node : {word : List ℕ} {p q : ℕ} (x : ℕ) → Proper root shut sound below x → T (has x p) → Reaches (places_of root) word p q
      → (y : ℕ) × (node_after (next_places (places_of root)) x word ≡ some y) × T (has y q)
  unfolding node_after through
  reaches-node x h t (here e) = (x, refl, subst (λ (z : ℕ). T (has x z)) e t)
  reaches-node {p = p} x h t (onwards {word = word} k small m r) =
      let n = next-intro (places_of root) x p k (proper-inside root shut sound below x p h t) t m in
      let w = reaches-node n.0 (next-proper root shut sound below x k.action n.0 h n.1) n.2 r in
      (w.0, first-node (next_places (places_of root)) k.action word x w.0 n.0 small n.1 w.1, w.2)

  -- what is found is reached by steps from some place of the set
  node-reaches : (word : List ℕ) (x y q : ℕ) → node_after (next_places (places_of root)) x word ≡ some y → T (has y q)
      → (p : ℕ) × T (has x p) × Reaches (places_of root) word p q
  unfolding node_after through
  node-reaches [] x y q e t = (q, subst⁻¹ (λ (z : ℕ). T (has z q)) (some-injective x y e) t, here refl)
  node-reaches (j ∷ word) x y q e t =
      let a = node-first (next_places (places_of root)) j word x y e in
      let w = node-reaches word a.0 y q a.3 t in
      let n = next-elim (places_of root) x j a.0 w.0 a.2 w.1 in (
        n.0,
        n.2,
        subst (λ (i : ℕ). Reaches (places_of root) (i ∷ word) n.0 q) n.4
            (onwards n.1 (subst⁻¹ (λ (i : ℕ). i < 14) n.4 a.1) n.3
            (subst⁻¹ (λ (z : ℕ). Reaches (places_of root) word z q) n.5 w.2)),
      )

  node-proper : (word : List ℕ) (x y : ℕ) → Proper root shut sound below x → node_after (next_places (places_of root)) x word ≡ some y
      → Proper root shut sound below y
  node-proper =
      node-keeps (next_places (places_of root)) (Proper root shut sound below) (λ x y j small h e. next-proper root shut sound below x j y h e)

  -- "the set of places directly behind the actions so far (at first the whole text)"
  pub states-are-sets : StatesAreSets root
  states-are-sets word q = (
    (λ w.
        let k = node-reaches word (2 ^ first_place root) w.0 q w.1 w.2 in
        subst (λ (p : ℕ). Reaches (places_of root) word p q) (power-has (first_place root) k.0 k.1) k.2),
    reaches-node (2 ^ first_place root) (start-proper root shut sound below) (has-power (first_place root)),
  )

  -- ---- steps and terms

  -- at a place that steps reach stands a term directly behind the word
  reaches-behind : {word : List ℕ} {p q : ℕ} (s : Term) → StandsFor root p s → Reaches (places_of root) word p q
      → (u : Term) × Behind Hides Does word s u × StandsFor root q u
  reaches-behind s w (here e) = (s, at_once refl, subst (λ (z : ℕ). StandsFor root z s) e w)
  reaches-behind {p = p} s w (onwards k small m r) =
      let a = (place-means root sound below shut p s w).step_is k m in
      let i = reaches-behind a.0 a.2 r in
      (i.0, acts k.action small a.1.1 a.1.2 i.1, i.2)

  -- and a term directly behind the word stands at a place that steps reach
  behind-reaches : {word : List ℕ} {s u : Term} (p : ℕ) → StandsFor root p s → Behind Hides Does word s u
      → (q : ℕ) × Reaches (places_of root) word p q × StandsFor root q u
  behind-reaches p w (at_once e) = (p, here refl, subst (StandsFor root p) e w)
  behind-reaches {s = s} p w (acts {word = word} {s = r} {t = t} j small h d g) =
      let k = (place-means root sound below shut p s w).is-step j t (r, h, d) in
      let i = behind-reaches k.0.to k.3 g in (
        i.0,
        subst (λ (a : ℕ). Reaches (places_of root) (a ∷ word) p i.0) k.2
            (onwards k.0 (subst⁻¹ (λ (a : ℕ). a < 14) k.2 small) k.1 i.1),
        i.2,
      )

  -- definition 2.5
  pub ready-are-sets : ReadyAreSets root
  ready-are-sets word x at R = (
    (λ m.
        let k = ready-elim (places_of root) x R m in
        let b = reaches-behind root (root_stands root sound below) ((states-are-sets word k.0).0 (x, at, k.1)) in
        let r = (place-means root sound below shut k.0 b.0 b.2).ready-is R k.2 in
        (r.0, along-join Hides Does b.1 r.1, r.2, r.3)),
    (λ w.
        let g = along-split Hides Does w.1 in
        let b = behind-reaches (first_place root) (root_stands root sound below) g.1 in
        let k = (states-are-sets word b.0).1 b.1 in
        let there : T (has x b.0) = subst (λ (z : ℕ). T (has z b.0)) (some-injective k.0 x (sym k.1 ∙ at)) k.2 in
        ready-intro (places_of root) x b.0 R (place_inside root sound below b.0 g.0 b.2) there
        ((place-means root sound below shut b.0 g.0 b.2).is-ready R (w.0, g.2, w.2, w.3))),
  )

  -- there is a set behind a word exactly if the term can do it
  can-are-sets : (word : List ℕ)
      → ((x : ℕ) × (node_after (next_places (places_of root)) (2 ^ first_place root) word ≡ some x)) ↔ CanDo Hides Does root word
  can-are-sets word = (
    (λ w.
        let k = (node-proper word (2 ^ first_place root) w.0 (start-proper root shut sound below) w.1).some-place in
        let b = reaches-behind root (root_stands root sound below) ((states-are-sets word k.0).0 (w.0, w.1, k.1)) in
        (b.0, along-join Hides Does b.1 (rests refl))),
    (λ w.
        let g = along-split Hides Does w.1 in
        let b = behind-reaches (first_place root) (root_stands root sound below) g.1 in
        let k = (states-are-sets word b.0).1 b.1 in
        (k.0, k.1)),
  )

  module _ (made : Contract) (is_made : contract_of_term root ≡ good made) where
    -- "for every sequence of actions" the ready sets "that document 000 gives the term"
    pub same-behind : (word : List ℕ) → SameBehind Hides Does root made word
    unfolding contract_of_term
    same-behind =
        made-behind eqb same_number (next_places (places_of root)) (ready_sets (places_of root)) (2 ^ first_place root) 7
        (places-lawful root shut sound below) made is_made Hides Does root ready-are-sets can-are-sets

    -- the sheet of the contract reads back as it
    pub made-sheet : read_sheet (sheet_bytes 7 0 made.states) ≡ good (record { contract = made; role = 0 })
    unfolding contract_of_term
    made-sheet =
        made-read-back eqb same_number (next_places (places_of root)) (ready_sets (places_of root)) (2 ^ first_place root) 7
        (places-lawful root shut sound below) (omega arith) made is_made
