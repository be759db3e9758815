-- For every sequence of actions the contract that is converted to and the rows have the same ready sets, and can do the same: by induction
-- on the word, the set behind it holds exactly the rows directly behind it.
-- Assumes nothing.
use mathlib.Core.Path.{◌≡◌, refl, sym, subst, subst⁻¹, ◌∙◌}
use mathlib.Core.Logic.{◌↔◌}
use mathlib.Core.Option.{some, some-injective}
use mathlib.Core.List.{List, [], ◌∷◌}
use Prim.Native.Nat.{ℕ}
use lib.Dec.{T, eqb}
use Rattle.model.specs.Lists.{through}
use Rattle.model.specs.Contract.{Contract, has}
use Rattle.model.specs.Sheet.{good, read_sheet}
use Rattle.model.proofs.Rounds.{same_number}
use Rattle.model.proofs.Masks.{has-power, power-has}
use Rattle.nodes.specs.Nodes.{contract_of}
use Rattle.nodes.specs.Words.{node_after}
use Rattle.nodes.specs.SheetBytes.{sheet_bytes}
use Rattle.nodes.proofs.Words.{node-first, first-node, node-keeps}
use Rattle.nodes.proofs.Behind.{made-behind}
use Rattle.nodes.proofs.Made.{made-read-back}
use Rattle.nodes.proofs.Transitions.{along-split, along-join}
use Rattle.choosing.specs.Rows.{Choosing, Formed}
use Rattle.nodes.specs.Transitions.{rests, Behind, at_once, acts, CanDo, SameBehind}
use Rattle.choosing.specs.Transitions.{Hides, Does, Circle}
use Rattle.choosing.specs.Convert.{ready_sets, next_rows}
use Rattle.choosing.specs.Promises.{StatesAreSets, ReadyAreSets}
use Rattle.choosing.proofs.Rows.{silently-within, mask-initial, initial-mask}
use Rattle.choosing.proofs.Lawful.{Proper, start-proper, next-proper, closed-intro, closed-elim, ready-intro, ready-elim, next-elim, next-intro, sets-lawful}

module _ (c : Choosing) where
  module _ (formed : Formed c) where
    -- the rows directly behind those of a set are found in the set after it
    behind-node : {word : List ℕ} {r s : ℕ} (x : ℕ) → Proper c formed x → T (has x r) → Behind (Hides c) (Does c) word r s
        → (y : ℕ) × (node_after (next_rows c) x word ≡ some y) × T (has y s)
    unfolding node_after through
    behind-node x p m (at_once e) = (x, refl, subst (λ (z : ℕ). T (has x z)) e m)
    behind-node {r = r} x p m (acts {word = word} {s = s} {t = v} j h w d g) =
        let n = next-intro c x j s v (silently-within c formed (p.inside r m) w) (closed-intro c x r s m w) d in
        let k = behind-node n.0 (next-proper c formed x j n.0 h n.1) n.2 g in
        (k.0, first-node (next_rows c) j word x k.0 n.0 h n.1 k.1, k.2)

    -- what is found is directly behind some row of the set, and a proper set
    node-behind : (word : List ℕ) (x y s : ℕ) → node_after (next_rows c) x word ≡ some y → T (has y s)
        → (r : ℕ) × T (has x r) × Behind (Hides c) (Does c) word r s
    unfolding node_after through
    node-behind [] x y s e m = (s, subst⁻¹ (λ (z : ℕ). T (has z s)) (some-injective x y e) m, at_once refl)
    node-behind (j ∷ word) x y s e m =
        let a = node-first (next_rows c) j word x y e in
        let k = node-behind word a.0 y s a.3 m in
        let n = next-elim c x j a.0 k.0 a.2 k.1 in
        let l = closed-elim c x n.0 n.1 in
        (l.0, l.1, acts {r = l.0} {s = n.0} {t = k.0} j a.1 l.2 n.2 k.2)

    node-proper : (word : List ℕ) (x y : ℕ) → Proper c formed x → node_after (next_rows c) x word ≡ some y → Proper c formed y
    node-proper = node-keeps (next_rows c) (Proper c formed) (λ x y j h p e. next-proper c formed x j y h e)

    -- "the sets of rows directly behind the actions so far (at first row 0)"
    pub states-are-sets : StatesAreSets c
    states-are-sets word s = (
      (λ w.
          let k = node-behind word 1 w.0 s w.1 w.2 in
          subst (λ (r : ℕ). Behind (Hides c) (Does c) word r s) (power-has 0 k.0 k.1) k.2),
      behind-node 1 (start-proper c formed) (has-power 0),
    )

    -- "the ready sets of definition 2.5"
    pub ready-are-sets : ReadyAreSets c
    ready-are-sets word x at R = (
      (λ m.
          let k = ready-elim c x R m in
          let l = closed-elim c x k.0 k.1 in
          let i = mask-initial c formed k.0 R k.2 in
          (k.0, along-join (Hides c) (Does c) ((states-are-sets word l.0).0 (x, at, l.1)) l.2, i.0, i.1)),
      (λ w.
          let g = along-split (Hides c) (Does c) w.1 in
          let k = (states-are-sets word g.0).1 g.1 in
          let here : T (has x g.0) = subst (λ (z : ℕ). T (has z g.0)) (some-injective k.0 x (sym k.1 ∙ at)) k.2 in
          let p = node-proper word 1 x (start-proper c formed) at in
          ready-intro c x w.0 R (silently-within c formed (p.inside g.0 here) g.2) (closed-intro c x g.0 w.0 here g.2)
          (initial-mask c formed w.0 R w.2 w.3)),
    )

    -- there is a set behind a word exactly if the rows can do it
    can-are-sets : (word : List ℕ) → ((x : ℕ) × (node_after (next_rows c) 1 word ≡ some x)) ↔ CanDo (Hides c) (Does c) 0 word
    can-are-sets word = (
      (λ w.
          let k = (node-proper word 1 w.0 (start-proper c formed) w.1).some_row in
          (k.0, along-join (Hides c) (Does c) ((states-are-sets word k.0).0 (w.0, w.1, k.1)) (rests refl))),
      (λ w. let k = along-split (Hides c) (Does c) w.1 in let v = (states-are-sets word k.0).1 k.1 in (v.0, v.1)),
    )

    module _ (calm : Circle c → ⊥) (made : Contract) (is_made : contract_of eqb (next_rows c) (ready_sets c) c.n 1 ≡ good made) where
      -- "for every sequence of actions both have the same ready sets"
      pub same-behind : (word : List ℕ) → SameBehind (Hides c) (Does c) 0 made word
      same-behind =
          made-behind eqb same_number (next_rows c) (ready_sets c) 1 c.n (sets-lawful c formed calm) made is_made (Hides c) (Does c) 0
          ready-are-sets can-are-sets

      -- the sheet of the contract reads back as it
      pub made-sheet : read_sheet (sheet_bytes c.n 0 made.states) ≡ good (record { contract = made; role = 0 })
      made-sheet =
          made-read-back eqb same_number (next_rows c) (ready_sets c) 1 c.n (sets-lawful c formed calm) formed.few_names made is_made
