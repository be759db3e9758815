-- What converting a text promises, in the terms of the grammar and of Padovani 2010: the page that an auditor reads. Request 7/13.
-- Assumes nothing.
use Rattle.std.specs.Prelude.{◌≡◌, ◌↔◌, ◌⊎◌, ℕ, ◌+◌, ◌<◌, ◌≤◌, ◌^◌, length, take, drop, T, eqb}
use mathlib.Core.List.{List, [], ◌∷◌, ◌++◌, Memᴰ}
use Rattle.std.proofs.Math.Option.{some}
use Rattle.model.specs.Bytes.{byte}
use Rattle.model.specs.Contract.{has}
use Rattle.model.specs.Sheet.{good, read_sheet, contract_in}
use Rattle.nodes.specs.Nodes.{nodes_found, contract_with, TooMany, FewReached, TooWide}
use Rattle.nodes.specs.Words.{node_after}
use Rattle.nodes.specs.Transitions.{ReadyBy, SameBehind}
use Rattle.nodes.specs.Answer.{Written}
use Rattle.text.specs.Grammar.{Tree, Text, depth_of}
use Rattle.text.specs.Terms.{Term, term_of, Wrong}
use Rattle.text.specs.Transitions.{Hides, Does}
use Rattle.text.specs.Places.{Sense, Step, sense_at, places_of, first_place, ready_sets, next_places}
use Rattle.text.specs.Convert.{dropped, text_into, text_fault_of}
use Rattle.text.specs.Uses.{FirstFault}

-- ---- the grammar

-- "A text passes 22 exactly if the grammar ... derives it within that depth": bytes of which a tree is derived, blanks dropped
pub record IsText (s : List ℕ) (t : Tree) : Type 0 where
  pub short : length s ≤ 256
  pub derived : Text t (dropped s)
  pub shallow : depth_of t ≤ 16

-- "its tree is the only one"
abbrev pub OnlyOne : Type 0
OnlyOne = (x : List ℕ) (t u : Tree) → Text t x → Text u x → t ≡ u

-- ---- states

-- a place directly behind a sequence of actions, step by step from a place
pub data Reaches (senses : List Sense) : List ℕ → ℕ → ℕ → Type 0 where
  here : {p q : ℕ} → p ≡ q → Reaches senses [] p q
  onwards : {word : List ℕ} {p q : ℕ} (s : Step) → s.action < 14 → Memᴰ s (sense_at senses p).steps
      → Reaches senses word s.to q → Reaches senses (s.action ∷ word) p q

-- "A state is the set of places directly behind the actions so far (at first the whole text)"
abbrev pub StatesAreSets : Term → Type 0
StatesAreSets t =
    (word : List ℕ) (p : ℕ) → ((x : ℕ) × (node_after (next_places (places_of t)) (2 ^ first_place t) word ≡ some x) × T (has x p))
    ↔ Reaches (places_of t) word (first_place t) p

-- definition 2.5: the ready sets of a state are those behind the word that leads to it
abbrev pub ReadyAreSets : Term → Type 0
ReadyAreSets t =
    (word : List ℕ) (x : ℕ) → node_after (next_places (places_of t)) (2 ^ first_place t) word ≡ some x
    → (R : ℕ) → Memᴰ R (ready_sets (places_of t) x) ↔ ReadyBy Hides Does t word R

-- a text without a variable at fault: its states and their ready sets
pub record IsSound (s : List ℕ) : Type 0 where
  pub tree : Tree
  pub is_text : IsText s tree
  pub right : Wrong (term_of tree) → ⊥
  pub sets : StatesAreSets (term_of tree)
  pub ready : ReadyAreSets (term_of tree)

module _ (t : Term) where
  -- more than 64 states
  abbrev pub ManyStates : Type 0
  ManyStates = TooMany (next_places (places_of t)) (ready_sets (places_of t)) (2 ^ first_place t)

  -- not more than 64
  abbrev pub FewStates : Type 0
  FewStates = FewReached (next_places (places_of t)) (ready_sets (places_of t)) (2 ^ first_place t)

  -- a state with more than 8 ready sets
  abbrev pub WideState : Type 0
  WideState = TooWide (next_places (places_of t)) (ready_sets (places_of t)) (2 ^ first_place t)

-- An ordinary sheet of role 0 with n 7 that means the same as a text.
pub record Typed (s sheet : List ℕ) : Type 0 where
  pub sound : IsSound s
  pub is_sheet : read_sheet sheet ≡ good (record { contract = contract_in sheet; role = 0 })
  pub names : (contract_in sheet).n ≡ 7
  -- "the ready sets and continuations that document 000 gives the term": for every sequence of actions the same ready sets, and both can
  -- do it, or neither
  pub same : (word : List ℕ) → SameBehind Hides Does (term_of sound.tree) (contract_in sheet) word
  -- "numbering is as for hidden choices": state i is the i-th set of places found
  pub numbered : contract_in sheet
      ≡ contract_with eqb (next_places (places_of (term_of sound.tree))) (ready_sets (places_of (term_of sound.tree))) 7
      (nodes_found eqb (next_places (places_of (term_of sound.tree))) (2 ^ first_place (term_of sound.tree))).done
  -- neither 19 nor 20
  pub few_states : FewStates (term_of sound.tree)
  pub few_ready : WideState (term_of sound.tree) → ⊥

-- ---- answers

-- What the number of an outcome says. "1 above 256 bytes, blanks counted, with sheet 1, 22 text outside the grammar or too deep, 23 a
-- variable unbound or under no prefix within its rec, then 19, 20 and 13 as for choosing sheets".
abbrev pub NumberSays : (s out : List ℕ) → Written → Type 0
NumberSays s out o =
    ((o.number ≡ 0) × Typed s (take o.length o.output))
    ⊎ ((o.number ≡ 13) × (sheet : List ℕ) × Typed s sheet × (length out < length sheet))
    ⊎ ((o.number ≡ 1) × (256 < length s))
    ⊎ ((o.number ≡ 22) × (length s ≤ 256) × ((t : Tree) → IsText s t → ⊥))
    ⊎ ((o.number ≡ 23) × (t : Tree) × IsText s t × Wrong (term_of t))
    ⊎ ((o.number ≡ 19) × (sound : IsSound s) × ManyStates (term_of sound.tree))
    ⊎ ((o.number ≡ 20) × (sound : IsSound s) × FewStates (term_of sound.tree) × WideState (term_of sound.tree))

-- What an outcome says of a text and of the lent output.
pub record TextSays (s out : List ℕ) (o : Written) : Type 0 where
  pub number_says : NumberSays s out o
  -- "1 above 256 bytes, blanks counted, with sheet 1"; no other carries a sheet, and none a state
  pub long_sheet : o.number ≡ 1 → o.sheet ≡ 1
  pub no_sheet : (o.number ≡ 1 → ⊥) → o.sheet ≡ 0
  pub no_state : o.state ≡ 0
  -- "each leaving the output untouched"; the bytes beyond the sheet are as they were
  pub untouched : (o.number ≡ 0 → ⊥) → (o.length ≡ 0) × (o.output ≡ out)
  pub beyond : drop o.length o.output ≡ drop o.length out

-- Every outcome of converting says what it should, for all bytes.
abbrev pub Typing : Type 0
Typing = (s out : List ℕ) → TextSays s out (text_into s out)

-- ---- where

-- Where a text that is refused as 22 stops: behind bytes x, with which some text begins that the grammar derives within the depth. If
-- a byte b follows, no such text begins with x and b, and it stands at this place; if none does, this is the length.
abbrev pub StopsAt : List ℕ → ℕ → Type 0
StopsAt s at =
    (x : List ℕ)
    × ((y : List ℕ) × (t : Tree) × Text t (x ++ y) × (depth_of t ≤ 16))
    × (((b : ℕ) × (r : List ℕ) × (dropped s ≡ x ++ (b ∷ r))
    × ((y : List ℕ) (t : Tree) → Text t (x ++ (b ∷ y)) → depth_of t ≤ 16 → ⊥)
    × (at < length s) × (byte s at ≡ b) × (dropped (take at s) ≡ x))
    ⊎ ((dropped s ≡ x) × (at ≡ length s)))

-- Where a text that is refused as 23 has its first variable at fault: its letter stands there, behind so many bytes that are no blanks.
pub record VariableAt (s : List ℕ) (at : ℕ) : Type 0 where
  pub tree : Tree
  pub is_text : IsText s tree
  pub variable : ℕ
  pub first : FirstFault tree variable (length (dropped (take at s)))
  pub within : at < length s
  pub letter : byte s at ≡ 88 + variable

-- What a byte at fault says beside a number: for 22 where no derivation can go on, for 23 the first variable at fault; else it is 0.
abbrev pub FaultOf : (s : List ℕ) (number at : ℕ) → Type 0
FaultOf s number at =
    (number ≡ 22 → StopsAt s at) × (number ≡ 23 → VariableAt s at) × ((number ≡ 22 → ⊥) → (number ≡ 23 → ⊥) → at ≡ 0)

-- Every byte at fault says what it should, for all bytes.
abbrev pub FaultSays : Type 0
FaultSays = (s out : List ℕ) → FaultOf s (text_into s out).number (text_fault_of s)
