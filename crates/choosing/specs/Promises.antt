-- What converting promises, in the terms of Padovani 2010: the page that an auditor reads. Request 1/13.
-- Assumes nothing.
use Rattle.std.specs.Prelude.{◌≡◌, ◌↔◌, ◌⊎◌, ℕ, ◌<◌, length, take, drop, T, eqb}
use mathlib.Core.List.{List, Memᴰ}
use Rattle.std.proofs.Math.Option.{some}
use Rattle.model.specs.Bytes.{byte}
use Rattle.model.specs.Contract.{has}
use Rattle.model.specs.Sheet.{good, read_sheet, contract_in}
use Rattle.nodes.specs.Nodes.{nodes_found, contract_with, TooMany, FewReached, TooWide}
use Rattle.nodes.specs.Words.{node_after}
use Rattle.nodes.specs.Answer.{Written}
use Rattle.choosing.specs.Rows.{Choosing, Formed}
use Rattle.nodes.specs.Transitions.{Behind, ReadyBy, SameBehind}
use Rattle.choosing.specs.Transitions.{Hides, Does, Circle}
use Rattle.choosing.specs.Bytes.{choosing_bytes}
use Rattle.choosing.specs.Convert.{ready_sets, next_rows, convert_into}

-- "states are the sets of rows directly behind the actions so far (at first row 0)", not closed under internal moves
abbrev pub StatesAreSets : Choosing → Type 0
StatesAreSets c = (word : List ℕ) (r : ℕ) → ((x : ℕ) × (node_after (next_rows c) 1 word ≡ some x) × T (has x r)) ↔ Behind (Hides c) (Does c) word 0 r

-- definition 2.5: the ready sets of a state are those behind the word that leads to it
abbrev pub ReadyAreSets : Choosing → Type 0
ReadyAreSets c = (word : List ℕ) (x : ℕ) → node_after (next_rows c) 1 word ≡ some x → (R : ℕ) → Memᴰ R (ready_sets c x) ↔ ReadyBy (Hides c) (Does c) 0 word R

-- bytes are a choosing sheet of the form that the request describes
pub record IsChoosing (b : List ℕ) (c : Choosing) : Type 0 where
  pub formed : Formed c
  pub bytes : b ≡ choosing_bytes c

-- a choosing sheet without a circle of internal moves: its states and their ready sets
pub record IsCalm (b : List ℕ) : Type 0 where
  pub from : Choosing
  pub is_choosing : IsChoosing b from
  pub no_circle : Circle from → ⊥
  pub sets : StatesAreSets from
  pub ready : ReadyAreSets from

-- An ordinary sheet of role 0 that means the same as a choosing sheet.
pub record Converted (b sheet : List ℕ) : Type 0 where
  pub calm : IsCalm b
  pub is_sheet : read_sheet sheet ≡ good (record { contract = contract_in sheet; role = 0 })
  pub names : (contract_in sheet).n ≡ calm.from.n
  -- "Show that for every sequence of actions both have the same ready sets."
  pub same : (word : List ℕ) → SameBehind (Hides calm.from) (Does calm.from) 0 (contract_in sheet) word
  -- "numbered breadth first by ascending action": state i is the i-th set of rows found
  pub numbered : contract_in sheet
      ≡ contract_with eqb (next_rows calm.from) (ready_sets calm.from) calm.from.n (nodes_found eqb (next_rows calm.from) 1).done
  -- neither 19 nor 20
  pub few_states : FewReached (next_rows calm.from) (ready_sets calm.from) 1
  pub few_ready : TooWide (next_rows calm.from) (ready_sets calm.from) 1 → ⊥

-- What the number of an outcome says. "17 a choosing sheet of any other form, 18 a circle of internal moves, reached or not, 19 more than
-- 64 states, 20 more than 8 ready sets in a state, in that order, then 13 for the lent output".
abbrev pub NumberSays : (b out : List ℕ) → Written → Type 0
NumberSays b out o =
    ((o.number ≡ 0) × Converted b (take o.length o.output))
    ⊎ ((o.number ≡ 13) × (sheet : List ℕ) × Converted b sheet × (length out < length sheet))
    ⊎ ((o.number ≡ 17) × ((c : Choosing) → IsChoosing b c → ⊥))
    ⊎ ((o.number ≡ 18) × (c : Choosing) × IsChoosing b c × Circle c)
    ⊎ ((o.number ≡ 19) × (calm : IsCalm b) × TooMany (next_rows calm.from) (ready_sets calm.from) 1)
    ⊎ ((o.number ≡ 20)
    × (calm : IsCalm b)
    × FewReached (next_rows calm.from) (ready_sets calm.from) 1
    × TooWide (next_rows calm.from) (ready_sets calm.from) 1)

-- What an outcome says of a choosing sheet's bytes and of the lent output.
pub record ConvertingSays (b out : List ℕ) (o : Written) : Type 0 where
  pub number_says : NumberSays b out o
  -- none of these refusals carries a sheet or a state
  pub no_sheet : o.sheet ≡ 0
  pub no_state : o.state ≡ 0
  -- "The answer's length and the bytes beyond it are as for plans."; "which none touches"
  pub untouched : (o.number ≡ 0 → ⊥) → (o.length ≡ 0) × (o.output ≡ out)
  pub beyond : drop o.length o.output ≡ drop o.length out

-- Every outcome of converting says what it should, for all bytes.
abbrev pub Converting : Type 0
Converting = (b out : List ℕ) → ((i : ℕ) → byte b i < 256) → ConvertingSays b out (convert_into b out)
