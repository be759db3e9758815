-- What follows the search, over the numbers of situations in the lists that the fields of the records make; and what the steps ask.
-- Assumes nothing.
use Rattle.std.specs.Prelude.{Bool, cond, List, [], ℕ, eqb}
use Rattle.model.specs.Sheet.{contract_in}
use Rattle.model.specs.Situation.{Situation, codes}
use Rattle.model.specs.Search.{member}
use Rattle.model.specs.Plan.{plan_rows}
use Rattle.model.specs.Connect.{Outcome, counted, emitted}
use Rattle.moves.specs.declared.Mode.{Mode}
use Rattle.moves.specs.Modes.{test_of}
use Rattle.keys.specs.Links.{next_in}
use Rattle.table.specs.declared.Record.{Record}
use Rattle.table.specs.Lists.{keys_of, links_of}
use Rattle.lists.specs.Sifted.{sifted_in}
use Rattle.numbering.specs.Table.{kept_rows_at}
use Rattle.connect.specs.declared.Wanted.{Wanted}
use Rattle.connect.specs.Answers.{connected_from}

-- 12, "the start is removed", or 13 or acceptance: `related` of the model, with a test, for the situations that the lists hold
unfoldable pub related_in : (List ℕ → Situation → Bool) → (k n : ℕ) → (keys links : List ℕ) → (count room : ℕ) → Outcome
related_in tested k n keys links count room =
    let left = sifted_in tested keys links count in
    cond (member eqb 0 left.kept) (emitted n k room count left.rounds (plan_rows eqb codes (next_in links) left.kept 0))
    (counted 12 count 0 left.rounds [])

-- the same for the records of a table that was searched
abbrev pub related_from : Mode → (k : ℕ) (old new : List ℕ) (count : ℕ) → List Record → (room : ℕ) → Outcome
related_from mode k old new count ys room = related_in (test_of mode old new) k (contract_in old).n (keys_of ys) (links_of ys) count room

-- 13 or acceptance, for the records of a table that is sifted
abbrev pub emitted_from : (k : ℕ) (old : List ℕ) (count rounds : ℕ) → List Record → (room : ℕ) → Outcome
emitted_from k old count rounds ys room = emitted (contract_in old).n k room count rounds (kept_rows_at count ys)

-- ---- for what is to be connected

abbrev pub connected_by : Wanted → (records room : ℕ) → Outcome
connected_by w records room = connected_from w.mode w.k w.old.now w.new.now records room

abbrev pub related_by : Wanted → (count : ℕ) → List Record → (room : ℕ) → Outcome
related_by w count ys room = related_from w.mode w.k w.old.now w.new.now count ys room

abbrev pub emitted_by : Wanted → (count rounds : ℕ) → List Record → (room : ℕ) → Outcome
emitted_by w count rounds ys room = emitted_from w.k w.old.now count rounds ys room
