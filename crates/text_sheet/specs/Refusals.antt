-- Why there is no sheet of a text, and what was read of one where nothing is at fault.
-- Assumes nothing.
use Rattle.std.specs.Prelude.{◌≡◌, List, ℕ, ◌+◌, ◌^◌, ◌≤◌, ◌<◌, length, take, Err}
use Rattle.model.specs.Sheet.{Refusal, plain}
use Rattle.nodes.specs.Answer as N
use Rattle.nodes.specs.Answer.{written_as}
use Rattle.nodes.specs.Filled.{found_into}
use Rattle.text.specs.Convert.{place_of_byte, text_into, text_fault_of}
use Rattle.text.specs.Places.{Sense, ready_sets, next_places}
use Rattle.text.specs.Cells.{Explained}
use Rattle.text_sheet.specs.declared.Refusal as code
use Rattle.text_sheet.specs.declared.Refusal.TheVariants.{TooLong, NoText, AtFault, NoSheet}
use Rattle.text_sheet.specs.declared.Term.{Term}

-- "1 above 256 bytes, blanks counted, with sheet 1, 22 text outside the grammar or too deep, 23 a variable unbound or under no prefix
-- within its rec, then 19, 20 and 13 as for choosing sheets"
unfoldable pub refusal_of : code.Refusal → Refusal
refusal_of TooLong = plain 1 1
refusal_of (NoText at) = plain 22 0
refusal_of (AtFault at) = plain 23 0
refusal_of (NoSheet why) = N.refusal_of why

-- the byte at fault, blanks counted, 0 if none is
unfoldable pub fault_of : List ℕ → code.Refusal → ℕ
fault_of text TooLong = 0
fault_of text (NoText at) = place_of_byte text at
fault_of text (AtFault at) = place_of_byte text at
fault_of text (NoSheet why) = 0

-- A text is refused, whatever is lent, with its byte at fault.
pub record Refuses (text : List ℕ) (e : code.Refusal) : Type 0 where
  pub says : (out : List ℕ) → written_as refusal_of (Err e) out ≡ text_into text out
  pub fault : fault_of text e ≡ text_fault_of text
  pub small : fault_of text e ≤ 256

-- A text has no byte at fault: its cells mean its places, and what is answered for it is what their states decide.
pub record TermRead (text : List ℕ) (term : Term) : Type 0 where
  pub senses : List Sense
  pub few_places : term.places ≤ 255
  pub few_recs : term.recs ≤ 64
  pub explained : Explained (take (1 + term.places) term.cells) (take term.recs term.bodies) senses
  pub inside : term.first < length (take (1 + term.places) term.cells)
  pub decided : (out : List ℕ) → found_into (next_places senses) (ready_sets senses) (2 ^ term.first) 7 out ≡ text_into text out
  pub no_fault : 0 ≡ text_fault_of text
