-- What a converter answers and leaves in the lent output, for what it read.
-- Assumes nothing.
use Rattle.std.specs.Prelude.{cond, List, ℕ, length, leb, Result, Ok, Err}
use Rattle.model.specs.Sheet.{Reading, Refusal, good, refusal, plain}
use Rattle.little_endian.specs.Front.{front}
use Rattle.nodes.specs.declared.Refusal as code
use Rattle.nodes.specs.declared.Refusal.TheVariants.{NoRoom, ManyStates, ManyReadySets}
use Rattle.nodes.specs.declared.SheetAnswer.{SheetAnswer}

-- What a converter answers and leaves in the lent output: the number, sheet and state of a refusal, each 0 where there is none; the length
-- of what was written, on a refusal 0; and every byte of the lent output afterwards.
pub record Written : Type 0 where
  pub number : ℕ
  pub sheet : ℕ
  pub state : ℕ
  pub length : ℕ
  pub output : List ℕ

-- "The answer's length and the bytes beyond it are as for plans.": where the output has room, the bytes stand at its front and the rest is
-- untouched; if not, "then 13 for the lent output, which none touches"
unfoldable pub written : List ℕ → Reading Refusal (List ℕ) → Written
written out (refusal e) = record { number = e.number; sheet = e.sheet; state = e.state; length = 0; output = out }
written out (good bytes) =
    cond (leb (length bytes) (length out))
    (record { number = 0; sheet = 0; state = 0; length = length bytes; output = front bytes out })
    (record { number = 13; sheet = 0; state = 0; length = 0; output = out })

-- the answer that a struct of the code holds, with the output
unfoldable pub written_by : SheetAnswer → List ℕ → Written
written_by r output = record { number = r.number; sheet = r.sheet; state = r.state; length = r.length; output = output }

-- the same by the length of what was written or by what refuses it, which says a refusal
unfoldable pub written_as : {E : Type 0} → (E → Refusal) → Result ℕ E → List ℕ → Written
written_as says (Ok size) output = record { number = 0; sheet = 0; state = 0; length = size; output = output }
written_as says (Err e) output =
    record { number = (says e).number; sheet = (says e).sheet; state = (says e).state; length = 0; output = output }

-- "13 for the lent output", "19 more than 64 states, 20 more than 8 ready sets in a state"
unfoldable pub refusal_of : code.Refusal → Refusal
refusal_of NoRoom = plain 13 0
refusal_of ManyStates = plain 19 0
refusal_of ManyReadySets = plain 20 0

-- a refusal in a struct of the code: nothing was written
unfoldable pub refused_as : Refusal → SheetAnswer
refused_as e = record { number = e.number; sheet = e.sheet; state = e.state; length = 0 }
