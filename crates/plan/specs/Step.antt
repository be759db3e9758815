-- What stepping answers: the next state, or why there is none.
-- Assumes nothing.
use Rattle.std.specs.Prelude.{List, ℕ, Option, None, Some, Result, Ok, Err}
use Rattle.std.proofs.Math.Option as maybe
use Rattle.std.proofs.Math.Option.{none, some}
use Rattle.model.specs.Plan as model
use Rattle.model.specs.Plan.{held, read_moves}
use Rattle.plan.specs.declared.Refusal.{Refusal}
use Rattle.plan.specs.declared.Refusal.TheVariants.{NoPlan, NoState, NoMove}
use Rattle.plan.specs.declared.Stepped.{Stepped}

-- 14: "a stepped plan breaks the plan layout"; 15: "not a state of the plan"; 16: "code not in that row"
unfoldable pub number_of : Refusal → ℕ
number_of NoPlan = 14
number_of NoState = 15
number_of NoMove = 16

-- "gives the next state, or 0 with a refusal"
unfoldable pub told : Result ℕ Refusal → model.Stepped
told (Ok to) = record { number = 0; state = to }
told (Err why) = record { number = number_of why; state = 0 }

-- the same as the struct for C
unfoldable pub stepped_of : model.Stepped → Stepped
stepped_of s = record { number = s.number; state = s.state }

-- the next state that a row has for a code, as an answer
unfoldable pub next_of : maybe.Option ℕ → Option ℕ
next_of none = None
next_of (some to) = Some to

-- the same of the moves that stand in some bytes, `size` of them from `first` on
unfoldable pub held_in : List ℕ → (first size code : ℕ) → Option ℕ
held_in b first size code = next_of (held (read_moves b first size) code)
