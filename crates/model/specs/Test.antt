-- The test of a situation, in the paper's mode and in the settled one. Document 01, "Which pairs connect"; document 02, request 5/13.
-- Assumes nothing.
use Rattle.std.specs.Prelude.{Bool, true, false, not, cond, ◌&&◌, ◌||◌, List, ℕ, ◌+◌, get_or, eqb, ltb}
use Rattle.model.specs.Lists.{any, all, upto}
use Rattle.model.specs.Contract.{Contract, State, actions, has, state}
use Rattle.model.specs.Situation.{Situation}

-- the list has the number
unfoldable pub listed : List ℕ → ℕ → Bool
listed l x = any (eqb x) l

-- the action j is in "(actions j with 16+j in A) together with (actions j in S with code j in A)"
unfoldable pub covered : List ℕ → ℕ → ℕ → Bool
covered A S j = listed A (16 + j) || (has S j && listed A j)

-- the ready set R of the old state lies within these
unfoldable pub covers : List ℕ → ℕ → ℕ → Bool
covers A S R = all (λ j. cond (has R j) (covered A S j) true) actions

-- "some j in S has 32+j in A"
unfoldable pub hope : List ℕ → ℕ → Bool
hope A S = any (λ j. has S j && listed A (32 + j)) actions

-- the ready set S of the new state is answered, `ready` being the old state's ready sets
unfoldable pub answered : List ℕ → List ℕ → ℕ → Bool
answered ready A S = any (covers A S) ready || hope A S

-- ---- the second part

-- the paper's mode has document 01's test alone; "Add the settled mode, where 01's test has a second part"
pub data Mode : Type 0 where
  paper : Mode
  settled : Mode

unfoldable pub is_settled : Mode → Bool
is_settled paper = false
is_settled settled = true

-- the ready set is empty: it has no action
unfoldable pub silent : ℕ → Bool
silent R = all (λ j. not (has R j)) actions

-- "the old state has an empty ready set"
unfoldable pub rests : State → Bool
rests p = any silent p.ready

-- "any count for the service is above 0": count i, for a name i
unfoldable pub waits : List ℕ → Bool
waits b = any (λ i. ltb 0 (get_or b i 0)) (upto 0 7)

-- the second part is asked, of an old state and a buffer: "if the old state has an empty ready set and any count for the service is above 0"
unfoldable pub asked : Mode → State → List ℕ → Bool
asked mode p b = is_settled mode && (rests p && waits b)

-- of the ready set S, if it is asked: "then ... some j in S has 32+j in A"
unfoldable pub delivered : Bool → List ℕ → ℕ → Bool
delivered due A S = cond due (hope A S) true

-- ---- the test

-- "for each ready set S of the new state", and of the second part "for every ready set S of the new state": A are the codes of the enabled
-- moves to situations that are still there
unfoldable pub test : Mode → Contract → Contract → List ℕ → Situation → Bool
test mode old new A s =
    all (answered (state old s.old).ready A) (state new s.new).ready
    && all (delivered (asked mode (state old s.old) s.buffer) A) (state new s.new).ready
