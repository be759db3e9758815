-- What the runs of specs/RunCases.antt come to follows from the definitions: one theorem over the rows of the list, by computation
-- from the bytes of sheets and emitted plans, with the bound and the no-standstill rule as demand 3 states them.
-- Assumes nothing.
use mathlib.Core.Path.{◌≡◌, refl, ap, subst, ◌∙◌}
use mathlib.Core.Bool.{true}
use mathlib.Core.Logic.{◌↔◌}
use mathlib.Core.List.{List, map, Memᴰ}
use Prim.Native.Nat.{ℕ, ◌*◌, ◌≤◌}
use lib.ListN.{replicate}
use lib.Dec.{T}
use Rattle.model.specs.Lists.{combine}
use Rattle.model.specs.Contract.{Contract, has}
use Rattle.model.specs.Test.{paper}
use Rattle.model.specs.Sheet.{good, read_sheet, sheet_of, contract_in}
use Rattle.model.specs.Plan.{Move, held, read_moves, named_below, ascending, good_row, read_rows, read_with, read_plan, rows_of, rows_in}
use Rattle.model.specs.Client.{same_pair, first_pair, agree, meet_on, pairs, agrees_at, complies, complies_in, complies_of}
use Rattle.model.specs.Run.{Run, begin, Attempt, need, is_alone, if_move, longest, row_at_run, choice, move_to, moved, moved_if, attempted, run_from, alones_from, most_alone, Standstill}
use Rattle.model.specs.Demands.{emitted_plan, Runs}
use Rattle.model.specs.RunCases.{Choice, RunFigures, RunCase, runs}
use Rattle.model.proofs.Cases.{connect_case, agree_at}
use Rattle.model.proofs.Standstill.{choices_of, none_made, standstills_of, standstill-decided}
use Rattle.model.proofs.ClientCheck.{yes-complies}
use Rattle.model.proofs.Demand3.{demand-3}

-- the client, the new service, and the rows of the emitted plan at its answered length
abbrev user : RunCase → Contract
user c = contract_in c.client

abbrev service : RunCase → Contract
service c = contract_in c.new

abbrev rows : RunCase → List (List Move)
rows c = rows_in (emitted_plan (connect_case paper c.k c.old c.new))

-- the run after a list of attempts, and the most service-alone moves in a row
abbrev run_of : RunCase → List Attempt → Run
run_of c attempts = run_from (user c) (service c) (rows c) begin attempts

abbrev alone_of : RunCase → List Attempt → ℕ
alone_of c attempts = most_alone (user c) (service c) (rows c) attempts

-- what the definitions say of a row of the list
unfoldable pub computed_run : RunCase → RunFigures
unfolding combine connect_case sheet_of contract_in held read_moves named_below ascending good_row read_rows read_with read_plan rows_of rows_in same_pair first_pair agree meet_on pairs agrees_at complies complies_in complies_of begin need is_alone if_move longest row_at_run choice move_to moved moved_if attempted run_from alones_from most_alone choices_of none_made standstills_of
computed_run c =
    record {
      complies = (complies_of c.client c.old).yes;
      ends = run_of c c.attempts;
      alone = alone_of c c.attempts;
      most = 2 * c.k * (service c).n;
      standstills = standstills_of (user c) (service c) (rows c) (run_of c c.attempts);
    }

along : map computed_run runs ≡ map (λ (c : RunCase). c.says) runs
unfolding runs computed_run
along = refl

-- each pair is accepted
connects : map (λ (c : RunCase). (connect_case paper c.k c.old c.new).answer.number) runs ≡ map (λ (c : RunCase). 0) runs
unfolding runs connect_case
connects = refl

-- each client is checked with the old contract, and its bytes are a sheet
answers : map (λ (c : RunCase). (complies_of c.client c.old).number) runs ≡ map (λ (c : RunCase). 0) runs
unfolding runs computed_run
answers = refl

reads : map (λ (c : RunCase). read_sheet c.client) runs ≡ map (λ (c : RunCase). good (sheet_of (read_sheet c.client))) runs
unfolding runs computed_run
reads = refl

-- what a row says is what the definitions say
pub record RunHolds (c : RunCase) : Type 0 where
  pub accepted : (connect_case paper c.k c.old c.new).answer.number ≡ 0
  -- "if the client complies with the old contract"
  pub checked : (complies_of c.client c.old).number ≡ 0
  pub complies : (complies_of c.client c.old).yes ≡ c.says.complies
  -- the three states after the list
  pub ends : run_of c c.attempts ≡ c.says.ends
  -- the most moves of codes 32+j in a row
  pub alone : alone_of c c.attempts ≡ c.says.alone
  -- what demand 3 allows of them, whatever the attempts
  pub few : (attempts : List Attempt) → alone_of c attempts ≤ c.says.most
  -- the no-standstill rule, whatever the attempts
  pub marked : c.says.complies ≡ true → (attempts : List Attempt) (R S : ℕ)
      → Standstill (user c) (service c) (rows c) (run_of c attempts) R S → T (has R 14)
  -- a choice is a standstill exactly if the row lists it
  pub standstills : (R S : ℕ)
      → Standstill (user c) (service c) (rows c) (run_of c c.attempts) R S ↔ Memᴰ (record { R = R; S = S }) c.says.standstills

-- what demand 3 says of a row's pair and client
demanded : (c : RunCase) → (connect_case paper c.k c.old c.new).answer.number ≡ 0 → read_sheet c.client ≡ good (sheet_of (read_sheet c.client))
    → (attempts : List Attempt)
    → Runs c.k (user c) (contract_in c.old) (service c) (emitted_plan (connect_case paper c.k c.old c.new)) attempts
unfolding connect_case contract_in
demanded c z read attempts =
    demand-3 ℕ 0 paper c.k c.old c.new (replicate 16 7) (replicate 128 0xFF) c.client (sheet_of (read_sheet c.client)) attempts z read

-- the bound that demand 3 states is 2 times k times n
stated : (c : RunCase) (attempts : List Attempt)
    → Runs c.k (user c) (contract_in c.old) (service c) (emitted_plan (connect_case paper c.k c.old c.new)) attempts
    → alone_of c attempts ≤ 2 * c.k * (service c).n
stated c attempts runs = runs.few_alone

-- each row of the list says what the definitions compute, and what demand 3 says of it
pub runs-hold : (c : RunCase) → Memᴰ c runs → RunHolds c
unfolding computed_run
runs-hold c m =
    let says = agree_at computed_run (λ (c : RunCase). c.says) m along in
    let z = agree_at (λ (c : RunCase). (connect_case paper c.k c.old c.new).answer.number) (λ (c : RunCase). 0) m connects in
    let answered = agree_at (λ (c : RunCase). (complies_of c.client c.old).number) (λ (c : RunCase). 0) m answers in
    let read = agree_at (λ (c : RunCase). read_sheet c.client) (λ (c : RunCase). good (sheet_of (read_sheet c.client))) m reads in
    record {
      accepted = z;
      checked = answered;
      complies = ap (λ (f : RunFigures). f.complies) says;
      ends = ap (λ (f : RunFigures). f.ends) says;
      alone = ap (λ (f : RunFigures). f.alone) says;
      few = λ attempts.
          subst (λ (most : ℕ). alone_of c attempts ≤ most) (ap (λ (f : RunFigures). f.most) says) (stated c attempts (demanded c z read attempts));
      marked = λ complying attempts. (demanded c z read attempts).no_standstill
          (yes-complies c.client c.old (sheet_of (read_sheet c.client)) read (answered, ap (λ (f : RunFigures). f.complies) says ∙ complying));
      standstills = λ R S.
          subst (λ (l : List Choice). Standstill (user c) (service c) (rows c) (run_of c c.attempts) R S ↔ Memᴰ (record { R = R; S = S }) l)
          (ap (λ (f : RunFigures). f.standstills) says)
          (standstill-decided (user c) (service c) (rows c) (run_of c c.attempts) R S);
    }
