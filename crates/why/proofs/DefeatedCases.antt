-- Of each case of document 01's table that is answered with 12, in its mode, by computation from the bytes: connecting answers so, the client
-- sheet's contract is the most demanding client, and the client check says yes to it with the old sheet. So it defeats every adapter.
-- Assumes nothing.
use mathlib.Core.Path.{◌≡◌, refl, subst⁻¹}
use mathlib.Core.Bool.{true}
use mathlib.Core.List.{map, Memᴰ}
use Prim.Native.Nat.{ℕ}
use lib.ListN.{replicate}
use Rattle.model.specs.Lists.{combine}
use Rattle.model.specs.Contract.{Contract}
use Rattle.model.specs.Sheet.{sheet_of, contract_in}
use Rattle.model.specs.Situation.{alike}
use Rattle.model.specs.Client.{same_pair, first_pair, agree, meet_on, pairs, agrees_at, complies, Checked, complies_in, complies_of}
use Rattle.model.proofs.Cases.{connect_case, agree_at}
use Rattle.why.specs.Demanding.{demands_of, demands_of_all, demands_at, demanding_state, demanding}
use Rattle.why.specs.DefeatedCases.{DefeatedCase, defeated_cases}
use Rattle.why.specs.Game.{Defeats}
use Rattle.why.proofs.NoMeansNone.{refused-for-good}

-- the client check's yes
abbrev yes : Checked
yes = record { number = 0; sheet = 0; state = 0; offset = 0; yes = true }

-- what holds of a row of the list
pub record Defeated (c : DefeatedCase) : Type 0 where
  pub answered : (connect_case c.mode c.k c.old c.new).answer.number ≡ 12
  pub is-demanding : contract_in c.client ≡ demanding c.mode (contract_in c.old)
  pub checked : complies_of c.client c.old ≡ yes
  pub defeats : Defeats c.mode (alike c.k) (contract_in c.old) (contract_in c.new) (contract_in c.client)

number_of : DefeatedCase → ℕ
number_of c = (connect_case c.mode c.k c.old c.new).answer.number

numbers : map number_of defeated_cases ≡ map (λ (c : DefeatedCase). 12) defeated_cases
unfolding defeated_cases connect_case number_of
numbers = refl

contracts : map (λ (c : DefeatedCase). contract_in c.client) defeated_cases
    ≡ map (λ (c : DefeatedCase). demanding c.mode (contract_in c.old)) defeated_cases
unfolding defeated_cases connect_case sheet_of contract_in combine demands_of demands_of_all demands_at demanding_state demanding
contracts = refl

checks : map (λ (c : DefeatedCase). complies_of c.client c.old) defeated_cases ≡ map (λ (c : DefeatedCase). yes) defeated_cases
unfolding defeated_cases connect_case same_pair first_pair agree meet_on pairs agrees_at complies complies_in complies_of
checks = refl

pub defeated-cases : (c : DefeatedCase) → Memᴰ c defeated_cases → Defeated c
unfolding connect_case number_of
defeated-cases c m =
    let twelve = agree_at number_of (λ (c : DefeatedCase). 12) m numbers in
    let is = agree_at (λ (c : DefeatedCase). contract_in c.client) (λ (c : DefeatedCase). demanding c.mode (contract_in c.old)) m contracts in
    record {
      answered = twelve;
      is-demanding = is;
      checked = agree_at (λ (c : DefeatedCase). complies_of c.client c.old) (λ (c : DefeatedCase). yes) m checks;
      defeats = subst⁻¹ (λ (user : Contract). Defeats c.mode (alike c.k) (contract_in c.old) (contract_in c.new) user) is
          (refused-for-good ℕ 0 c.mode c.k c.old c.new (replicate 16 7) (replicate 128 0xFF) twelve);
    }
