-- The answers of the readers, for what the definitions read.
-- Assumes nothing.
use Rattle.std.specs.Prelude.{◌≡◌, List, ℕ, ◌^◌, Option, Some, None}
use Rattle.std.proofs.Math.Option as O
use Rattle.choosing.specs.Read.{Part}
use Rattle.nodes.specs.Sets.{unite_from, set_of}

-- rows under one count, which end at `behind`: their set, together with `set`
unfoldable pub set_in : (set behind : ℕ) → O.Option (List ℕ) → Option (ℕ × ℕ)
set_in set behind O.none = None
set_in set behind (O.some l) = Some (unite_from (λ r. 2 ^ r) set l, behind)

-- a count with its rows: their set, and where the next begins
unfoldable pub group_in : O.Option (Part (List ℕ)) → Option (ℕ × ℕ)
group_in O.none = None
group_in (O.some p) = Some (set_of p.value, p.behind)

-- whatever was read: where the next begins
unfoldable pub row_behind_in : {A : Type 0} → O.Option (Part A) → Option ℕ
row_behind_in O.none = None
row_behind_in (O.some p) = Some p.behind

-- The answer on what is read, and what was put into tables if it is there.
pub record ReadInto {A : Type 0} (o : O.Option (Part A)) (answer : Option ℕ) (Put : A → Type 0) : Type 0 where
  pub answer_is : answer ≡ row_behind_in o
  pub put : (p : Part A) → o ≡ O.some p → Put p.value

-- the first row at fault, if one is
unfoldable pub fault_in : O.Option ℕ → Option ℕ
fault_in O.none = None
fault_in (O.some q) = Some q
