-- `plan::row_of` meets its contract: a plan's row stands where the index says.
-- Assumes nothing.
use native.Mathlib.Omega.{arith}
use Rattle.model.specs.Bytes.{byte}
use Rattle.plan.proofs.Stands.{trailer-fits, entry-fits, row_fits, row-stands}
use Rattle.plan.proofs.row_of.Goals as goal

pub overflow_sub-plan : goal.overflow_sub-plan
overflow_sub-plan c = omega (arith, trailer-fits _ _ c.requires)

pub dword_at-index-requires : goal.dword_at-index-requires
dword_at-index-requires c = record { within = omega (arith, trailer-fits _ _ c.requires) }

pub dword_at-row-requires : goal.dword_at-row-requires
dword_at-row-requires c = record { within = entry-fits _ _ c.requires _ c.dword_at-index.ensures }

pub bounds-plan-row : goal.bounds-plan-row
bounds-plan-row c =
    omega (
      arith,
      row_fits _ _ c.requires _ c.dword_at-index.ensures _
          c.dword_at-row.ensures,
    )

pub overflow_cast-result : goal.overflow_cast-result
overflow_cast-result c = omega (arith, c.type_inv.plan c.dword_at-row.result)

pub returns : goal.returns
unfolding byte
returns c = row-stands _ _ c.requires _ c.dword_at-index.ensures _
    c.dword_at-row.ensures
