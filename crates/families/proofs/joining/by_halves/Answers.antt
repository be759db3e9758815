-- `families::joining::by_halves` meets its contract: a place in the upper half has bit j, which the number gains before.
-- Assumes nothing.
use Rattle.families.proofs.Halving.{places-fit, power-some, more_within}
use Rattle.families.proofs.joining.by_halves.Goals as goal

pub overflow_shl-low : goal.overflow_shl-low
overflow_shl-low g c = places-fit c.args.j c.requires.places

pub overflow_sub-low : goal.overflow_sub-low
overflow_sub-low g c = power-some c.args.j c.requires.places

pub overflow_shr-other : goal.overflow_shr-other
overflow_shr-other g c = places-fit c.args.j c.requires.places

pub returns : goal.returns
returns g c =
    more_within c.args.j c.requires.places c.args.other c.args.word c.gained_within.result c.half.result c.half-2.result
    c.gained_within.ensures (c.requires.unions _ _ _ c.half.ensures) (c.requires.unions _ _ _ c.half-2.ensures)
