-- `text_places::fill_places` meets its contract: with few recs no family of a body is held, and with more those that there is room for.
-- Assumes nothing.
use native.Mathlib.Omega.{arith}
use Rattle.std.proofs.Common.{rules}
use Rattle.text_places.specs.Filled.{Rooms}
use Rattle.text_places.proofs.Wanting.{known_of}
use Rattle.text_places.proofs.Filling.{filling-none, tables}
use Rattle.text_places.proofs.fill_places.Goals as goal

pub fill_wanted-requires : goal.fill_wanted-requires
fill_wanted-requires c =
    let rooms : Rooms c.args.sizes.now c.args.masks.now c.args.prefixes.now =
    record { sizes_room = c.requires.3; masks_room = c.requires.4; prefixes_room = c.requires.5 } in
    record {
      known = known_of _ _ c.args.first c.requires.0 c.requires.1 c.requires.2;
      start = filling-none _ _ _ rooms c.requires.6;
      held = λ senses x r room. absurd (omega (arith, room));
    }

pub fill_held-requires : goal.fill_held-requires
fill_held-requires c =
    let rooms : Rooms c.args.sizes.now c.args.masks.now c.args.prefixes.now =
    record { sizes_room = c.requires.3; masks_room = c.requires.4; prefixes_room = c.requires.5 } in
    record {
      known = known_of _ _ c.args.first c.requires.0 c.requires.1 c.requires.2;
      start = filling-none _ _ _ rooms c.requires.6;
    }

pub returns-then-bodies-lt-FEW : goal.returns-then-bodies-lt-FEW
returns-then-bodies-lt-FEW c =
    let all = tables _ _ c.args.first c.wanted-wanted.ensures c.fill_wanted.ensures.filled in
    search rules

pub returns-else-bodies-lt-FEW : goal.returns-else-bodies-lt-FEW
returns-else-bodies-lt-FEW c =
    let all = tables _ _ c.args.first c.wanted-wanted.ensures c.fill_held.ensures.filled in
    search rules
