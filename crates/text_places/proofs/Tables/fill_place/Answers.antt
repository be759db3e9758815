-- `text_places::Tables::fill_place` meets its contract: the place can be followed, and what its parts of the tables come back with is what is
-- kept.
-- Assumes nothing.
use mathlib.Core.Path.{sym, ◌∙◌}
use native.Mathlib.Omega.{arith}
use lib.ListN.{length-take, length-drop, length-set}
use borrow.Rule.Slice.PartMut.{same_len_mid}
use Rattle.place_sets.proofs.Listed.{part-is}
use Rattle.text_places.proofs.Filling.{filled}
use Rattle.text_places.proofs.Tables.fill_place.Goals as goal

pub put_prefixes-requires : goal.put_prefixes-requires
put_prefixes-requires c =
    let known = c.requires.known in
    let few = known.explained.few in (
      known.explained.ends c.args.p c.requires.inside,
      omega arith,
      known.recs,
      few,
      simp (length-take, length-drop) (omega (arith, c.requires.rooms.prefixes_room)),
      sym (part-is c.args.self.now.prefixes.now c.args.p) ∙ c.requires.none,
    )

pub returns-clause-filled : goal.returns-clause-filled
returns-clause-filled c =
    let rooms = c.requires.rooms in
    let few = c.requires.known.explained.few in
    let tables = c.args.self.now in
    filled _ _ c.args.p _ _ _ _ _ _ (omega arith) rooms (λ senses x. c.put_ready-size.ensures senses x (c.requires.held senses x))
    c.put_prefixes.ensures
    (record {
      sizes_room = simp length-set rooms.sizes_room;
      masks_room = same_len_mid _ _ tables.masks.now _ c.put_ready-size.auto.out ∙ rooms.masks_room;
      prefixes_room = same_len_mid _ _ tables.prefixes.now _ c.put_prefixes.auto.set ∙ rooms.prefixes_room;
    })
