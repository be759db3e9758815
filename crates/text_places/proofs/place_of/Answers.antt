-- `text_places::place_of` meets its contract: the tests of the code are those of the definition.
-- Assumes nothing.
use mathlib.Core.List.{[]}
use mathlib.Core.Path.{sym}
use Rattle.text_places.proofs.Wanting.{place-itself, place-body}
use Rattle.text_places.proofs.place_of.Goals as goal

pub returns-then-link-lt-PLACES : goal.returns-then-link-lt-PLACES
returns-then-link-lt-PLACES c = sym (place-itself [] c.args.bodies.now c.args.link c.if-link-lt-PLACES.true)

pub returns-else-link-lt-PLACES : goal.returns-else-link-lt-PLACES
returns-else-link-lt-PLACES c = sym (place-body [] c.args.bodies.now c.args.link c.if-link-lt-PLACES.false)
