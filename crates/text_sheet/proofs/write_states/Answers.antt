-- `text_sheet::write_states` meets its contract: the tables of the places are filled, the states searched for, and their sheet is written.
-- Assumes nothing.
use mathlib.Core.Path.{refl, ap, ◌∙◌}
use Prim.Native.Nat.{ℕ}
use native.Mathlib.Omega.{arith}
use lib.ListN.{length-take}
use Rattle.nodes.specs.Filled.{found_into}
use Rattle.nodes.proofs.Blank.{zeros-blank}
use Rattle.text.specs.Places.{ready_sets, next_places}
use Rattle.text_states.proofs.Looking.{can-start}
use Rattle.text_sheet.proofs.write_states.Goals as goal

pub fill_places-requires : goal.fill_places-requires
fill_places-requires c =
    let read = c.requires.1 in (
      (read.senses, read.explained),
      read.inside,
      simp length-take (omega (arith, read.few_recs)),
      refl,
      refl,
      refl,
      zeros-blank 1024,
    )

pub write_reached-requires : goal.write_reached-requires
write_reached-requires c =
    let read = c.requires.1 in (
      omega arith,
      (
        c.starting-known.ensures.0,
        can-start read.explained read.inside c.fill_places.ensures (c.starting-known.ensures.1 ∙ c.start.ensures),
      ),
    )

pub returns : goal.returns
returns c text read =
    c.write_reached.ensures (next_places read.senses) (ready_sets read.senses)
    (record { senses = read.senses; explained = read.explained; leads_are = refl; sets_are = refl })
    ∙ ap (λ (x : ℕ). found_into (next_places read.senses) (ready_sets read.senses) x 7 c.args.sheet.now)
    (c.starting-known.ensures.1 ∙ c.start.ensures)
    ∙ read.decided c.args.sheet.now
