-- `convert::converted` meets its contract: a choosing sheet is read into tables, rows that lead to themselves are a circle, the masks are put
-- in order, and the tables are converted. Assumes nothing.
use mathlib.Core.Path.{◌≡◌, refl, sym, ap, ◌∙◌}
use native.Mathlib.Omega.{arith}
use Rattle.model.specs.Sheet.{Trailer}
use Rattle.choosing.proofs.Read.{choosing-read, read-formed}
use Rattle.choosing_rows.proofs.BlankRows.{blank-rows}
use Rattle.choosing.specs.Convert.{convert_into}
use Rattle.nodes.specs.Answer.{written_as, refusal_of}
use Rattle.convert.specs.Sets.{convert_from}
use Rattle.convert.proofs.Converting.{states-written, states-refused, bytes_small, ranked-long, converted-other, converted-circle, converted-rows}
use Rattle.convert.proofs.converted.Goals as goal
use Rattle.convert.proofs.converted.Goals.{After-write_reached}

pub read_rows-requires : goal.read_rows-requires
read_rows-requires c = blank-rows

pub returns-then-not-read_rows : goal.returns-then-not-read_rows
returns-then-not-read_rows c =
    converted-other _ _ (c.read_rows.ensures.no_sheet c.if-not-read_rows.true)

pub read_trailer-trailer-requires : goal.read_trailer-trailer-requires
read_trailer-trailer-requires c =
    let read = c.read_rows.ensures.sheet c.if-not-read_rows.false in
    let small = bytes_small c.args.choosing.now (λ i. omega (arith, c.type_inv.choosing i)) in
    (choosing-read _ small read.0 read.1).long

pub lead-requires : goal.lead-requires
lead-requires c =
    let read = c.read_rows.ensures.sheet c.if-not-read_rows.false in
    let small = bytes_small c.args.choosing.now (λ i. omega (arith, c.type_inv.choosing i)) in
    let facts = choosing-read _ small read.0 read.1 in
    let few = ap (λ (t : Trailer). t.count) c.read_trailer-trailer.ensures in
    (read.2.hidden_room, omega (arith, few, facts.trails.few_rows))

pub has_circle-requires : goal.has_circle-requires
has_circle-requires c =
    let read = c.read_rows.ensures.sheet c.if-not-read_rows.false in
    let small = bytes_small c.args.choosing.now (λ i. omega (arith, c.type_inv.choosing i)) in
    let facts = choosing-read _ small read.0 read.1 in
    let few = ap (λ (t : Trailer). t.count) c.read_trailer-trailer.ensures in
    (c.lead.ensures.0, omega (arith, few, facts.trails.few_rows))

pub returns-then-has_circle : goal.returns-then-has_circle
returns-then-has_circle c =
    let read = c.read_rows.ensures.sheet c.if-not-read_rows.false in
    let small = bytes_small c.args.choosing.now (λ i. omega (arith, c.type_inv.choosing i)) in
    let facts = choosing-read _ small read.0 read.1 in
    let trailer = c.read_trailer-trailer.ensures in
    let counted = ap (λ (t : Trailer). t.count) trailer ∙ sym facts.rows.each.size in
    let formed = read-formed _ small read.0 read.1 in
    converted-circle _ _ read.1 formed read.2 _ _ counted c.lead.ensures.1
    c.has_circle.ensures c.if-has_circle.true

pub rank-known-requires : goal.rank-known-requires
rank-known-requires c =
    let read = c.read_rows.ensures.sheet c.if-not-read_rows.false in
    let small = bytes_small c.args.choosing.now (λ i. omega (arith, c.type_inv.choosing i)) in
    let facts = choosing-read _ small read.0 read.1 in
    let trailer = c.read_trailer-trailer.ensures in
    let few = ap (λ (t : Trailer). t.count) trailer in
    (read.2.masks_room, omega (arith, few, facts.trails.few_rows), refl, refl)

pub slice_bounds-ranked-end : goal.slice_bounds-ranked-end
slice_bounds-ranked-end c =
    let ranks = c.rank-known.ensures in
    omega (arith, ranks.few, ranks.ranked_room)

pub slice_bounds-rows-end-2 : goal.slice_bounds-rows-end-2
slice_bounds-rows-end-2 c = sym (ranked-long c.rank-known.ensures).0

pub slice_bounds-holders-end : goal.slice_bounds-holders-end
slice_bounds-holders-end c =
    let ranks = c.rank-known.ensures in
    omega (arith, ranks.few, ranks.holders_room)

pub slice_bounds-rows-end-3 : goal.slice_bounds-rows-end-3
slice_bounds-rows-end-3 c = sym (ranked-long c.rank-known.ensures).1

pub invariant_of-rows : goal.invariant_of-rows
invariant_of-rows c =
    record {
      tables =
          let read = c.read_rows.ensures.sheet c.if-not-read_rows.false in
          let small = bytes_small c.args.choosing.now (λ i. omega (arith, c.type_inv.choosing i)) in
          let facts = choosing-read _ small read.0 read.1 in
          let few = ap (λ (t : Trailer). t.count) c.read_trailer-trailer.ensures in
          let long = ranked-long c.rank-known.ensures in
          record {
            leads_room = c.lead.ensures.0;
            few_masks = omega (arith, long.0, c.rank-known.ensures.few);
            holders_room = long.1 ∙ sym long.0;
            targets_room = read.2.targets_room;
            few_rows = omega (arith, few, facts.trails.few_rows);
          };
    }

-- what was written for the rows is what was asked for
rows-written : (c : After-write_reached) → written_as refusal_of c.write_reached.result c.write_reached.new.out
    ≡ convert_into c.args.choosing.now c.args.sheet.now
unfolding convert_from
rows-written c =
    let read = c.read_rows.ensures.sheet c.if-not-read_rows.false in
    let small = bytes_small c.args.choosing.now (λ i. omega (arith, c.type_inv.choosing i)) in
    let facts = choosing-read _ small read.0 read.1 in
    let trailer = c.read_trailer-trailer.ensures in
    let counted = ap (λ (t : Trailer). t.count) trailer ∙ sym facts.rows.each.size in
    let formed = read-formed _ small read.0 read.1 in
    let names = ap (λ (t : Trailer). t.n) trailer ∙ facts.names in
    converted-rows _ _ read.1 formed read.2 _ _ counted c.lead.ensures.1
    c.has_circle.ensures c.if-has_circle.false c.rank-known.ensures _ names (rw c.starting-sets.ensures.1 at (c.write_reached.ensures _ _ (refl, refl)))

pub returns-in_err-write_reached : goal.returns-in_err-write_reached
returns-in_err-write_reached c =
    states-refused _ _ c.in_err-write_reached.was c.from_residual.ensures
    ∙ rows-written (goal.at.returns-in_err-write_reached c).After-write_reached

pub returns : goal.returns
returns c = states-written _ c.in_ok-write_reached.was ∙ rows-written (goal.at.returns c).After-write_reached
