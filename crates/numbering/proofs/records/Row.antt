-- The row of a state by its record: each slot that is left names a record by its link, whose number gives the next state.
-- Assumes nothing.
use mathlib.Core.Path.{◌≡◌, sym, ap, ap₂, subst, ◌∙◌}
use mathlib.Core.List.{List, [], ◌∷◌}
use Prim.Native.Nat.{ℕ, ◌+◌, ◌*◌, ◌-◌, ◌≤◌, ◌<◌}
use native.Mathlib.Omega.{arith}
use lib.ListN.{length, get_or}
use lib.Bits.{bit_and}
use lib.Count.{ones, count_trailing_zeros}
use Rattle.model.specs.Plan.{move_bytes, row_bytes}
use Rattle.keys.specs.Links.{code_at}
use Rattle.keys.proofs.Bits.{slots_in}
use Rattle.keys.proofs.Left.{Left, found_among, left-next, left_less}
use Rattle.little_endian.specs.Front.{front, Wrote}
use Rattle.walks.proofs.Rest.{rest_of, with_rest}
use Rattle.table.specs.declared.Record.{Record}
use Rattle.table.specs.Records.{blank}
use Rattle.table.specs.Lists.{slots_of, links_of, present_of, marks_of, numbers_of}
use Rattle.table.proofs.Lists.{numbers-at}
use Rattle.numbering.specs.Table.{states_at, kept_row_at}
use Rattle.numbering.specs.Writing.{RowToWrite}
use Rattle.lists.proofs.numbering.Kept.{SiftedLists, all_left}
use Rattle.lists.proofs.numbering.Moves.{move_by, state-below}
use Rattle.lists.proofs.numbering.Counts.{moves-few}
use Rattle.lists.proofs.numbering.Row as Row
use Rattle.lists.proofs.numbering.Row.{WritingMoves, row-begun, row_written, row_next}
use Rattle.numbering.proofs.records.Held.{sifted-lists, slots-held, link-held}

-- the row of situation i on its way: `rest` of its slots are left, and the moves of those before them are written up to `at`
pub record WritingRow (count i : ℕ) (work : List Record) (first out : List ℕ) (at rest : ℕ) : Type 0 where
  pub from : ℕ
  pub left : Left (slots_in (present_of work) i) rest from
  pub moves : WritingMoves (links_of work) (marks_of work) count i from at first out

module _ {count i : ℕ} (work : List Record) {first : List ℕ} (writing : RowToWrite count i work first) where
  lists : SiftedLists count (links_of work) (marks_of work) (present_of work)
  lists = sifted-lists work writing.sifted

  here : i < count
  unfolding states_at
  here = state-below lists i writing.state

  pub row-there : i < length work
  row-there = omega (arith, here, writing.sifted.room)

  pub count_room : 1 ≤ length first
  count_room = Row.row_room (kept_row_at count i work) writing.room

  module _ {y : Record} (y-is : y ≡ get_or work i blank) {slots : ℕ} (slots-are : slots ≡ slots_of y) where
    held : slots ≡ slots_in (present_of work) i
    held = slots-held work row-there y-is slots-are

    pub count_small : ones slots ≤ 42
    count_small = moves-few lists here held

    pub row-starts : {size : ℕ} → size ≡ ones slots → {begun : List ℕ} → begun ≡ front (size ∷ []) first
        → WritingRow count i work first begun 1 slots
    unfolding kept_row_at
    row-starts size_is begun-is =
        record {
          from = 0;
          left = all_left lists here held;
          moves = row-begun lists here held writing.room (begun-is ∙ ap (λ (s : ℕ). front (s ∷ []) first) size_is);
        }

  module _ {out : List ℕ} {at rest : ℕ} (on : WritingRow count i work first out at rest) where
    pub row_within : at ≤ length out
    row_within = Row.row_within on.moves

    pub row_ends : rest ≡ 0 → Wrote (row_bytes (kept_row_at count i work)) at first out
    unfolding states_at kept_row_at
    row_ends e = row_written lists writing.state on.left on.moves e

    module _ (some : rest ≡ 0 → ⊥) where
      pub slot_small : count_trailing_zeros 64 rest < 42
      slot_small = found_among on.left some

      pub row-nearer : {rest' : ℕ} → rest' ≡ bit_and rest (rest - 1) → rest' < rest
      row-nearer e = omega (arith, left_less on.left some, e)

      pub move-small : at + 3 ≤ 127
      unfolding states_at
      move-small = Row.move-small lists writing.state on.left on.moves writing.numbers some

      module _ {slot link : ℕ} (slot_is : slot ≡ count_trailing_zeros 64 rest) (link_is : link ≡ get_or (get_or work i blank).next slot 0) where
        abbrev named : ℕ
        named = get_or (links_of work) (42 * i + count_trailing_zeros 64 rest) 0

        linked : link ≡ named
        linked = link-held work row-there slot_small slot_is link_is

        pub link-named : 0 < link
        unfolding states_at
        link-named = omega (arith, linked, Row.link-named lists writing.state on.left on.moves writing.numbers some)

        module _ {t : ℕ} (t-is : t ≡ link - 1) where
          pub target-there : t < length work
          unfolding states_at
          target-there =
              omega (
                arith,
                linked,
                link-named,
                Row.link-within lists writing.state on.left on.moves writing.numbers some,
                writing.sifted.room,
              )

          module _ {z : Record} (z-is : z ≡ get_or work t blank) where
            number_is : z.number ≡ get_or (numbers_of work) (named - 1) 0
            number_is =
                ap (λ (x : Record). x.number) z-is ∙ sym (numbers-at work t target-there)
                ∙ ap (λ (j : ℕ). get_or (numbers_of work) j 0) (t-is ∙ ap (λ (l : ℕ). l - 1) linked)

            pub move_needs : (slot < 42) × (0 < z.number) × (3 ≤ length (rest_of at out))
            unfolding states_at
            move_needs = (
              omega (arith, slot_is, slot_small),
              omega (arith, number_is, Row.link-numbered lists writing.state on.left on.moves writing.numbers some),
              Row.move-room lists writing.state on.left on.moves writing.numbers some,
            )

            pub row_on : {zs : List ℕ} {rest' : ℕ}
                → zs ≡ front (move_bytes (record { code = code_at slot; to = z.number - 1 } ∷ [])) (rest_of at out)
                → rest' ≡ bit_and rest (rest - 1) → WritingRow count i work first (with_rest at out zs) (at + 3) rest'
            unfolding move_by states_at
            row_on {zs} e r =
                let slot-found : ℕ = count_trailing_zeros 64 rest in
                let moved : ℕ → ℕ → List ℕ = λ s m. front (move_bytes (record { code = code_at s; to = m - 1 } ∷ [])) (rest_of at out) in
                record {
                  from = slot-found + 1;
                  left = subst (λ (m : ℕ). Left (slots_in (present_of work) i) m (slot-found + 1)) (sym r) (left-next on.left some);
                  moves = row_next lists writing.state on.left on.moves writing.numbers some (e ∙ ap₂ moved slot_is number_is);
                }
