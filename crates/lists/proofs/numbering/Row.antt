-- A row is written bit by bit of its masks: each bit's slot writes its move, and all moves together are the row.
-- Assumes nothing.
use mathlib.Core.Path.{◌≡◌, refl, sym, ap, ◌∙◌}
use mathlib.Core.Bool.{false}
use mathlib.Core.List.{List, [], ◌∷◌, ◌++◌, append_assoc, append-nil, Memᴰ}
use Prim.Native.Nat.{ℕ, ◌+◌, ◌*◌, ◌-◌, ◌≤◌, ◌<◌}
use native.Mathlib.Omega.{arith}
use lib.ListN.{length, get_or, length-append}
use lib.Count.{ones, count_trailing_zeros}
use Rattle.model.specs.Contract.{has}
use Rattle.model.specs.Plan.{Move, move_bytes, row_bytes}
use Rattle.model.proofs.PlanBytes.{length-moves}
use Rattle.keys.specs.Links.{code_at}
use Rattle.keys.proofs.Bits.{slots_in}
use Rattle.keys.proofs.Left.{Left, left_end, left-found, found-set, found_among}
use Rattle.little_endian.specs.Front.{front, Wrote}
use Rattle.plan.proofs.Written.{moves-append}
use Rattle.walks.proofs.Rest.{rest_of, with_rest}
use Rattle.lists.specs.Kept.{kept_states, kept_row}
use Rattle.lists.specs.Numbered.{Numbers}
use Rattle.lists.proofs.numbering.Kept.{SiftedLists, kept_link, kept-within, slot-none, slot-linked}
use Rattle.lists.proofs.numbering.Moves.{move_by, row_from, row-end, row-few, row-whole, row-none, row-by-numbers, numbered-link}
use Rattle.lists.proofs.numbering.Moves.{state-below}
use Rattle.lists.proofs.numbering.Bytes.{length-row}
use Rattle.lists.proofs.numbering.Counts.{moves-shown}
use Rattle.little_endian.proofs.Writing.{wrote-length, wrote_then, rest-length}

-- ---- a move

length-move : (m : Move) → length (move_bytes (m ∷ [])) ≡ 3
length-move m = omega (arith, length-moves (m ∷ []))

-- the code is that of the slot
pub move-written : (to slot : ℕ) (xs : List ℕ) {ys : List ℕ} {code : ℕ} → code ≡ code_at slot
    → ys ≡ front (move_bytes (record { code = code; to = to } ∷ [])) xs
    → ys ≡ front (move_bytes (record { code = code_at slot; to = to } ∷ [])) xs
move-written to slot xs c e = e ∙ ap (λ (code : ℕ). front (move_bytes (record { code = code; to = to } ∷ [])) xs) c

-- ---- a row

-- the row of situation i on its way: the kept moves of the slots before `slot` are written behind the row's count
pub record WritingMoves (links marks : List ℕ) (count i slot at : ℕ) (first out : List ℕ) : Type 0 where
  pub done : List Move
  pub all : done ++ row_from links marks count i slot ≡ kept_row links marks count i
  pub wrote : Wrote (length (kept_row links marks count i) ∷ move_bytes done) at first out
  pub fits : length (row_bytes (kept_row links marks count i)) ≤ length first

pub row_room : (row : List Move) {room : ℕ} → length (row_bytes row) ≤ room → 1 ≤ room
row_room row h = omega (arith, length-row row)

pub row-begun : {count : ℕ} {links marks present : List ℕ} → SiftedLists count links marks present → {i : ℕ} → i < count
    → {slots : ℕ} → slots ≡ slots_in present i → {first begun : List ℕ} → length (row_bytes (kept_row links marks count i)) ≤ length first
    → begun ≡ front (ones slots ∷ []) first → WritingMoves links marks count i 0 1 first begun
unfolding move_bytes
row-begun {count} {links} {marks} lists {i} here {slots} e {first} h f =
    record {
      fits = h;
      done = [];
      all = row-whole links marks count i;
      wrote = record { size_is = refl; in_front = f ∙ ap (λ (s : ℕ). front (s ∷ []) first) (moves-shown lists here e) };
    }

module _ {links marks : List ℕ} {count i slot at : ℕ} {first out : List ℕ} (on : WritingMoves links marks count i slot at first out) where
  abbrev row : List Move
  row = kept_row links marks count i

  row-size : length on.done + length (row_from links marks count i slot) ≡ length row
  row-size = sym (length-append on.done (row_from links marks count i slot)) ∙ ap length on.all

  row-place : 1 + 3 * length on.done ≡ at
  row-place = omega (arith, on.wrote.size_is, length-moves on.done)

  row_fits : 1 + 3 * length row ≤ length first
  row_fits = omega (arith, length-row row, on.fits)

  row-same-length : length out ≡ length first
  row-same-length = wrote-length on.wrote (omega (arith, row-size, row_fits, length-moves on.done))

  pub row_within : at ≤ length out
  row_within = omega (arith, row-size, row-place, row_fits, row-same-length)

  row-whole-written : row_from links marks count i slot ≡ [] → Wrote (row_bytes row) at first out
  unfolding row_bytes
  row-whole-written none =
      let whole : on.done ≡ row = sym (append-nil on.done) ∙ ap (λ (r : List Move). on.done ++ r) (sym none) ∙ on.all in
      let bytes : length row ∷ move_bytes on.done ≡ length row ∷ move_bytes row = ap (λ (m : List Move). length row ∷ move_bytes m) whole in
      record {
        size_is = on.wrote.size_is ∙ ap length bytes;
        in_front = on.wrote.in_front ∙ ap (λ (b : List ℕ). front b first) bytes;
      }

module _ {links marks present : List ℕ} {count i : ℕ} (lists : SiftedLists count links marks present)
    (state : Memᴰ i (kept_states links marks count)) {first out : List ℕ} {at rest from : ℕ}
    (left : Left (slots_in present i) rest from) (on : WritingMoves links marks count i from at first out) where
  abbrev here : i < count
  here = state-below lists i state

  -- a slot without a bit gives no move
  skips : (j : ℕ) → j < 42 → has (slots_in present i) j ≡ false → row_from links marks count i j ≡ row_from links marks count i (j + 1)
  skips j h f = row-none links marks count i lists here j h (slot-none lists here j h f)

  pub row_written : rest ≡ 0 → Wrote (row_bytes (kept_row links marks count i)) at first out
  row_written e =
      row-whole-written on (left_end left (row_from links marks count i) skips e ∙ row-end links marks count i 42 (omega arith))

  module _ {numbers : List ℕ} (known : Numbers count (kept_states links marks count) numbers) (some : rest ≡ 0 → ⊥) where
    abbrev slot : ℕ
    slot = count_trailing_zeros 64 rest

    abbrev link : ℕ
    link = get_or links (42 * i + slot) 0

    abbrev move : Move
    move = move_by numbers slot link

    among : slot < 42
    among = found_among left some

    kept : (link ≡ kept_link links marks i slot) × (0 < link)
    kept = slot-linked lists here slot among (found-set left some)

    -- the lowest bit gives the next move
    turn : row_from links marks count i from ≡ move ∷ row_from links marks count i (slot + 1)
    turn =
        left-found left some (row_from links marks count i) skips
        ∙ row-by-numbers links marks count i lists here known state slot among kept.0 kept.1

    move-ends : at + 3 ≤ 1 + 3 * length (kept_row links marks count i)
    move-ends = omega (arith, row-size on, row-place on, ap length turn)

    move-fits : at + 3 ≤ length out
    move-fits = omega (arith, move-ends, row_fits on, row-same-length on)

    -- a row has 127 bytes at most
    pub move-small : at + 3 ≤ 127
    move-small = omega (arith, move-ends, row-few links marks count i)

    pub link-named : 0 < link
    link-named = kept.1

    pub link-within : link ≤ count
    link-within = omega (arith, kept.0, kept-within lists i slot here among)

    pub link-numbered : 0 < get_or numbers (link - 1) 0
    link-numbered = numbered-link links marks count i lists here known state slot among kept.0 kept.1

    pub move-room : 3 ≤ length (rest_of at out)
    move-room = omega (arith, move-fits, rest-length out at)

    pub row_next : {zs : List ℕ} → zs ≡ front (move_bytes (move ∷ [])) (rest_of at out)
        → WritingMoves links marks count i (slot + 1) (at + 3) first (with_rest at out zs)
    row_next z =
        record {
          fits = on.fits;
          done = on.done ++ move ∷ [];
          all =
              append_assoc on.done (move ∷ []) (row_from links marks count i (slot + 1))
              ∙ ap (λ (m : List Move). on.done ++ m) (sym turn) ∙ on.all;
          wrote = wrote_then on.wrote (record { size_is = sym (length-move move); in_front = z })
              (ap (λ (b : List ℕ). length (kept_row links marks count i) ∷ b) (sym (moves-append on.done (move ∷ []))))
              (omega (arith, move-fits, row-same-length on, length-move move));
        }
