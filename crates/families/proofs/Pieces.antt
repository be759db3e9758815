-- The numbers of a list written piece by piece at the front of what is lent, some of them at most.
-- Assumes nothing.
use mathlib.Core.Path.{◌≡◌, sym, ap, ap₂, ◌∙◌}
use mathlib.Core.List.{List, ◌++◌, append_assoc}
use Prim.Native.Nat.{ℕ, ◌+◌, ◌-◌, ◌≤◌, ◌<◌}
use native.Mathlib.Omega.{arith}
use lib.ListN.{length, take, length-append, length-take}
use lib.Seq.{take_all, take-append-add, take-append-le}
use borrow.Rule.Slice.PartMut.{put_mid, mid_of}
use Rattle.little_endian.specs.Front.{front}
use Rattle.little_endian.proofs.Front.{front-then}
use Rattle.little_endian.proofs.OneByOne.{Writing, Most, writing-many}

module _ {numbers lent out : List ℕ} {n : ℕ} {left : List ℕ} (is : Writing numbers lent out n left) where
  -- `room` numbers of the piece that comes next are written at most
  module _ (piece others : List ℕ) (e : left ≡ piece ++ others) (room : ℕ) (fits : n + room ≤ length lent)
      {zs : List ℕ} {r : ℕ} (wrote : Most room piece (mid_of n (length out - n) out) zs r) where
    abbrev out' : List ℕ
    out' = put_mid n (length out - n) out zs

    taken : length (take room piece) ≤ room
    taken = omega (arith, length-take room piece)

    in_front : out' ≡ front (is.done ++ take room piece) lent
    in_front = front-then n lent out is.done (take room piece) zs is.written (sym is.many) (omega (arith, taken)) wrote.1

    -- the whole piece is
    pub piece-all : r ≤ room → Writing numbers lent out' (n + r) others
    piece-all h =
        let few : length piece ≤ room = omega (arith, wrote.0) in record {
          done = is.done ++ piece;
          whole = is.whole ∙ ap (λ (l : List ℕ). is.done ++ l) e ∙ sym (append_assoc is.done piece others);
          many = omega (arith, length-append is.done piece, is.many, wrote.0);
          written = in_front ∙ ap (λ (w : List ℕ). front (is.done ++ w) lent) (take_all room piece few);
        }

    -- there is no room for more
    pub piece-over : (most : ℕ) → room < r → n + room ≡ most → Most most numbers lent out' (most + 1)
    piece-over most h k =
        let long : room < length piece = omega (arith, wrote.0) in
        let first : take most numbers ≡ is.done ++ take room piece =
        ap₂ take (sym (ap (λ (x : ℕ). x + room) is.many ∙ k)) (is.whole ∙ ap (λ (l : List ℕ). is.done ++ l) e)
        ∙ take-append-add is.done (piece ++ others) room
        ∙ ap (λ (l : List ℕ). is.done ++ l) (take-append-le room piece others (omega arith)) in (
          omega (arith, writing-many is, ap length e, length-append piece others),
          in_front ∙ ap (λ (w : List ℕ). front w lent) (sym first),
        )
