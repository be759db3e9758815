-- The four bytes behind the r of a rec.
-- Assumes nothing.
use mathlib.Core.Path.{◌≡◌, refl}
use mathlib.Core.List.{List}
use Prim.Native.Nat.{ℕ, ◌+◌, ◌<◌}
use native.Mathlib.Omega.{arith}
use lib.ListN.{length}
use Rattle.std.specs.Prelude.{slice_get, Some}
use Rattle.text.specs.Parser.{choose, expects, looped}
use Rattle.text_reading.specs.Reader.{ByteIn, NoneIn, RecRead, RecStops}
use Rattle.text_reading.proofs.Bytes.{here, after_is, after-not, one-is, one-not}

module _ (text : List ℕ) (at : ℕ) where
  pub head-none : at < length text → (slice_get text (at + 1) ≡ Some 101 → ⊥) → RecStops text at (at + 1)
  unfolding expects choose
  head-none k n = record { inside = omega arith; stops = λ p q. rw (after-not text (at + 1) n) refl }

  module _ (e : slice_get text (at + 1) ≡ Some 101) where
    pub head-one : (slice_get text (at + 2) ≡ Some 99 → ⊥) → RecStops text at (at + 2)
    unfolding expects choose
    head-one n =
        let i = here text (at + 1) e in
        let same : at + 1 + 1 ≡ at + 2 = omega arith in
        record {
          inside = omega arith;
          stops = λ p q. rw (after_is text (at + 1) e, same, after-not text (at + 2) n) refl;
        }

    module _ (c : slice_get text (at + 2) ≡ Some 99) where
      pub head-two : NoneIn text (at + 3) 88 90 → RecStops text at (at + 3)
      unfolding expects choose looped
      head-two n =
          let i = here text (at + 2) c in
          let same : at + 1 + 1 ≡ at + 2 = omega arith in
          let same2 : at + 2 + 1 ≡ at + 3 = omega arith in
          record {
            inside = omega arith;
            stops = λ p q.
                rw (after_is text (at + 1) e, same, after_is text (at + 2) c, same2, one-not text (at + 3) 88 2 n) refl;
          }

      module _ {v : ℕ} (var : ByteIn text (at + 3) 88 90 v) where
        pub head_three : (slice_get text (at + 4) ≡ Some 46 → ⊥) → RecStops text at (at + 4)
        unfolding expects choose looped
        head_three n =
            let i = here text (at + 3) var.is in
            let same : at + 1 + 1 ≡ at + 2 = omega arith in
            let same2 : at + 2 + 1 ≡ at + 3 = omega arith in
            let same3 : at + 3 + 1 ≡ at + 4 = omega arith in
            record {
              inside = omega arith;
              stops = λ p q.
                  rw (
                    after_is text (at + 1) e,
                    same,
                    after_is text (at + 2) c,
                    same2,
                    one-is text (at + 3) 88 2 var,
                    same3,
                    after-not text (at + 4) n,
                  ) refl;
            }

        pub head-whole : slice_get text (at + 4) ≡ Some 46 → RecRead text at v
        unfolding expects choose looped
        head-whole dot =
            let i = here text (at + 4) dot in
            let same : at + 1 + 1 ≡ at + 2 = omega arith in
            let same2 : at + 2 + 1 ≡ at + 3 = omega arith in
            let same3 : at + 3 + 1 ≡ at + 4 = omega arith in
            let same4 : at + 4 + 1 ≡ at + 5 = omega arith in
            record {
              small = omega (arith, var.within);
              inside = omega arith;
              goes = λ p q.
                  rw (
                    after_is text (at + 1) e,
                    same,
                    after_is text (at + 2) c,
                    same2,
                    one-is text (at + 3) 88 2 var,
                    same3,
                    after_is text (at + 4) dot,
                    same4,
                  ) refl;
            }
