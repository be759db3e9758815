-- What is left where nothing but 0 or a variable can come.
-- Assumes nothing.
use mathlib.Core.Path.{◌≡◌, refl}
use mathlib.Core.Bool.{true, false}
use mathlib.Core.Option.{Option}
use mathlib.Core.List.{List}
use Prim.Native.Nat.{ℕ, ◌+◌}
use lib.ListN.{get_or, drop}
use Rattle.std.specs.Prelude as O
use Rattle.std.specs.Prelude.{slice_get, Some}
use Rattle.std.specs.Option.{option_or}
use Rattle.text.specs.Grammar.{nought, variable}
use Rattle.text.specs.Parser.{leaf}
use Rattle.text.specs.Convert.{wrong_at, or_else}
use Rattle.text_reading.specs.declared.Scope.{Scope}
use Rattle.text_reading.specs.Reading.{Standing, fault_in, listed, onward, Ready, ReadAs, fails, reads}
use Rattle.text_reading.specs.Reader.{ByteIn, NoneIn}
use Rattle.text_reading.proofs.Bytes.{here}
use Rattle.text_reading.proofs.Steps.{leaf-nought, leaf-variable, leaf-stops}
use Rattle.text_reading.proofs.Parts.{part-nought, part-variable}
use Rattle.text_reading.proofs.Outcome.{stopped-at}

-- the first of two, in the code and in the definitions
pub fault-or : (a b : O.Option ℕ) → fault_in (option_or a b) ≡ or_else (fault_in a) (fault_in b)
unfolding or_else
fault-or O.None b = refl
fault-or (O.Some i) b = refl

module _ {text : List ℕ} {from : Standing} {scope : Scope} {cells bodies : List ℕ} (ready : Ready text from scope cells bodies) where
  pub nought-read : slice_get text from.at ≡ Some 48
      → ReadAs text from scope cells bodies (leaf (drop from.at text)) (onward from (from.at + 1) 0) cells bodies
  nought-read e =
      reads nought (drop (from.at + 1) text) (leaf-nought text from.at e) (part-nought ready (here text from.at e))

  module _ (n : slice_get text from.at ≡ Some 48 → ⊥) where
    pub nothing_read : NoneIn text from.at 88 90 → {to : Standing} → (to.ok ≡ false) × (to.at ≡ from.at)
        → ReadAs text from scope cells bodies (leaf (drop from.at text)) to cells bodies
    nothing_read m h =
        fails (drop from.at text) (leaf-stops text from.at n m) (stopped-at from.at h ready.inside) ready.cells_room ready.bodies_room

    pub variable-read : {v : ℕ} → ByteIn text from.at 88 90 v → (l : ℕ) (w : Option ℕ) → l ≡ 256 + get_or scope.owners v 0
        → w ≡ or_else from.wrong (wrong_at (listed scope.recs) (listed scope.prefixed) from.at (variable v))
        → ReadAs text from scope cells bodies (leaf (drop from.at text)) (
        record {
          ok = true;
          at = from.at + 1;
          link = l;
          places = from.places;
          recs = from.recs;
          wrong = w;
        }
        ) cells bodies
    variable-read {v} h l w known e =
        reads (variable v) (drop (from.at + 1) text) (leaf-variable text from.at n h)
        (part-variable ready v l w (here text from.at h.is) known e)
