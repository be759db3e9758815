-- A loop over the ready sets of a state, of which something is asked: as long as none decided it, those from place i on decide as all of
-- them do.
-- Assumes nothing.
use mathlib.Core.Path.{◌≡◌, refl}
use mathlib.Core.Bool.{Bool, not}
use mathlib.Core.List.{List}
use Prim.Native.Nat.{ℕ, ◌+◌, ◌≤◌, ◌<◌}
use native.Mathlib.Omega.{arith}
use lib.ListN.{length, get_or, drop}
use Rattle.model.specs.Contract.{state}
use Rattle.model.specs.Sheet.{contract_in}
use Rattle.model.proofs.Loops.{Decisive, ended, decided, onward}

abbrev ready_of : List ℕ → ℕ → List ℕ
ready_of b q = (state (contract_in b) q).ready

pub record ReadySets (b : List ℕ) (q : ℕ) (over : List ℕ → Bool) (count i : ℕ) : Type 0 where
  -- so many ready sets has state q
  pub number : count ≡ length (ready_of b q)
  -- i is a place among them, or the one behind the last
  pub place : i ≤ count
  -- those from place i on decide as all of them do
  pub rest : over (drop i (ready_of b q)) ≡ over (ready_of b q)

pub sets-begin : {b : List ℕ} {q : ℕ} {over : List ℕ → Bool} {count : ℕ} → count ≡ length (ready_of b q) → ReadySets b q over count 0
sets-begin e = record { number = e; place = omega arith; rest = refl }

module _ {b : List ℕ} {q : ℕ} {over : List ℕ → Bool} {count i : ℕ} (v : ReadySets b q over count i) where
  module _ {p : ℕ → Bool} {stop : Bool} (by : Decisive p over stop) where
    -- no ready set decided
    pub sets-ended : count ≤ i → not stop ≡ over (ready_of b q)
    sets-ended h = ended by (ready_of b q) i v.rest (omega (arith, v.number))

    -- at place i, where x stands and the test answers t
    module _ (h : i < count) {x : ℕ} (at : x ≡ get_or (ready_of b q) i 0) {t : Bool} (tested : t ≡ p x) where
      pub sets-decided : t ≡ stop → stop ≡ over (ready_of b q)
      sets-decided e = decided by (ready_of b q) i v.rest 0 (omega (arith, v.number)) at tested e

      pub sets-onward : t ≡ not stop → ReadySets b q over count (i + 1)
      sets-onward e =
          record {
            number = v.number;
            place = omega arith;
            rest = onward by (ready_of b q) i v.rest 0 (omega (arith, v.number)) at
                tested e;
          }
