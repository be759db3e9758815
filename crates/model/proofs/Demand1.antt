-- Demand 1: connecting comes to one of few cases, each of which writes no more than there is room for, and nothing on a refusal.
-- Assumes nothing.
use mathlib.Core.Path.{◌≡◌, refl, ap, subst⁻¹, ◌∙◌}
use mathlib.Core.Bool.{Bool, true, false, cond, ◌||◌}
use mathlib.Core.Logic.{inl, inr, ⊎_elim}
use mathlib.Core.Option.{Option, none, some}
use mathlib.Core.List.{List, [], ◌++◌, map}
use Prim.Native.Nat.{ℕ, ◌+◌, ◌≤◌, ◌<◌}
use native.Mathlib.Omega.{arith}
use lib.ListN.{length, get_or, drop, length-append, length-drop}
use lib.Seq.{drop-append_seam}
use lib.Dec.{eqb, ltb, leb}
use borrow.Author.Tests.{lt-ltb, le-ltb, eq-eqb, ne_eqb}
use Rattle.model.specs.Contract.{Contract}
use Rattle.model.specs.Situation.{Situation}
use Rattle.model.specs.Test.{Mode, test}
use Rattle.model.specs.Sheet.{Reading, good, refusal, Refusal, plain, Both, read_both}
use Rattle.model.specs.Plan.{held, Plan, read_plan, row_step, step_in, step_of}
use Rattle.model.specs.Connect.{Outcome, refused, counted, connected, limit_of, ranked, outcome_of, clears, connect_of}
use Rattle.model.specs.Client.{complies_in, complies_of}
use Rattle.model.specs.Demands.{Answers, Steps, Demand-1, number}
use Rattle.model.proofs.Refusals.{OnlyRefused, both-numbers}
use Rattle.model.proofs.Connect.{Shape, cut_off, removed, too_long, fits, shape}

-- an outcome that writes no more than there is room for, and nothing on a refusal
record Sound (room : ℕ) (o : Outcome) : Type 0 where
  table : o.answer.number ≤ 13
  written : o.answer.length ≡ length o.bytes
  nothing : (o.answer.number ≡ 0 → ⊥) → o.bytes ≡ []
  uncounted : 1 ≤ o.answer.number → o.answer.number ≤ 11 → (o.answer.situations ≡ 0) × (o.answer.states ≡ 0) × (o.answer.rounds ≡ 0)
  within : length o.bytes ≤ room

sound-refused : (room : ℕ) (r : Refusal) → r.number ≤ 13 → Sound room (refused r)
unfolding refused
sound-refused room r h =
    record { table = h; written = refl; nothing = λ n. refl; uncounted = λ l m. (refl, refl, refl); within = omega arith }

sound-counted : (room number situations states rounds : ℕ) → 11 < number → number ≤ 13 → Sound room (counted number situations states rounds [])
unfolding counted
sound-counted room number situations states rounds l h =
    record { table = h; written = refl; nothing = λ n. refl; uncounted = λ _ m. absurd (omega arith); within = omega arith }

sound-connected : (passes : List ℕ → Situation → Bool) (k : ℕ) (σ τ : Contract) (limit room : ℕ) → Sound room (connected passes k σ τ limit room)
sound-connected passes k σ τ limit room = go (shape k σ τ limit passes room)
  where
    go : Shape k σ τ limit passes room → Sound room (connected passes k σ τ limit room)
    go (cut_off n e) = rw e (sound-refused room (plain 11 0) (unfold plain in omega arith))
    go (removed w n e) = rw e (sound-counted room 12 _ _ _ (omega arith) (omega arith))
    go (too_long w m l e) = rw e (sound-counted room 13 _ _ _ (omega arith) (omega arith))
    go (fits w m l e) =
        rw e (unfold counted in record { table = omega arith; written = refl; nothing = λ n. absurd (n refl); uncounted = λ l m. absurd (omega arith); within = l })

sound-ranked : (mode : Mode) (k records room : ℕ) (r : Reading Refusal Both) → OnlyRefused (λ (r : Refusal). (1 ≤ r.number) × (r.number ≤ 9)) r → Sound room (ranked mode k records room r)
unfolding ranked
sound-ranked mode k records room (refusal r) o = sound-refused room r (omega (arith, o.1))
sound-ranked mode k records room (good sheets) o = go (leb k 3)
  where
    go : (t : Bool) → Sound room (cond t (connected (test mode sheets.one sheets.two) k sheets.one sheets.two (limit_of records) room) (refused (plain 10 0)))
    go true = sound-connected (test mode sheets.one sheets.two) k sheets.one sheets.two (limit_of records) room
    go false = sound-refused room (plain 10 0) (unfold plain in omega arith)

sound-outcome : (mode : Mode) (records room k : ℕ) (old new : List ℕ) → Sound room (outcome_of mode records room k old new)
unfolding outcome_of
sound-outcome mode records room k old new = sound-ranked mode k records room (read_both 0 0 old new) (both-numbers 0 0 old new)

module _ {R : Type 0} (blank : R) (mode : Mode) (k : ℕ) (old new : List ℕ) (work : List R) (plan : List ℕ) where
  abbrev o : Outcome
  o = outcome_of mode (length work) (length plan) k old new

  abbrev sound : Sound (length plan) o
  sound = sound-outcome mode (length work) (length plan) k old new

  connect-answers : Answers blank work plan (connect_of blank mode k old new work plan)
  unfolding connect_of clears
  connect-answers =
      record {
        number = sound.table;
        refused = λ n. (sound.written ∙ ap length (sound.nothing n), ap (λ (w : List ℕ). w ++ drop (length w) plan) (sound.nothing n));
        uncounted = sound.uncounted;
        size =
            length-append o.bytes (drop (length o.bytes) plan)
            ∙ ap (λ (n : ℕ). length o.bytes + n) (length-drop (length o.bytes) plan)
            ∙ omega (arith, sound.within);
        beyond = (
          omega (arith, sound.written, sound.within),
          subst⁻¹ (λ (m : ℕ). drop m (o.bytes ++ drop (length o.bytes) plan) ≡ drop m plan) sound.written (drop-append_seam o.bytes (drop (length o.bytes) plan)),
        );
        unchanged = λ l h. rw (ne_eqb o.answer.number 0 (λ e. omega arith), le-ltb 10 o.answer.number h) refl;
        cleared = λ h. ⊎_elim (λ e. rw (eq-eqb o.answer.number 0 e) refl) (λ l. later (eqb o.answer.number 0) l) h;
      }
    where
      later : (t : Bool) → 10 < o.answer.number → cond (t || ltb 10 o.answer.number) (map (λ r. blank) work) work ≡ map (λ r. blank) work
      later true l = refl
      later false l = rw (lt-ltb 10 o.answer.number l) refl

step_row : (to : Option ℕ) → Steps (row_step to)
unfolding row_step
step_row none = record { number = inr (omega arith); table = omega arith; refused = λ n. refl }
step_row (some to) = record { number = inl refl; table = omega arith; refused = λ n. absurd (n refl) }

step-in : (p : Option Plan) (state code : ℕ) → Steps (step_in p state code)
unfolding step_in
step-in none state code = record { number = inr (omega arith); table = omega arith; refused = λ n. refl }
step-in (some p) state code = go (ltb state (length p.rows))
  where
    go : (t : Bool) → Steps (cond t (row_step (held (get_or p.rows state []) code)) (record { number = 15; state = 0 }))
    go true = step_row (held (get_or p.rows state []) code)
    go false = record { number = inr (omega arith); table = omega arith; refused = λ n. refl }

check-number : (r : Reading Refusal Both) → OnlyRefused (λ (r : Refusal). (1 ≤ r.number) × (r.number ≤ 9)) r → (complies_in r).number ≤ 9
unfolding complies_in
check-number (refusal r) o = o.1
check-number (good sheets) o = omega arith

pub demand-1 : Demand-1
unfolding step_of complies_of
demand-1 =
    record {
      connects = λ R blank mode k old new work plan. connect-answers blank mode k old new work plan;
      steps = λ plan state code. step-in (read_plan plan) state code;
      complies = λ client service. check-number (read_both 1 0 client service) (both-numbers 1 0 client service);
    }
