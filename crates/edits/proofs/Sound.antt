-- Sound pairs: the test of a pair computes what is asked of it in a mode, and what is at fault in a pair is 0 exactly if the pair is sound.
-- Assumes nothing.
use mathlib.Core.Path.{◌≡◌, refl}
use mathlib.Core.Bool.{Bool, true, false, not, ◌&&◌, ◌||◌}
use mathlib.Core.Logic.{◌↔◌, ⊎_elim}
use mathlib.Core.Option.{Option, none, some}
use mathlib.Core.List.{List, Memᴰ}
use Prim.Native.Nat.{ℕ}
use native.Mathlib.Omega.{arith}
use lib.Dec.{T}
use Rattle.model.specs.Lists.{all}
use Rattle.model.specs.Contract.{Contract, State, state, offers}
use Rattle.model.specs.Situation.{Situation, Kind, straight, client, service, stray, kind_of, buffer_after, offered}
use Rattle.model.specs.Test.{Mode, is_settled, asked, delivered, hope, test}
use Rattle.model.specs.Plan.{Move}
use Rattle.model.specs.Weak.{Rests, Waits, Hope}
use Rattle.model.proofs.Lists.{and_both, and-of, all-elim, all-intro, dec-T, if-intro}
use Rattle.model.proofs.Test.{answered-elim, answered-intro, asked-elim, delivered-elim, delivered-intro}
use Rattle.edits.specs.Places.{Place, codes_in, row_here}
use Rattle.edits.specs.Sound.{old_meets, new_meets, first_not, Blame, blamed}
use Rattle.edits.specs.Sound.{keeps_buffer, met_by_both, answered_by, delivered_by, sound_row, blame_of, sound_place, blame_in}
use Rattle.edits.specs.Promises.{RowCode, Keeps, MetByBoth, Answered, Sound, Breaks, outside, unmet, unanswered, undelivered}
use Rattle.edits.proofs.First.{given-elim, given-intro, none-fails, all_pass, first-fails, first-as}

-- ---- which moves are met

-- what the new state can meet, the old one can
pub meets-elim : (a b : Bool) → T (not a || b) → T a → T b
meets-elim true b t h = t
meets-elim false b t h = absurd h

pub meets-intro : (a b : Bool) → (T a → T b) → T (not a || b)
meets-intro true b f = f tt
meets-intro false b f = tt

-- what both states can meet is offered
pub both-met : (p q : State) (kind : Kind) → T (new_meets q kind) → T (old_meets p kind) → T (offered p q kind)
unfolding new_meets old_meets offered
both-met p q (straight j) n o = and-of (offers p j) (offers q j) o n
both-met p q (client j) n o = o
both-met p q (service j) n o = n
both-met p q stray n o = n

-- and what is offered, the old state can meet
pub old-met : (p q : State) (kind : Kind) → T (offered p q kind) → T (old_meets p kind)
unfolding offered old_meets
old-met p q (straight j) o = (and_both (offers p j) (offers q j) o).0
old-met p q (client j) o = o
old-met p q (service j) o = tt
old-met p q stray o = o

-- ---- a row in a situation

blamed-none : (o u a d : Option ℕ) → (blamed o u a d).condition ≡ 0 → (o ≡ none) × (u ≡ none) × (a ≡ none) × (d ≡ none)
unfolding blamed
blamed-none (some code) u a d e = absurd (omega (arith, e))
blamed-none none (some code) a d e = absurd (omega (arith, e))
blamed-none none none (some S) d e = absurd (omega (arith, e))
blamed-none none none none (some S) e = absurd (omega (arith, e))
blamed-none none none none none e = (refl, refl, refl, refl)

-- where a ready set has not what the second part asks, it is asked
is-asked : (mode : Mode) (p : State) (b A : List ℕ) (S : ℕ) → (T (delivered (asked mode p b) A S) → ⊥) → T (is_settled mode) × Rests p × Waits b
unfolding delivered
is-asked mode p b A S f =
    ⊎_elim (asked-elim mode p b) (λ n. absurd (f (if-intro (asked mode p b) (hope A S) (λ t. absurd (n t))))) (dec-T (asked mode p b))

module _ (mode : Mode) (limits : List ℕ) (old new : Contract) (s : Situation) (A : List ℕ) where
  abbrev keeps : ℕ → Bool
  keeps = keeps_buffer mode limits old new s

  abbrev both : ℕ → Bool
  both = met_by_both mode limits old new s

  abbrev answers : ℕ → Bool
  answers = answered_by mode limits old new s A

  abbrev delivers : ℕ → Bool
  delivers = delivered_by mode limits old new s A

  abbrev ready : List ℕ
  ready = (state new s.new).ready

  -- a row is sound exactly if all four conditions hold
  pub row-elim : T (sound_row mode limits old new s A) → T (all keeps A) × T (all both A) × T (all answers ready) × T (all delivers ready)
  unfolding sound_row test answered_by delivered_by
  row-elim t =
      let w = and_both (all keeps A) (all both A && test mode old new A s) t in
      let v = and_both (all both A) (test mode old new A s) w.1 in
      let u = and_both (all answers ready) (all delivers ready) v.1 in
      (w.0, v.0, u.0, u.1)

  pub row-intro : T (all keeps A) → T (all both A) → T (all answers ready) → T (all delivers ready) → T (sound_row mode limits old new s A)
  unfolding sound_row test answered_by delivered_by
  row-intro k b a d =
      and-of (all keeps A) (all both A && test mode old new A s) k
      (and-of (all both A) (test mode old new A s) b (and-of (all answers ready) (all delivers ready) a d))

  -- the condition at fault is 0 exactly if the row is sound
  pub blame-none : ((blame_of mode limits old new s A).condition ≡ 0) ↔ T (sound_row mode limits old new s A)
  unfolding blame_of blamed
  blame-none = (
    (λ e.
        let w = blamed-none (first_not keeps A) (first_not both A) (first_not answers ready) (first_not delivers ready) e in
        row-intro (none-fails keeps A w.0) (none-fails both A w.1) (none-fails answers ready w.2) (none-fails delivers ready w.3)),
    (λ t.
        let w = row-elim t in
        rw (all_pass keeps A w.0, all_pass both A w.1, all_pass answers ready w.2, all_pass delivers ready w.3) refl),
  )

-- ---- a pair

module _ (mode : Mode) (limits : List ℕ) (old new : Contract) (rows : List (List Move)) (x : Place) where
  abbrev A : List ℕ
  A = codes_in (row_here limits old new rows x)

  abbrev kept : ℕ → Bool
  kept = keeps_buffer mode limits old new x.at

  abbrev met : ℕ → Bool
  met = met_by_both mode limits old new x.at

  abbrev answer : ℕ → Bool
  answer = answered_by mode limits old new x.at A

  abbrev deliver : ℕ → Bool
  deliver = delivered_by mode limits old new x.at A

  abbrev new_one : ℕ → Bool
  new_one code = new_meets (state new x.at.new) (kind_of code)

  abbrev old_one : ℕ → Bool
  old_one code = old_meets (state old x.at.old) (kind_of code)

  abbrev σ : State
  σ = state old x.at.old

  abbrev b : List ℕ
  b = x.at.buffer

  abbrev ready_new : List ℕ
  ready_new = (state new x.at.new).ready

  -- each test computes its condition
  pub keeps-elim : (code : ℕ) → T (kept code) → Keeps mode limits old new rows x code
  unfolding keeps_buffer
  keeps-elim code t = given-elim (buffer_after limits x.at.buffer (kind_of code)) t

  pub keeps-intro : (code : ℕ) → Keeps mode limits old new rows x code → T (kept code)
  unfolding keeps_buffer
  keeps-intro code w = given-intro (buffer_after limits x.at.buffer (kind_of code)) w.0 w.1

  pub met-elim : (code : ℕ) → T (met code) → MetByBoth mode limits old new rows x code
  unfolding met_by_both
  met-elim code t = meets-elim (new_one code) (old_one code) t

  pub met-intro : (code : ℕ) → MetByBoth mode limits old new rows x code → T (met code)
  unfolding met_by_both
  met-intro code f = meets-intro (new_one code) (old_one code) f

  pub answer-elim : (S : ℕ) → T (answer S) → Answered mode limits old new rows x S
  unfolding answered_by
  answer-elim S t = answered-elim σ.ready A S t

  pub answer-intro : (S : ℕ) → Answered mode limits old new rows x S → T (answer S)
  unfolding answered_by
  answer-intro S h = answered-intro σ.ready A S h

  pub deliver-elim : (S : ℕ) → T (deliver S) → T (is_settled mode) → Rests σ → Waits b → Hope (RowCode mode limits old new rows x) S
  unfolding delivered_by
  deliver-elim S t = delivered-elim mode σ b A S t

  pub deliver-intro : (S : ℕ) → (T (is_settled mode) → Rests σ → Waits b → Hope (RowCode mode limits old new rows x) S) → T (deliver S)
  unfolding delivered_by
  deliver-intro S f = delivered-intro mode σ b A S f

  -- the second part is asked where a ready set has not what it asks
  deliver-asked : (S : ℕ) → (T (deliver S) → ⊥) → T (is_settled mode) × Rests σ × Waits b
  unfolding delivered_by
  deliver-asked S f = is-asked mode σ b A S f

  -- the test of a pair computes what is asked of it
  pub sound-elim : T (sound_place mode limits old new rows x) → Sound mode limits old new rows x
  unfolding sound_place
  sound-elim t =
      let w = row-elim mode limits old new x.at A t in
      record {
        within = λ code m. keeps-elim code (all-elim kept m w.0);
        meets = λ code m. met-elim code (all-elim met m w.1);
        passes = record {
          passes = λ S m. answer-elim S (all-elim answer m w.2);
          delivers = λ g r v S m. deliver-elim S (all-elim deliver m w.3) g r v;
        };
      }

  pub sound-intro : Sound mode limits old new rows x → T (sound_place mode limits old new rows x)
  unfolding sound_place
  sound-intro s =
      row-intro mode limits old new x.at A
      (all-intro kept A (λ code m. keeps-intro code (s.within code m)))
      (all-intro met A (λ code m. met-intro code (s.meets code m)))
      (all-intro answer ready_new (λ S m. answer-intro S (s.passes.passes S m)))
      (all-intro deliver ready_new (λ S m. deliver-intro S (λ g r w. s.passes.delivers g r w S m)))

  -- ---- what is at fault

  abbrev Broken : Blame → Type 0
  Broken b = Breaks mode limits old new rows x b.condition b.code b.ready

  -- in a pair that is not sound, what is blamed is the first to break the first condition that fails
  pub blame-breaks : (T (sound_place mode limits old new rows x) → ⊥) → Broken (blame_in mode limits old new rows x)
  unfolding sound_place blame_in blame_of blamed
  blame-breaks f =
      go (first_not kept A) refl (first_not met A) refl (first_not answer ready_new) refl (first_not deliver ready_new) refl
    where
      keep_all : first_not kept A ≡ none → (code : ℕ) → Memᴰ code A → Keeps mode limits old new rows x code
      keep_all e code m = keeps-elim code (all-elim kept m (none-fails kept A e))

      meet_all : first_not met A ≡ none → (code : ℕ) → Memᴰ code A → MetByBoth mode limits old new rows x code
      meet_all e code m = met-elim code (all-elim met m (none-fails met A e))

      go : (o : Option ℕ) → first_not kept A ≡ o → (u : Option ℕ) → first_not met A ≡ u → (a : Option ℕ) → first_not answer ready_new ≡ a
          → (d : Option ℕ) → first_not deliver ready_new ≡ d → Broken (blamed o u a d)
      go (some code) e u g a h d i = outside (first-as (λ c. T (kept c)) (Keeps mode limits old new rows x) keeps-elim keeps-intro
          (first-fails kept A code e))
      go none e (some code) g a h d i =
          unmet (keep_all e) (first-as (λ c. T (met c)) (MetByBoth mode limits old new rows x) met-elim met-intro (first-fails met A code g))
      go none e none g (some S) h d i =
          unanswered (λ code m. (keep_all e code m, meet_all g code m))
          (first-as (λ c. T (answer c)) (Answered mode limits old new rows x) answer-elim answer-intro (first-fails answer ready_new S h))
      go none e none g none h (some S) i =
          let w = first-fails deliver ready_new S i in
          let why = deliver-asked S w.fails in
          undelivered (λ code m. (keep_all e code m, meet_all g code m)) (λ S m. answer-elim S (all-elim answer m (none-fails answer ready_new h)))
          why.0 why.1 why.2
          (first-as (λ c. T (deliver c)) (Hope (RowCode mode limits old new rows x))
          (λ S t. deliver-elim S t why.0 why.1 why.2) (λ S hoped. deliver-intro S (λ _ _ _. hoped)) w)
      go none e none g none h none i =
          absurd
          (f
          (row-intro mode limits old new x.at A
          (none-fails kept A e) (none-fails met A g) (none-fails answer ready_new h) (none-fails deliver ready_new i)))
