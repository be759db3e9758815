-- What an attempt does, whatever the rows: a move is by a choice, has what its code needs, and is in the row; then the run goes on by it.
-- By the tests of an attempt and by the kinds of codes.
-- Assumes nothing.
use mathlib.Core.Path.{◌≡◌, refl, ap, subst, subst⁻¹, ◌∙◌}
use mathlib.Core.Bool.{Bool, true, false, cond, ◌&&◌}
use mathlib.Core.Option.{Option, none, some}
use mathlib.Core.List.{List, [], ◌∷◌, ◌++◌, Memᴰ}
use Prim.Native.Nat.{ℕ, ◌+◌, ◌-◌, ◌≤◌, ◌<◌}
use native.Mathlib.Omega.{arith}
use lib.ListN.{length, get_or}
use lib.Dec.{T, leb}
use borrow.Author.Tests.{leb-true}
use Rattle.model.specs.Contract.{Contract, partner, has, state}
use Rattle.model.specs.Situation.{Kind, straight, client, service, stray, kind_of, codes, new_after}
use Rattle.model.specs.Test.{listed}
use Rattle.model.specs.Plan.{Move, held}
use Rattle.model.specs.Run.{Run, Attempt, need, row_at_run, choice, move_to, moved, moved_if, attempted, run_from}
use Rattle.model.proofs.Lists.{and_both, and-of, cond-some, cond_yes}
use Rattle.model.proofs.Situation.{code-straight, code-client, code-service, kind-straight, kind-client, kind-service}
use Rattle.model.proofs.Test.{listed-intro, listed-elim}

-- ---- what a code needs

module _ (R S : ℕ) where
  pub need-straight : (j : ℕ) → j < 14 → T (need R S (kind_of j)) → T (has S j) × T (has R (partner j))
  unfolding need
  need-straight j h t = and_both (has S j) (has R (partner j)) (rw (kind-straight j h) at t)

  pub need-client : (j : ℕ) → j < 14 → T (need R S (kind_of (16 + j))) → T (has R (partner j))
  unfolding need
  need-client j h t = rw (kind-client j h) at t

  pub need-service : (j : ℕ) → j < 14 → T (need R S (kind_of (32 + j))) → T (has S j)
  unfolding need
  need-service j h t = rw (kind-service j h) at t

  -- only a code of the three ranges has a need that is met
  pub need-code : (code : ℕ) → T (need R S (kind_of code)) → Memᴰ code codes
  unfolding need kind_of
  need-code code = go (leb code 13) (leb-true code 13) (leb 16 code) (leb-true 16 code) (leb code 29) (leb-true code 29)
      (leb 32 code) (leb-true 32 code) (leb code 45) (leb-true code 45)
    where
      back : (low : ℕ) → low ≤ code → Memᴰ (low + (code - low)) codes → Memᴰ code codes
      back low l m = let e : low + (code - low) ≡ code = omega arith in subst (λ (c : ℕ). Memᴰ c codes) e m

      go : (a : Bool) → (a ≡ true → code ≤ 13) → (b : Bool) → (b ≡ true → 16 ≤ code) → (c : Bool) → (c ≡ true → code ≤ 29)
          → (d : Bool) → (d ≡ true → 32 ≤ code) → (e : Bool) → (e ≡ true → code ≤ 45)
          → T (need R S (cond a (straight code) (cond (b && c) (client (code - 16)) (cond (d && e) (service (code - 32)) stray))))
          → Memᴰ code codes
      go true f b g c h d i e k t = code-straight code (omega (arith, f refl))
      go false f true g true h d i e k t = back 16 (g refl) (code-client (code - 16) (omega (arith, g refl, h refl)))
      go false f true g false h true i true k t = back 32 (i refl) (code-service (code - 32) (omega (arith, i refl, k refl)))
      go false f false g c h true i true k t = back 32 (i refl) (code-service (code - 32) (omega (arith, i refl, k refl)))
      go false f true g false h true i false k t = absurd t
      go false f true g false h false i e k t = absurd t
      go false f false g c h true i false k t = absurd t
      go false f false g c h false i e k t = absurd t

module _ (user new : Contract) (rows : List (List Move)) where
  -- ---- a choice

  pub choice-intro : (r : Run) (R S : ℕ) → Memᴰ R (state user r.client).ready → Memᴰ S (state new r.service).ready
      → T (choice user new rows r R S)
  unfolding choice
  choice-intro r R S mR mS =
      and-of (listed (state user r.client).ready R) (listed (state new r.service).ready S) (listed-intro mR) (listed-intro mS)

  pub choice-elim : (r : Run) (R S : ℕ) → T (choice user new rows r R S)
      → Memᴰ R (state user r.client).ready × Memᴰ S (state new r.service).ready
  unfolding choice
  choice-elim r R S t =
      let w = and_both (listed (state user r.client).ready R) (listed (state new r.service).ready S) t in
      (listed-elim (state user r.client).ready R w.0, listed-elim (state new r.service).ready S w.1)

  -- ---- a move

  -- the attempt's masks are a choice, and its need is met
  abbrev possible : Run → Attempt → Bool
  possible r a = choice user new rows r a.R a.S && need a.R a.S (kind_of a.code)

  -- it is by a choice, its need is met, and the row holds it
  pub record IsMove (r : Run) (a : Attempt) (to : ℕ) : Type 0 where
    pub chosen : T (choice user new rows r a.R a.S)
    pub needed : T (need a.R a.S (kind_of a.code))
    pub holds : held (row_at_run user new rows r) a.code ≡ some to

  pub is_move : (r : Run) (a : Attempt) (to : ℕ) → move_to user new rows r a ≡ some to → IsMove r a to
  unfolding move_to
  is_move r a to e =
      let w = cond-some (possible r a) (held (row_at_run user new rows r) a.code) to e in
      let v = and_both (choice user new rows r a.R a.S) (need a.R a.S (kind_of a.code)) w.0 in
      record { chosen = v.0; needed = v.1; holds = w.1 }

  pub move-is : (r : Run) (a : Attempt) (to : ℕ) → IsMove r a to → move_to user new rows r a ≡ some to
  unfolding move_to
  move-is r a to m =
      cond_yes (possible r a) (held (row_at_run user new rows r) a.code) none
      (and-of (choice user new rows r a.R a.S) (need a.R a.S (kind_of a.code)) m.chosen m.needed)
      ∙ m.holds

  -- the plan goes to the row's next state
  pub moved-plan : (r : Run) (kind : Kind) (R S to : ℕ) → T (need R S kind) → (moved user new rows r kind to).plan ≡ to
  unfolding moved need
  moved-plan r (straight j) R S to n = refl
  moved-plan r (client j) R S to n = refl
  moved-plan r (service j) R S to n = refl
  moved-plan r stray R S to n = absurd n

  -- the service goes on as its contract says
  pub moved-service : (r : Run) (kind : Kind) (to : ℕ)
      → (moved user new rows r kind to).service ≡ new_after r.service (state new r.service) kind
  unfolding moved new_after
  moved-service r (straight j) to = refl
  moved-service r (client j) to = refl
  moved-service r (service j) to = refl
  moved-service r stray to = refl

  -- ---- a list of attempts

  -- the run after a list and one attempt more that is a move
  pub run-move : (before : List Attempt) (r : Run) (a : Attempt) (to : ℕ)
      → move_to user new rows (run_from user new rows r before) a ≡ some to
      → run_from user new rows r (before ++ a ∷ []) ≡ moved user new rows (run_from user new rows r before) (kind_of a.code) to
  unfolding run_from attempted moved_if
  run-move [] r a to e = ap (moved_if user new rows r (kind_of a.code)) e
  run-move (b ∷ before) r a to e = run-move before (attempted user new rows r b) a to e

  -- where next states of held moves are states of the plan, the run's plan state stays one
  module _ (inside : (i code to : ℕ) → held (get_or rows i []) code ≡ some to → to < length rows) where
    attempted-below : (r : Run) (a : Attempt) → r.plan < length rows → (attempted user new rows r a).plan < length rows
    unfolding attempted moved_if row_at_run
    attempted-below r a h = go (move_to user new rows r a) refl
      where
        go : (o : Option ℕ) → move_to user new rows r a ≡ o → (moved_if user new rows r (kind_of a.code) o).plan < length rows
        go none e = h
        go (some to) e =
            let m = is_move r a to e in
            subst⁻¹ (λ (i : ℕ). i < length rows) (moved-plan r (kind_of a.code) a.R a.S to m.needed)
            (inside r.plan a.code to m.holds)

    pub run-below : (attempts : List Attempt) (r : Run) → r.plan < length rows → (run_from user new rows r attempts).plan < length rows
    unfolding run_from
    run-below [] r h = h
    run-below (a ∷ attempts) r h = run-below attempts (attempted user new rows r a) (attempted-below r a h)
