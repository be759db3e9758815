-- The sets of rows are lawful nodes: what internal moves reach from a set is computed, so its ready sets are the masks of the open rows
-- there, and its continuations what these rows do.
-- Assumes nothing.
use mathlib.Core.Path.{◌≡◌, refl, subst, subst⁻¹}
use mathlib.Core.Logic.{⊎_elim}
use mathlib.Core.Option.{some}
use mathlib.Core.List.{Memᴰ}
use Prim.Native.Nat.{ℕ, ◌<◌}
use native.Mathlib.Omega.{arith}
use lib.ListN.{length, get_or}
use lib.Dec.{T}
use Rattle.model.specs.Contract.{actions, has, offers_in}
use Rattle.model.specs.Search.{Reached, at_start, by_move}
use Rattle.model.proofs.Lists.{any-intro, any-elim, keep-intro, keep-elim}
use Rattle.model.proofs.Actions.{action-below, mem-upto}
use Rattle.model.proofs.Masks.{has-power, power-has}
use Rattle.nodes.specs.Nodes.{Lawful}
use Rattle.choosing.specs.Rows.{Choosing, row_in, mask_of, targets_of, Formed}
use Rattle.nodes.specs.Transitions.{Silently, rests, goes_on}
use Rattle.choosing.specs.Transitions.{Hides, Does, Circle}
use Rattle.nodes.specs.Sets.{set_of, gather}
use Rattle.choosing.specs.Convert.{row_numbers, leads_of, rows_of_set, closed, ready_sets, behind_set, next_rows}
use Rattle.nodes.proofs.Sets.{any-is, any-when, unite-first, unite-intro, unite-elim, not-in-none, set-intro, set-elim, some-row-in, gather-intro, gather-elim, sorted-intro, sorted-elim, sorted-ascends, mem-some}
use Rattle.choosing.proofs.Leads.{leads-intro, leads-elim, hider-within}
use Rattle.choosing.proofs.Rows.{does-has, has-does, mask-bits, mask-named, row-formed, silently-within, does-within, rests-open}

module _ (c : Choosing) where
  row-of-set : (x r : ℕ) → r < length c.rows → T (has x r) → Memᴰ r (rows_of_set c x)
  unfolding rows_of_set row_numbers
  row-of-set x r h t = keep-intro (has x) (mem-upto (length c.rows) 0 r (omega arith) (omega arith)) t

  of-set-row : (x r : ℕ) → Memᴰ r (rows_of_set c x) → T (has x r)
  unfolding rows_of_set
  of-set-row x r m = (keep-elim (has x) r (row_numbers c) m).1

  -- ---- internal moves from a set

  pub closed-intro : (x r s : ℕ) → T (has x r) → Silently (Hides c) r s → T (has (closed c x) s)
  unfolding closed
  closed-intro x r s t (rests e) =
      unite-first (λ q. get_or (leads_of c) q 0) x (rows_of_set c x) s (subst (λ (q : ℕ). T (has x q)) e t)
  closed-intro x r s t (goes_on {s = u} h w) =
      unite-intro (λ q. get_or (leads_of c) q 0) x s (row-of-set x r (hider-within c r u h) t) (leads-intro c r u s h w)

  pub closed-elim : (x s : ℕ) → T (has (closed c x) s) → (r : ℕ) × T (has x r) × Silently (Hides c) r s
  unfolding closed
  closed-elim x s t =
      ⊎_elim {C = (r : ℕ) × T (has x r) × Silently (Hides c) r s}
      (λ u. (s, u, rests refl))
      (λ w.
      let v = leads-elim c w.0 s w.2 in
      (w.0, of-set-row x w.0 w.1, goes_on v.1 v.2))
      (unite-elim (λ q. get_or (leads_of c) q 0) x (rows_of_set c x) s t)

  -- ---- ready sets and continuations

  pub ready-intro : (x s R : ℕ) → s < length c.rows → T (has (closed c x) s) → Memᴰ R (mask_of (row_in c s))
      → Memᴰ R (ready_sets c x)
  unfolding ready_sets
  ready-intro x s R h t m =
      sorted-intro (gather-intro (λ r. mask_of (row_in c r)) (row-of-set (closed c x) s h t) m)

  pub ready-elim : (x R : ℕ) → Memᴰ R (ready_sets c x) → (s : ℕ) × T (has (closed c x) s) × Memᴰ R (mask_of (row_in c s))
  unfolding ready_sets
  ready-elim x R m =
      let w = gather-elim (λ r. mask_of (row_in c r)) R (rows_of_set c (closed c x)) (sorted-elim R _ m) in
      (w.0, of-set-row (closed c x) w.0 w.1, w.2)

  behind-elim : (x j t : ℕ) → T (has (behind_set c x j) t) → (s : ℕ) × T (has (closed c x) s) × Does c s j t
  unfolding behind_set
  behind-elim x j t u =
      ⊎_elim {C = (s : ℕ) × T (has (closed c x) s) × Does c s j t}
      (λ v. absurd (not-in-none t v))
      (λ w. (w.0, of-set-row (closed c x) w.0 w.1, set-elim t (targets_of (row_in c w.0) j) w.2))
      (unite-elim (λ r. set_of (targets_of (row_in c r) j)) 0 (rows_of_set c (closed c x)) t u)

  behind-intro : (x j s t : ℕ) → s < length c.rows → T (has (closed c x) s) → Does c s j t → T (has (behind_set c x j) t)
  unfolding behind_set
  behind-intro x j s t h u d =
      unite-intro (λ r. set_of (targets_of (row_in c r) j)) 0 t (row-of-set (closed c x) s h u) (set-intro d)

  -- a next set is what is behind the action, and not empty
  next-is : (x j y : ℕ) → next_rows c x j ≡ some y → (behind_set c x j ≡ y) × (y ≡ 0 → ⊥)
  unfolding next_rows
  next-is x j y e = any-is (behind_set c x j) y e

  next-when : (x j t : ℕ) → T (has (behind_set c x j) t) → next_rows c x j ≡ some (behind_set c x j)
  unfolding next_rows
  next-when x j t u = any-when (behind_set c x j) t u

  pub next-elim : (x j y t : ℕ) → next_rows c x j ≡ some y → T (has y t) → (s : ℕ) × T (has (closed c x) s) × Does c s j t
  next-elim x j y t e u = behind-elim x j t (subst⁻¹ (λ (z : ℕ). T (has z t)) (next-is x j y e).0 u)

  pub next-some : (x j y : ℕ) → next_rows c x j ≡ some y → (r : ℕ) × T (has y r)
  next-some x j y e = some-row-in y (next-is x j y e).1

  pub next-intro : (x j s t : ℕ) → s < length c.rows → T (has (closed c x) s) → Does c s j t
      → (y : ℕ) × (next_rows c x j ≡ some y) × T (has y t)
  next-intro x j s t h u d = let v = behind-intro x j s t h u d in (behind_set c x j, next-when x j t v, v)

  -- ---- the laws

  -- where an action is offered: at an open row
  offered-at : (x j : ℕ) → T (offers_in (ready_sets c x) j)
      → (s R : ℕ) × T (has (closed c x) s) × Memᴰ R (mask_of (row_in c s)) × T (has R j)
  unfolding offers_in
  offered-at x j t =
      let w = any-elim (λ mask. has mask j) (ready_sets c x) t in
      let v = ready-elim x w.0 w.1 in
      (v.0, w.0, v.1, v.2, w.2)

  module _ (formed : Formed c) where
    -- a set of rows of the sheet, not empty
    pub record Proper (x : ℕ) : Type 0 where
      pub inside : (r : ℕ) → T (has x r) → r < length c.rows
      pub some_row : (r : ℕ) × T (has x r)

    pub start-proper : Proper 1
    start-proper =
        record {
          inside = λ r t. subst⁻¹ (λ (q : ℕ). q < length c.rows) (power-has 0 r t) formed.some_row;
          some_row = (0, has-power 0);
        }

    pub next-proper : (x j y : ℕ) → j < 14 → next_rows c x j ≡ some y → Proper y
    next-proper x j y h e =
        record {
          inside = λ r t. let w = next-elim x j y r e t in does-within c formed w.0 j r h w.2;
          some_row = next-some x j y e;
        }

    closed-inside : (x s : ℕ) → Proper x → T (has (closed c x) s) → s < length c.rows
    closed-inside x s p t = let w = closed-elim x s t in silently-within c formed (p.inside w.0 w.1) w.2

    reached-proper : {x : ℕ} → Reached actions (next_rows c) 1 x → Proper x
    reached-proper (at_start e) = subst⁻¹ Proper e start-proper
    reached-proper (by_move {s = s} {t = t} j m e r) = next-proper s j t (action-below j m) e

    pub sets-lawful : (Circle c → ⊥) → Lawful c.n (next_rows c) (ready_sets c) 1
    unfolding offers_in ready_sets
    sets-lawful calm =
        record {
          some_ready = λ x r.
              let p = reached-proper r in
              let v = rests-open c formed calm p.some_row.0 in
              let t = closed-intro x p.some_row.0 v.0 p.some_row.1 v.2 in
              mem-some (ready-intro x v.0 v.1 (closed-inside x v.0 p t) t v.3);
          ascends = λ x r. sorted-ascends (gather (λ r. mask_of (row_in c r)) (rows_of_set c (closed c x)));
          bits = λ x r R m.
              let w = ready-elim x R m in
              mask-bits c.n (length c.rows) (row_in c w.0) (row-formed c formed w.0) R w.2;
          named = λ x r j h o.
              let w = offered-at x j o in
              mask-named c.n (length c.rows) (row_in c w.0) (row-formed c formed w.0) w.1 j w.3 h w.4;
          leads = λ x r j h o.
              let w = offered-at x j o in
              let v = has-does c.n (length c.rows) (row_in c w.0) (row-formed c formed w.0) w.1 j w.3 h w.4 in
              let u = next-intro x j w.0 v.0 (closed-inside x w.0 (reached-proper r) w.2) w.2 v.1 in
              (u.0, u.1);
          offered = λ x y r j h e.
              let w = next-some x j y e in
              let v = next-elim x j y w.0 e w.1 in
              let u = does-has (row_in c v.0) j w.0 v.2 in
              any-intro (λ mask. has mask j)
              (ready-intro x v.0 u.0 (closed-inside x v.0 (reached-proper r) v.1) v.1 u.1) u.2;
        }
