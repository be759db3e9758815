-- Internal moves: a row leads to those that one or more of them reach, and a circle is a row that leads to itself. Row by row, what may be
-- gone through grows; a way through row m is one without it, or one up to row m and one on from there.
-- Assumes nothing.
use mathlib.Core.Path.{◌≡◌, refl, sym, ap, subst, subst⁻¹, ◌∙◌}
use mathlib.Core.Bool.{Bool, true, false, cond}
use mathlib.Core.Logic.{◌⊎◌, inl, inr, ⊎_elim, ◌↔◌}
use mathlib.Core.List.Memᴰ
use mathlib.Core.List.{List, [], ◌∷◌, map, Memᴰ}
use Prim.Native.Nat.{ℕ, zero, suc, ◌+◌, ◌<◌, ◌≤◌}
use native.Mathlib.Omega.{arith}
use native.Mathlib.Nat.{eq-or-lt_of_le}
use lib.ListN.{length, get_or, get_or-map}
use lib.Dec.{T, ltb, ltb→lt, nltb→le, not_T}
use lib.Bits.{bit_or}
use Rattle.model.specs.Lists.{upto}
use Rattle.model.specs.Contract.{has}
use Rattle.model.proofs.Lists.{any-intro, any-elim, dec-T, cond_yes}
use Rattle.model.proofs.Bits.{has-or-left, has-or-right, has-or-cases}
use Rattle.model.proofs.Masks.{has-none}
use Rattle.model.proofs.Actions.{mem-upto}
use Rattle.choosing.specs.Rows.{ChoosingRow, opens, Choosing, row_in, hidden_of}
use Rattle.nodes.specs.Transitions.{Silently, rests, goes_on}
use Rattle.choosing.specs.Transitions.{Hides, Circle}
use Rattle.nodes.specs.Sets.{unite_from, set_of}
use Rattle.choosing.specs.Convert.{through_row, through_rows, row_numbers, leads_of, circle}
use Rattle.nodes.proofs.Sets.{set-intro, set-elim}

-- row r leads to row s in a list of sets
abbrev pub Leads : List ℕ → ℕ → ℕ → Type 0
Leads l r s = T (has (get_or l r 0) s)

-- ---- one more row to go through

module _ (m : ℕ) (l : List ℕ) where
  -- the set of a row with row m gone through
  abbrev onward : ℕ → ℕ
  onward set = cond (has set m) (bit_or set (get_or l m 0)) set

  onward-none : onward 0 ≡ 0
  onward-none = rw (has-none m)

  row-through : (r : ℕ) → get_or (through_row m l) r 0 ≡ onward (get_or l r 0)
  unfolding through_row
  row-through r = ap (get_or (map onward l) r) (sym onward-none) ∙ get_or-map onward l r 0

  through-elim : (r s : ℕ) → Leads (through_row m l) r s → Leads l r s ⊎ (Leads l r m × Leads l m s)
  through-elim r s t = go (has (get_or l r 0) m) refl (subst (λ (x : ℕ). T (has x s)) (row-through r) t)
    where
      split : Leads l r m → Leads l r s ⊎ Leads l m s → Leads l r s ⊎ (Leads l r m × Leads l m s)
      split a (inl u) = inl u
      split a (inr u) = inr (a, u)

      go : (b : Bool) → has (get_or l r 0) m ≡ b → T (has (cond b (bit_or (get_or l r 0) (get_or l m 0)) (get_or l r 0)) s)
          → Leads l r s ⊎ (Leads l r m × Leads l m s)
      go true e t = split (subst⁻¹ T e tt) (has-or-cases (get_or l r 0) (get_or l m 0) s t)
      go false e t = inl t

  through-keeps : (r s : ℕ) → Leads l r s → Leads (through_row m l) r s
  through-keeps r s t = subst⁻¹ (λ (x : ℕ). T (has x s)) (row-through r) (go (has (get_or l r 0) m))
    where
      go : (b : Bool) → T (has (cond b (bit_or (get_or l r 0) (get_or l m 0)) (get_or l r 0)) s)
      go true = has-or-left (get_or l r 0) (get_or l m 0) s t
      go false = t

  through-joins : (r s : ℕ) → Leads l r m → Leads l m s → Leads (through_row m l) r s
  through-joins r s a t =
      subst⁻¹ (λ (x : ℕ). T (has x s)) (row-through r ∙ cond_yes (has (get_or l r 0) m) (bit_or (get_or l r 0) (get_or l m 0)) (get_or l r 0) a)
      (has-or-right (get_or l r 0) (get_or l m 0) s t)

-- ---- ways

module _ (c : Choosing) where
  -- one or more internal moves, with rows below `limit` gone through
  data Way (limit : ℕ) : ℕ → ℕ → Type 0 where
    one : {r s : ℕ} → Hides c r s → Way limit r s
    more : {r s t : ℕ} → Hides c r s → s < limit → Way limit s t → Way limit r t

  way-wider : (m : ℕ) {r s : ℕ} → Way m r s → Way (suc m) r s
  way-wider m (one h) = one h
  way-wider m (more h l w) = more h (omega arith) (way-wider m w)

  way-joined_at : (m : ℕ) {r s k : ℕ} → Way m r k → k ≡ m → Way m m s → Way (suc m) r s
  way-joined_at m {r = r} (one h) e v = more (subst (λ (x : ℕ). Hides c r x) e h) (omega arith) (way-wider m v)
  way-joined_at m (more h l w) e v = more h (omega arith) (way-joined_at m w e v)

  way-joined : (m : ℕ) {r s : ℕ} → Way m r m → Way m m s → Way (suc m) r s
  way-joined m w v = way-joined_at m w refl v

  way-split : (m : ℕ) {r s : ℕ} → Way (suc m) r s → Way m r s ⊎ (Way m r m × Way m m s)
  way-split m (one h) = inl (one h)
  way-split m {r = r} {s = t} (more {s = s} h l w) = go (eq-or-lt_of_le l) (way-split m w)
    where
      lower : s < m → Way m s t ⊎ (Way m s m × Way m m t) → Way m r t ⊎ (Way m r m × Way m m t)
      lower k (inl v) = inl (more h k v)
      lower k (inr v) = inr (more h k v.0, v.1)

      last : Way m s t ⊎ (Way m s m × Way m m t) → s ≡ m → Way m m t
      last (inl v) e = subst (λ (x : ℕ). Way m x t) e v
      last (inr v) e = v.1

      go : (suc s ≡ suc m) ⊎ (suc s < suc m) → Way m s t ⊎ (Way m s m × Way m m t) → Way m r t ⊎ (Way m r m × Way m m t)
      go (inl e) v = let d : s ≡ m = omega (arith, e) in inr (one (subst (λ (x : ℕ). Hides c r x) d h), last v d)
      go (inr k) v = lower (omega arith) v

  -- a list of sets has exactly the ways through rows below m
  abbrev Exact : ℕ → List ℕ → Type 0
  Exact m l = (r s : ℕ) → Leads l r s ↔ Way m r s

  exact-more : (m : ℕ) (l : List ℕ) → Exact m l → Exact (suc m) (through_row m l)
  exact-more m l x r s = (
    (λ t.
        ⊎_elim (λ u. way-wider m ((x r s).0 u)) (λ u. way-joined m ((x r m).0 u.0) ((x m s).0 u.1)) (through-elim m l r s t)),
    (λ w.
        ⊎_elim (λ v. through-keeps m l r s ((x r s).1 v)) (λ v. through-joins m l r s ((x r m).1 v.0) ((x m s).1 v.1))
        (way-split m w)),
  )

  exact-all : (k m limit : ℕ) (l : List ℕ) → limit ≡ m + k → Exact m l → Exact limit (through_rows (upto m k) l)
  unfolding through_rows upto
  exact-all zero m limit l e x = let d : limit ≡ m = omega (arith, e) in subst⁻¹ (λ (i : ℕ). Exact i l) d x
  exact-all (suc k) m limit l e x = exact-all k (suc m) limit (through_row m l) (omega (arith, e)) (exact-more m l x)

  -- the sets of the rows' own internal moves
  abbrev own : List ℕ
  own = map (λ (x : ChoosingRow). set_of (hidden_of x)) c.rows

  own_row : (r : ℕ) → get_or own r 0 ≡ set_of (hidden_of (row_in c r))
  unfolding row_in set_of hidden_of unite_from
  own_row r = get_or-map (λ (x : ChoosingRow). set_of (hidden_of x)) c.rows r (opens 0 [])

  exact-own : Exact 0 own
  exact-own r s = (
    (λ t. one (set-elim s (hidden_of (row_in c r)) (subst (λ (x : ℕ). T (has x s)) (own_row r) t))),
    (λ w. subst⁻¹ (λ (x : ℕ). T (has x s)) (own_row r) (first w)),
  )
    where
      first : Way 0 r s → T (has (set_of (hidden_of (row_in c r))) s)
      first (one h) = set-intro h
      first (more h l w) = absurd (omega arith)

  exact-leads : Exact (length c.rows) (leads_of c)
  unfolding leads_of row_numbers
  exact-leads = exact-all (length c.rows) 0 (length c.rows) own (omega arith) exact-own

  -- ---- what the sets of `leads_of` mean

  -- a row with an internal move is one of the sheet's
  pub hider-within : (r s : ℕ) → Hides c r s → r < length c.rows
  unfolding row_in hidden_of
  hider-within r s h =
      ⊎_elim (λ t. ltb→lt r (length c.rows) t)
      (λ f. absurd (go c.rows r (nltb→le r (length c.rows) (not_T (ltb r (length c.rows)) f)) h))
      (dec-T (ltb r (length c.rows)))
    where
      go : (l : List ChoosingRow) (r : ℕ) → length l ≤ r → Memᴰ s (hidden_of (get_or l r (opens 0 []))) → ⊥
      go [] r h m = Memᴰ.not-nil m
      go (x ∷ l) zero h m = omega arith
      go (x ∷ l) (suc r) h m = go l r (omega arith) m

  way-silently : {limit r s : ℕ} → Way limit r s → (t : ℕ) × Hides c r t × Silently (Hides c) t s
  way-silently {s = s} (one h) = (s, h, rests refl)
  way-silently (more {s = t} h l w) = let v = way-silently w in (t, h, goes_on v.1 v.2)

  silently-way : (r s : ℕ) {t : ℕ} → Hides c r s → Silently (Hides c) s t → Way (length c.rows) r t
  silently-way r s h (rests e) = one (subst (λ (x : ℕ). Hides c r x) e h)
  silently-way r s h (goes_on {s = u} k w) = more h (hider-within s u k) (silently-way s u k w)

  -- a row leads to those that one internal move and any number more reach
  pub leads-elim : (r s : ℕ) → Leads (leads_of c) r s → (t : ℕ) × Hides c r t × Silently (Hides c) t s
  leads-elim r s t = way-silently ((exact-leads r s).0 t)

  pub leads-intro : (r s t : ℕ) → Hides c r s → Silently (Hides c) s t → Leads (leads_of c) r t
  leads-intro r s t h w = (exact-leads r t).1 (silently-way r s h w)

  -- 18 is given exactly where there is a circle of internal moves
  pub circle-found : Circle c → T (circle c)
  unfolding circle row_numbers
  circle-found w =
      any-intro (λ r. has (get_or (leads_of c) r 0) r)
      (mem-upto (length c.rows) 0 w.0 (omega arith) (omega (arith, hider-within w.0 w.1 w.2)))
      (leads-intro w.0 w.1 w.0 w.2 w.3)

  pub circle-real : T (circle c) → Circle c
  unfolding circle row_numbers
  circle-real t =
      let w = any-elim (λ r. has (get_or (leads_of c) r 0) r) (upto 0 (length c.rows)) t in
      let v = leads-elim w.0 w.0 w.2 in
      (w.0, v.0, v.1, v.2)
