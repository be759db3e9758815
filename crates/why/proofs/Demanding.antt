-- The most demanding client complies, in either mode: each of its ready sets has the success mark or meets every ready set of the contract,
-- and it goes on together with the contract. If each ready set of the contract has an action of some kind, one of the client's has partners of
-- such only.
-- Assumes nothing.
use mathlib.Core.Path.{◌≡◌, refl, sym, ap, subst, subst⁻¹, ◌∙◌}
use mathlib.Core.Bool.{◌&&◌}
use mathlib.Core.Logic.{⊎_elim}
use mathlib.Core.List.{List, [], ◌∷◌, map, Memᴰ}
use Prim.Native.Nat.{ℕ, zero, suc, ◌^◌, ◌<◌}
use native.Mathlib.Omega.{arith}
use lib.ListN.{length, get_or}
use lib.Dec.{T}
use lib.Bits.{bit_or}
use Rattle.model.specs.Lists.{any, keep}
use Rattle.model.specs.Contract.{Contract, State, actions, partner, has, nowhere, state, offers, offers_in, offered_below, after}
use Rattle.model.specs.Test.{Mode, is_settled, silent, rests}
use Rattle.model.specs.Client.{Meet, met_first, met_on, Apart, Complies}
use Rattle.model.proofs.Lists.{dec-T, or_right, cond_yes, cond_no, any-intro, keep-intro, keep-elim, combine-intro, combine-elim}
use Rattle.model.proofs.Actions.{action, action-below, partner-action, partner-partner, kept_result}
use Rattle.model.proofs.Bits.{has-or-left, has-or-right, has-or-cases}
use Rattle.model.proofs.Masks.{has-none, has-power, power-has}
use Rattle.model.proofs.Test.{silent-elim}
use Rattle.model.proofs.Sheet.{offers-within}
use Rattle.why.specs.Demanding.{demands_of, demands_of_all, demands_at, demanding_state, demanding}

-- ---- its ready sets

-- what is asked of a ready set with an action
demands-yes : (r j : ℕ) → j < 14 → T (has r j) → demands_of r ≡ map (λ j. 2 ^ partner j) (keep (has r) actions)
unfolding demands_of
demands-yes r j h t =
    cond_no (silent r) (2 ^ 14 ∷ []) (map (λ j. 2 ^ partner j) (keep (has r) actions)) (λ s. silent-elim r s j h t)

-- a demand of a ready set has the success mark or the partner of an action in it
demand-meets : (r d : ℕ) → Memᴰ d (demands_of r) → Apart d r → T (has d 14)
unfolding demands_of
demand-meets r d m apart =
    ⊎_elim
    (λ t.
    let e = mathlib.Core.List.Memᴰ.eq_of_singleton (subst (Memᴰ d) (cond_yes (silent r) (2 ^ 14 ∷ []) asked t) m) in
    subst⁻¹ (λ (x : ℕ). T (has x 14)) e (has-power 14))
    (λ t.
    let w = mathlib.Core.List.Memᴰ.of_map (λ j. 2 ^ partner j) (keep (has r) actions) (subst (Memᴰ d) (cond_no (silent r) (2 ^ 14 ∷ []) asked t) m) in
    let v = keep-elim (has r) w.0 actions w.1 in
    absurd
    (apart w.0 (action-below w.0 v.0) v.1 (subst (λ (x : ℕ). T (has x (partner w.0))) w.2 (has-power (partner w.0)))))
    (dec-T (silent r))
  where
    asked : List ℕ
    asked = map (λ j. 2 ^ partner j) (keep (has r) actions)

-- so has a ready set of the client, of each ready set of the contract
demands-meet : {S : ℕ} {ready : List ℕ} (R : ℕ) → Memᴰ S ready → Memᴰ R (demands_of_all ready) → Apart R S → T (has R 14)
unfolding demands_of_all
demands-meet R (mathlib.Core.List.Memᴰ.head {x = r} {xs = ready} e) m apart =
    let w = combine-elim bit_or R (demands_of r) (demands_of_all ready) m in
    let up : (j : ℕ) → T (has w.0 j) → T (has R j) =
    λ j t. subst (λ (x : ℕ). T (has x j)) w.4 (has-or-left w.0 w.1 j t) in
    up 14 (demand-meets r w.0 w.2 (λ j h s d. apart j h (subst⁻¹ (λ (x : ℕ). T (has x j)) e s) (up (partner j) d)))
demands-meet R (mathlib.Core.List.Memᴰ.tail {x = r} {xs = ready} q) m apart =
    let w = combine-elim bit_or R (demands_of r) (demands_of_all ready) m in
    let up : (j : ℕ) → T (has w.1 j) → T (has R j) =
    λ j t. subst (λ (x : ℕ). T (has x j)) w.4 (has-or-right w.0 w.1 j t) in
    up 14 (demands-meet w.1 q w.3 (λ j h s d. apart j h s (up (partner j) d)))

-- the settled client is content where the contract's state rests
pub content-ready : (mode : Mode) (p : State) → T (is_settled mode && rests p) → demands_at mode p ≡ 2 ^ 14 ∷ []
unfolding demands_at
content-ready mode p t = cond_yes (is_settled mode && rests p) (2 ^ 14 ∷ []) (demands_of_all p.ready) t

pub asking-ready : (mode : Mode) (p : State) → (T (is_settled mode && rests p) → ⊥) → demands_at mode p ≡ demands_of_all p.ready
unfolding demands_at
asking-ready mode p f = cond_no (is_settled mode && rests p) (2 ^ 14 ∷ []) (demands_of_all p.ready) f

-- the same in a mode
ready-meet : (mode : Mode) (p : State) {S : ℕ} (R : ℕ) → Memᴰ S p.ready → Memᴰ R (demands_at mode p) → Apart R S → T (has R 14)
ready-meet mode p R mS mR apart =
    ⊎_elim
    (λ t.
    let e = mathlib.Core.List.Memᴰ.eq_of_singleton (subst (Memᴰ R) (content-ready mode p t) mR) in
    subst⁻¹ (λ (x : ℕ). T (has x 14)) e (has-power 14))
    (λ t. demands-meet R mS (subst (Memᴰ R) (asking-ready mode p t) mR) apart)
    (dec-T (is_settled mode && rests p))

module _ (bad : ℕ → Type 0) where
  -- a bad action of the ready set
  abbrev pub Bad : ℕ → Type 0
  Bad r = (j : ℕ) × (j < 14) × T (has r j) × bad j

  -- the mask has partners of bad actions that the ready sets offer, and nothing else
  abbrev pub OnlyBad : List ℕ → ℕ → Type 0
  OnlyBad ready R = (i : ℕ) → T (has R i) → (j : ℕ) × (j < 14) × (i ≡ partner j) × T (offers_in ready j) × bad j

  pub demands-bad : (ready : List ℕ) → ((r : ℕ) → Memᴰ r ready → Bad r) → (R : ℕ) × Memᴰ R (demands_of_all ready) × OnlyBad ready R
  unfolding demands_of_all offers_in any
  demands-bad [] f = (0, mathlib.Core.List.Memᴰ.head refl, λ i t. absurd (rw (has-none i) at t))
  demands-bad (r ∷ ready) f =
      let w = demands-bad ready (λ x m. f x (mathlib.Core.List.Memᴰ.tail m)) in
      let v = f r (mathlib.Core.List.Memᴰ.head refl) in
      let j = v.0 in
      let asked : Memᴰ (2 ^ partner j) (demands_of r) =
      subst⁻¹ (Memᴰ (2 ^ partner j)) (demands-yes r j v.1 v.2)
      (mathlib.Core.List.Memᴰ.map (λ j. 2 ^ partner j) (keep-intro (has r) (action j v.1) v.2)) in (
        bit_or (2 ^ partner j) w.0,
        combine-intro bit_or asked w.1,
        λ i t.
            ⊎_elim
            (λ u.
            (j, v.1, power-has (partner j) i u, any-intro (λ mask. has mask j) (mathlib.Core.List.Memᴰ.head {x = r} {xs = ready} refl) v.2, v.3))
            (λ u. let z = w.2 i u in (z.0, z.1, z.2, or_right (has r z.0) (any (λ mask. has mask z.0) ready) z.3, z.4))
            (has-or-cases (2 ^ partner j) w.0 i t),
      )

-- ---- its states

module _ (mode : Mode) where
  pub demanding-state : (c : Contract) (q : ℕ) → q < length c.states → state (demanding mode c) q ≡ demanding_state mode (state c q)
  unfolding state demanding
  demanding-state c q h = go c.states q h
    where
      go : (l : List State) (q : ℕ) → q < length l → get_or (map (demanding_state mode) l) q nowhere ≡ demanding_state mode (get_or l q nowhere)
      go [] q h = absurd (omega arith)
      go (s ∷ l) zero h = refl
      go (s ∷ l) (suc q) h = go l q (omega arith)

  -- it goes on as the contract does
  pub demanding-after : (p : State) (j : ℕ) → j < 14 → T (offers (demanding_state mode p) (partner j))
      → after (demanding_state mode p) (partner j) ≡ after p j
  unfolding after offered_below demanding_state offers actions
  demanding-after p j h o =
      kept_result (λ i. after p (partner i)) (offers_in (demands_at mode p)) (partner j) o 14 0
      (omega arith) (omega (arith, partner-action j h))
      ∙ ap (after p) (partner-partner j h)

-- ---- it complies

-- a state with a ready set is one of the contract's
ready-within : (c : Contract) (q S : ℕ) → Memᴰ S (state c q).ready → q < length c.states
unfolding state nowhere
ready-within c q S m = go c.states q m
  where
    go : (l : List State) (q : ℕ) → Memᴰ S (get_or l q nowhere).ready → q < length l
    go [] q m = absurd (mathlib.Core.List.Memᴰ.not-nil m)
    go (s ∷ l) zero m = omega arith
    go (s ∷ l) (suc q) m = omega (arith, go l q m)

module _ (mode : Mode) (c : Contract) where
  -- at a state of the contract
  same-state : (p q : ℕ) → p ≡ q → q < length c.states → state (demanding mode c) p ≡ demanding_state mode (state c q)
  same-state p q e h = ap (state (demanding mode c)) e ∙ demanding-state mode c q h

  -- the pairs met are those of equal states
  demanding-met : {p q : ℕ} → Meet (demanding mode c) c p q → p ≡ q
  demanding-met (met_first e f) = e ∙ sym f
  demanding-met (met_on {p = p} {q = q} j h m a b e f) =
      let d = same-state p q (demanding-met m) (offers-within c q j b) in
      e
      ∙ ap (λ (s : State). after s (partner j)) d
      ∙ demanding-after mode (state c q) j h (subst (λ (s : State). T (offers s (partner j))) d a)
      ∙ sym f

  pub demanding-complies : Complies (demanding mode c) c
  unfolding demanding_state
  demanding-complies p q m R S mR mS apart =
      let d = same-state p q (demanding-met m) (ready-within c q S mS) in
      ready-meet mode (state c q) R mS (subst (λ (s : State). Memᴰ R s.ready) d mR) apart
