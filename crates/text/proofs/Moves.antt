-- What the transitions of a term give, part by part: its ready sets, and what is directly behind an action of it.
-- Assumes nothing.
use mathlib.Core.Path.{◌≡◌, refl, ap, sym, subst, subst⁻¹}
use mathlib.Core.Bool.{Bool, true, false, cond}
use mathlib.Core.Logic.{◌⊎◌, inl, inr, ⊎_elim}
use Prim.Native.Nat.{ℕ, ◌<◌, ◌^◌}
use native.Mathlib.Omega.{arith}
use lib.Pow.{pow-lt}
use borrow.Author.Tests.{ltb-true, ltb-false}
use lib.Dec.{T, ltb}
use lib.Bits.{bit_or, or_lt}
use Rattle.model.specs.Contract.{has}
use Rattle.model.proofs.Bits.{has-or-left, has-or-right, has-or-cases}
use Rattle.model.proofs.Masks.{has-power, power-has}
use Rattle.nodes.specs.Transitions.{Silently, rests, goes_on, Stable, Initial}
use Rattle.nodes.proofs.Sets.{mask-same, not-in-none}
use Rattle.text.specs.Terms.{Term, end, before, plus, inner, loop, name}
use Rattle.text.specs.Transitions.{replaced, Hides, h_left, h_right, h_loop, h_plus_left, h_plus_right, Does, v_before, v_plus_left, v_plus_right}

-- definition 2.5
abbrev pub Ready : Term → ℕ → Type 0
Ready t R = (u : Term) × Silently Hides t u × Stable Hides u × Initial Hides Does u R

-- directly behind an action, internal moves before it
abbrev pub Acts : Term → ℕ → Term → Type 0
Acts t j s = (u : Term) × Silently Hides t u × Does u j s

-- a term without internal moves stays
still : (t w : Term) → Stable Hides t → Silently Hides t w → t ≡ w
still t w h (rests e) = e
still t w h (goes_on {s = s} m r) = absurd (h s m)

-- a stable term has what it does at first as its only ready set
ready-stable : (t : Term) (R : ℕ) → Stable Hides t → Ready t R → Initial Hides Does t R
ready-stable t R h w = subst⁻¹ (λ (u : Term). Initial Hides Does u R) (still t w.0 h w.1) w.3

acts-stable : (t : Term) (j : ℕ) (s : Term) → Stable Hides t → Acts t j s → Does t j s
acts-stable t j s h w = subst⁻¹ (λ (u : Term). Does u j s) (still t w.0 h w.1) w.2

-- two masks of the same term are the same
initial-one : (t : Term) (R S : ℕ) → Initial Hides Does t R → Initial Hides Does t S → R ≡ S
initial-one t R S i k =
    mask-same R S i.0 k.0 (λ j h b. (k.1 j h).1 ((i.1 j h).0 b)) (λ j h b. (i.1 j h).1 ((k.1 j h).0 b))

-- ---- the end

end-stable : Stable Hides end
end-stable s = elim [ ]

end-idle : (j : ℕ) (s : Term) → Does end j s → ⊥
end-idle j s = elim [ ]

end-initial : Initial Hides Does end 0
end-initial = (omega arith, λ j h. ((λ b. absurd (not-in-none j b)), (λ w. absurd (end-idle j w.0 w.1))))

pub end_ready : Ready end 0
end_ready = (end, rests refl, end-stable, end-initial)

pub ready-end : (R : ℕ) → Ready end R → R ≡ 0
ready-end R w = initial-one end R 0 (ready-stable end R end-stable w) end-initial

pub acts-end : (j : ℕ) (s : Term) → Acts end j s → ⊥
acts-end j s w = end-idle j s (acts-stable end j s end-stable w)

-- ---- a prefix

before-stable : (j : ℕ) (t : Term) → Stable Hides (before j t)
before-stable j t s = elim [ ]

before-does : (j : ℕ) (t : Term) (i : ℕ) (s : Term) → Does (before j t) i s → (i ≡ j) × (s ≡ t)
before-does j t i s (v_before k u) = (refl, refl)

pub power_small : (j : ℕ) → j < 14 → 2 ^ j < 16384
power_small j h = pow-lt h

before-initial : (j : ℕ) (t : Term) → j < 14 → Initial Hides Does (before j t) (2 ^ j)
before-initial j t h = (
  power_small j h,
  λ i k. (
    (λ b. (t, subst⁻¹ (λ (x : ℕ). Does (before j t) x t) (power-has j i b) (v_before j t))),
    (λ w. subst⁻¹ (λ (x : ℕ). T (has (2 ^ j) x)) (before-does j t i w.0 w.1).0 (has-power j)),
  ),
)

pub before-ready : (j : ℕ) (t : Term) → j < 14 → Ready (before j t) (2 ^ j)
before-ready j t h = (before j t, rests refl, before-stable j t, before-initial j t h)

pub ready-before : (j : ℕ) (t : Term) → j < 14 → (R : ℕ) → Ready (before j t) R → R ≡ 2 ^ j
ready-before j t h R w = initial-one (before j t) R (2 ^ j) (ready-stable (before j t) R (before-stable j t) w) (before-initial j t h)

pub before-acts : (j : ℕ) (t : Term) → Acts (before j t) j t
before-acts j t = (before j t, rests refl, v_before j t)

pub acts-before : (j : ℕ) (t : Term) (i : ℕ) (s : Term) → Acts (before j t) i s → (i ≡ j) × (s ≡ t)
acts-before j t i s w = before-does j t i s (acts-stable (before j t) i s (before-stable j t) w)

-- ---- external choice

-- the two sides move on their own
split : (t u w : Term) → Silently Hides (plus t u) w → (t' u' : Term) × (w ≡ plus t' u') × Silently Hides t t' × Silently Hides u u'
split t u w (rests e) = (t, u, sym e, rests refl, rests refl)
split t u w (goes_on (h_plus_left a b c s) r) =
    let k = split b u w r in (k.0, k.1, k.2, goes_on s k.3, k.4)
split t u w (goes_on (h_plus_right a b c s) r) =
    let k = split t c w r in (k.0, k.1, k.2, k.3, goes_on s k.4)

lift-left : (u : Term) {t t' : Term} → Silently Hides t t' → Silently Hides (plus t u) (plus t' u)
lift-left u (rests e) = rests (ap (λ (x : Term). plus x u) e)
lift-left u (goes_on {r = r} {s = s} m w) = goes_on (h_plus_left r s u m) (lift-left u w)

lift-both : (t : Term) {t' u u' : Term} → Silently Hides t t' → Silently Hides u u' → Silently Hides (plus t u) (plus t' u')
lift-both t {t'} {u} l (rests e) = subst (λ (x : Term). Silently Hides (plus t u) (plus t' x)) e (lift-left u l)
lift-both t l (goes_on {r = r} {s = s} m w) = goes_on (h_plus_right t r s m) (lift-both t l w)

stable-both : (t u : Term) → Stable Hides t → Stable Hides u → Stable Hides (plus t u)
stable-both t u h g x (h_plus_left a b c s) = h b s
stable-both t u h g x (h_plus_right a b c s) = g c s

does-plus : (t u : Term) (j : ℕ) (s : Term) → Does (plus t u) j s → Does t j s ⊎ Does u j s
does-plus t u j s (v_plus_left a b c d v) = inl v
does-plus t u j s (v_plus_right a b c d v) = inr v

-- "ready sets of + are all unions of one from each side": of two stable sides
plus-initial : (t u : Term) (R S : ℕ) → Initial Hides Does t R → Initial Hides Does u S → Initial Hides Does (plus t u) (bit_or R S)
plus-initial t u R S i k = (
  or_lt 14 R S i.0 k.0,
  λ j h. (
    (λ b. ⊎_elim
        {C = (s : Term) × Does (plus t u) j s}
        (λ c. let w = (i.1 j h).0 c in (w.0, v_plus_left t u j w.0 w.1))
        (λ c. let w = (k.1 j h).0 c in (w.0, v_plus_right t u j w.0 w.1))
        (has-or-cases R S j b)),
    (λ w. ⊎_elim
        (λ d. has-or-left R S j ((i.1 j h).1 (w.0, d)))
        (λ d. has-or-right R S j ((k.1 j h).1 (w.0, d)))
        (does-plus t u j w.0 w.1)),
  ),
)

pub plus_ready : (t u : Term) (R S : ℕ) → Ready t R → Ready u S → Ready (plus t u) (bit_or R S)
plus_ready t u R S w v = (
  plus w.0 v.0,
  lift-both t w.1 v.1,
  stable-both w.0 v.0 w.2 v.2,
  plus-initial w.0 v.0 R S w.3 v.3,
)

stable-left : (t u : Term) → Stable Hides (plus t u) → Stable Hides t
stable-left t u h x s = h (plus x u) (h_plus_left t x u s)

stable-right : (t u : Term) → Stable Hides (plus t u) → Stable Hides u
stable-right t u h x s = h (plus t x) (h_plus_right t u x s)

-- what a term does at once, as a mask
at_once : Term → ℕ
at_once end = 0
at_once (before j t) = cond (ltb j 14) (2 ^ j) 0
at_once (plus t u) = bit_or (at_once t) (at_once u)
at_once (inner t u) = 0
at_once (loop v t) = 0
at_once (name v) = 0

idle-initial : (t : Term) → ((j : ℕ) (s : Term) → Does t j s → ⊥) → Initial Hides Does t 0
idle-initial t f = (omega arith, λ j h. ((λ b. absurd (not-in-none j b)), (λ w. absurd (f j w.0 w.1))))

once-initial : (t : Term) → Initial Hides Does t (at_once t)
unfolding at_once
once-initial end = end-initial
once-initial (before j t) = go (ltb j 14) refl
  where
    go : (b : Bool) → ltb j 14 ≡ b → Initial Hides Does (before j t) (cond b (2 ^ j) 0)
    go true e = before-initial j t (ltb-true j 14 e)
    go false e = (
      omega arith,
      λ i h. (
        (λ b. absurd (not-in-none i b)),
        (λ w. absurd (let k = (before-does j t i w.0 w.1).0 in omega (arith, ltb-false j 14 e))),
      ),
    )
once-initial (plus t u) = plus-initial t u (at_once t) (at_once u) (once-initial t) (once-initial u)
once-initial (inner t u) = idle-initial (inner t u) (λ j s. elim [ ])
once-initial (loop v t) = idle-initial (loop v t) (λ j s. elim [ ])
once-initial (name v) = idle-initial (name v) (λ j s. elim [ ])

-- "ready sets of + are all unions of one from each side"
pub ready-plus : (t u : Term) (R : ℕ) → Ready (plus t u) R → (S Z : ℕ) × Ready t S × Ready u Z × (R ≡ bit_or S Z)
unfolding at_once
ready-plus t u R w =
    let k = split t u w.0 w.1 in
    let h : Stable Hides (plus k.0 k.1) = subst (Stable Hides) k.2 w.2 in
    let i : Initial Hides Does (plus k.0 k.1) R = subst (λ (x : Term). Initial Hides Does x R) k.2 w.3 in (
      at_once k.0,
      at_once k.1,
      (k.0, k.3, stable-left k.0 k.1 h, once-initial k.0),
      (k.1, k.4, stable-right k.0 k.1 h, once-initial k.1),
      initial-one (plus k.0 k.1) R (bit_or (at_once k.0) (at_once k.1)) i (once-initial (plus k.0 k.1)),
    )

-- ---- internal choice

inner-moves : (t u s : Term) → Hides (inner t u) s → (s ≡ t) ⊎ (s ≡ u)
inner-moves t u s (h_left a b) = inl refl
inner-moves t u s (h_right a b) = inr refl

inner-does : (t u : Term) (j : ℕ) (s : Term) → Does (inner t u) j s → ⊥
inner-does t u j s = elim [ ]

-- it moves on to one of its sides before anything else
inner_first : (t u w : Term) → Silently Hides (inner t u) w → (inner t u ≡ w) ⊎ (Silently Hides t w ⊎ Silently Hides u w)
inner_first t u w (rests e) = inl e
inner_first t u w (goes_on {s = s} m r) =
    inr (⊎_elim {C = Silently Hides t w ⊎ Silently Hides u w}
    (λ e. inl (subst (λ (x : Term). Silently Hides x w) e r))
    (λ e. inr (subst (λ (x : Term). Silently Hides x w) e r))
    (inner-moves t u s m))

pub inner_ready : (t u : Term) (R : ℕ) → Ready t R ⊎ Ready u R → Ready (inner t u) R
inner_ready t u R (inl w) = (w.0, goes_on (h_left t u) w.1, w.2, w.3)
inner_ready t u R (inr w) = (w.0, goes_on (h_right t u) w.1, w.2, w.3)

pub ready-inner : (t u : Term) (R : ℕ) → Ready (inner t u) R → Ready t R ⊎ Ready u R
ready-inner t u R w =
    ⊎_elim {C = Ready t R ⊎ Ready u R}
    (λ e. absurd (subst⁻¹ (Stable Hides) e w.2 t (h_left t u)))
    (⊎_elim {C = Ready t R ⊎ Ready u R} (λ r. inl (w.0, r, w.2, w.3)) (λ r. inr (w.0, r, w.2, w.3)))
    (inner_first t u w.0 w.1)

pub inner-acts : (t u : Term) (j : ℕ) (s : Term) → Acts t j s ⊎ Acts u j s → Acts (inner t u) j s
inner-acts t u j s (inl w) = (w.0, goes_on (h_left t u) w.1, w.2)
inner-acts t u j s (inr w) = (w.0, goes_on (h_right t u) w.1, w.2)

pub acts-inner : (t u : Term) (j : ℕ) (s : Term) → Acts (inner t u) j s → Acts t j s ⊎ Acts u j s
acts-inner t u j s w =
    ⊎_elim {C = Acts t j s ⊎ Acts u j s}
    (λ e. absurd (inner-does t u j s (subst⁻¹ (λ (x : Term). Does x j s) e w.2)))
    (⊎_elim {C = Acts t j s ⊎ Acts u j s} (λ r. inl (w.0, r, w.2)) (λ r. inr (w.0, r, w.2)))
    (inner_first t u w.0 w.1)

-- ---- external choice, what is behind it

pub plus-acts : (t u : Term) (j : ℕ) (s : Term) → Acts t j s ⊎ Acts u j s → Acts (plus t u) j s
plus-acts t u j s (inl w) = (plus w.0 u, lift-left u w.1, v_plus_left w.0 u j s w.2)
plus-acts t u j s (inr w) = (plus t w.0, lift-both t (rests refl) w.1, v_plus_right t w.0 j s w.2)

pub acts-plus : (t u : Term) (j : ℕ) (s : Term) → Acts (plus t u) j s → Acts t j s ⊎ Acts u j s
acts-plus t u j s w =
    let k = split t u w.0 w.1 in
    ⊎_elim {C = Acts t j s ⊎ Acts u j s} (λ d. inl (k.0, k.3, d)) (λ d. inr (k.1, k.4, d))
    (does-plus k.0 k.1 j s (subst (λ (x : Term). Does x j s) k.2 w.2))

-- ---- rec

loop-moves : (v : ℕ) (t s : Term) → Hides (loop v t) s → s ≡ replaced v (loop v t) t
loop-moves v t s (h_loop w u) = refl

loop-does : (v : ℕ) (t : Term) (j : ℕ) (s : Term) → Does (loop v t) j s → ⊥
loop-does v t j s = elim [ ]

loop-first : (v : ℕ) (t w : Term) → Silently Hides (loop v t) w → (loop v t ≡ w) ⊎ Silently Hides (replaced v (loop v t) t) w
loop-first v t w (rests e) = inl e
loop-first v t w (goes_on {s = s} m r) = inr (subst (λ (x : Term). Silently Hides x w) (loop-moves v t s m) r)

pub loop-ready : (v : ℕ) (t : Term) (R : ℕ) → Ready (replaced v (loop v t) t) R → Ready (loop v t) R
loop-ready v t R w = (w.0, goes_on (h_loop v t) w.1, w.2, w.3)

pub ready-loop : (v : ℕ) (t : Term) (R : ℕ) → Ready (loop v t) R → Ready (replaced v (loop v t) t) R
ready-loop v t R w =
    ⊎_elim {C = Ready (replaced v (loop v t) t) R}
    (λ e. absurd (subst⁻¹ (Stable Hides) e w.2 (replaced v (loop v t) t) (h_loop v t)))
    (λ r. (w.0, r, w.2, w.3))
    (loop-first v t w.0 w.1)

pub loop-acts : (v : ℕ) (t : Term) (j : ℕ) (s : Term) → Acts (replaced v (loop v t) t) j s → Acts (loop v t) j s
loop-acts v t j s w = (w.0, goes_on (h_loop v t) w.1, w.2)

pub acts-loop : (v : ℕ) (t : Term) (j : ℕ) (s : Term) → Acts (loop v t) j s → Acts (replaced v (loop v t) t) j s
acts-loop v t j s w =
    ⊎_elim {C = Acts (replaced v (loop v t) t) j s}
    (λ e. absurd (loop-does v t j s (subst⁻¹ (λ (x : Term). Does x j s) e w.2)))
    (λ r. (w.0, r, w.2))
    (loop-first v t w.0 w.1)
