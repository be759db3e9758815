-- "Unused names have 0": in a reached situation no message waits whose name is none of the contracts'.
-- Assumes nothing.
use mathlib.Core.Path.{◌≡◌, sym, ap, subst⁻¹, ◌∙◌}
use mathlib.Core.Bool.{Bool, true, false, cond}
use mathlib.Core.Logic.{◌≢◌}
use mathlib.Core.List.{List}
use mathlib.Core.Option.{Option, some, some-injective, none-ne-some}
use Prim.Native.Nat.{ℕ, suc, ◌-◌, ◌≤◌, ◌<◌}
use native.Mathlib.Omega.{arith}
use lib.ListN.{get_or, set, get_or-replicate}
use lib.Seq.{get_or-set_other}
use lib.Dec.{T, ltb}
use Rattle.model.specs.Contract.{Contract, name, takes, state}
use Rattle.model.specs.Situation.{Situation, start, alike, Kind, straight, client, service, stray, kind_of, raised, lowered, buffer_after, offered, next}
use Rattle.model.specs.Search.{at_start, by_move}
use Rattle.model.specs.Demands.{IsReached}
use Rattle.model.proofs.Lists.{cond-some}
use Rattle.model.proofs.Ranges.{OfAction, kind-action}
use Rattle.model.proofs.Moves.{enabled}
use Rattle.model.proofs.Sheet.{WellFormed}

-- a count of another action stays
module _ (limits b b' : List ℕ) (i j : ℕ) (other : i ≢ j) where
  raised-other : raised limits b j ≡ some b' → get_or b' i 0 ≡ get_or b i 0
  unfolding raised
  raised-other e =
      let w = cond-some (ltb (get_or b j 0) (get_or limits j 0)) (some (set b j (suc (get_or b j 0)))) b' e in
      ap (λ (l : List ℕ). get_or l i 0) (sym (some-injective (set b j (suc (get_or b j 0))) b' w.1)) ∙ get_or-set_other b j i (suc (get_or b j 0)) 0 other

  lowered-other : lowered b j ≡ some b' → get_or b' i 0 ≡ get_or b i 0
  unfolding lowered
  lowered-other e =
      let w = cond-some (ltb 0 (get_or b j 0)) (some (set b j (get_or b j 0 - 1))) b' e in
      ap (λ (l : List ℕ). get_or l i 0) (sym (some-injective (set b j (get_or b j 0 - 1)) b' w.1)) ∙ get_or-set_other b j i (get_or b j 0 - 1) 0 other

  either-other : (t : Bool) (o p : Option (List ℕ)) → (o ≡ some b' → get_or b' i 0 ≡ get_or b i 0) → (p ≡ some b' → get_or b' i 0 ≡ get_or b i 0)
      → cond t o p ≡ some b' → get_or b' i 0 ≡ get_or b i 0
  either-other true o p f g e = f e
  either-other false o p f g e = g e

module _ (k : ℕ) (σ τ : Contract) (σ-formed : WellFormed σ) (τ-formed : WellFormed τ) (same-n : σ.n ≡ τ.n) (i : ℕ) (action : i < 14) (beyond : σ.n ≤ name i) where
  -- an action of the contracts is another one
  another : (j : ℕ) → name j < σ.n → i ≢ j
  another j h e = absurd (omega (arith, beyond, h, ap name e))

  stays : (s : Situation) (b' : List ℕ) (kind : Kind) → OfAction kind → T (offered (state σ s.old) (state τ s.new) kind)
      → buffer_after (alike k) s.buffer kind ≡ some b' → get_or b' i 0 ≡ get_or s.buffer i 0
  unfolding offered buffer_after
  stays s b' (straight j) h o e = ap (λ (l : List ℕ). get_or l i 0) (sym (some-injective s.buffer b' e))
  stays s b' (client j) h o e =
      let n = another j (σ-formed.named s.old j h o) in
      either-other (alike k) s.buffer b' i j n (takes j) (raised (alike k) s.buffer j) (lowered s.buffer j)
      (raised-other (alike k) s.buffer b' i j n) (lowered-other (alike k) s.buffer b' i j n) e
  stays s b' (service j) h o e =
      let n = another j (omega (arith, τ-formed.named s.new j h o, same-n)) in
      either-other (alike k) s.buffer b' i j n (takes j) (lowered s.buffer j) (raised (alike k) s.buffer j)
      (lowered-other (alike k) s.buffer b' i j n) (raised-other (alike k) s.buffer b' i j n) e
  stays s b' stray h o e = absurd (none-ne-some b' e)

  -- the count of an action whose name is beyond those of the contracts
  pub unused-empty : {s : Situation} → IsReached k σ τ s → get_or s.buffer i 0 ≡ 0
  unfolding start next
  unused-empty (at_start e) = subst⁻¹ (λ (s : Situation). get_or s.buffer i 0 ≡ 0) e (get_or-replicate 14 i 0 0 action)
  unused-empty (by_move {s = s} {t = t} code m x r) =
      let w = enabled (alike k) σ τ s t (kind_of code) x in
      stays s t.buffer (kind_of code) (kind-action code) w.offers w.counts ∙ unused-empty r
