-- The buffer's step of document 01 is the paper's, kept within the limits.
-- Assumes nothing.
use mathlib.Core.Path.{◌≡◌, refl, ◌∙◌}
use mathlib.Core.Bool.{Bool, true, false, cond}
use mathlib.Core.Option.{none, some, some-injective}
use mathlib.Core.List.{List}
use Prim.Native.Nat.{ℕ, zero, suc, ◌≤◌, ◌<◌}
use native.Mathlib.Omega.{arith}
use lib.ListN.{length, get_or, set, replicate}
use lib.Seq.{get_or-set_same}
use lib.Dec.{ltb, lt→ltb}
use Rattle.model.specs.Contract.{takes}
use Rattle.model.specs.Situation.{client, service, start, raised, lowered, buffer_after}
use Rattle.model.specs.Weak.{Rank, more, client_effect, service_effect}
use Rattle.model.proofs.Lists.{cond-some, cond_yes}
use Rattle.model.proofs.Moves.{rank-kept}

module _ (limits : List ℕ) where
  pub rank-start : Rank limits start.buffer
  unfolding start
  rank-start = record { size = refl; bounded = λ i. zeros 14 i (get_or limits i 0) }
    where
      zeros : (n i x : ℕ) → get_or (replicate n 0) i 0 ≤ x
      zeros zero i x = omega arith
      zeros (suc n) zero x = omega arith
      zeros (suc n) (suc i) x = zeros n i x

  module _ (b b' : List ℕ) (i : ℕ) (r : Rank limits b) where
    raised-more : raised limits b i ≡ some b' → more b i ≡ some b'
    unfolding raised more
    raised-more e = (cond-some (ltb (get_or b i 0) (get_or limits i 0)) (some (set b i (suc (get_or b i 0)))) b' e).1

    raised-back : i < 14 → more b i ≡ some b' → Rank limits b' → raised limits b i ≡ some b'
    unfolding raised more
    raised-back h e r' =
        let q : set b i (suc (get_or b i 0)) ≡ b' = some-injective (set b i (suc (get_or b i 0))) b' e in
        let n : get_or (set b i (suc (get_or b i 0))) i 0 ≤ get_or limits i 0 = rw q (r'.bounded i) in
        let z : i < length b = rw r.size h in
        let n' : suc (get_or b i 0) ≤ get_or limits i 0 = rw (get_or-set_same b i (suc (get_or b i 0)) 0 z) at n in
        cond_yes (ltb (get_or b i 0) (get_or limits i 0)) (some (set b i (suc (get_or b i 0)))) none (lt→ltb (get_or b i 0) (get_or limits i 0) n') ∙ e

    -- with the client alone, from document 01 to the paper and back
    pub client-rank : buffer_after limits b (client i) ≡ some b' → (client_effect b i ≡ some b') × Rank limits b'
    unfolding buffer_after client_effect
    client-rank e = (go (takes i) e, rank-kept limits b b' (client i) e r)
      where
        go : (t : Bool) → cond t (raised limits b i) (lowered b i) ≡ some b' → cond t (more b i) (lowered b i) ≡ some b'
        go true e = raised-more e
        go false e = e

    pub client-back : i < 14 → client_effect b i ≡ some b' → Rank limits b' → buffer_after limits b (client i) ≡ some b'
    unfolding buffer_after client_effect
    client-back h = go (takes i)
      where
        go : (t : Bool) → cond t (more b i) (lowered b i) ≡ some b' → Rank limits b' → cond t (raised limits b i) (lowered b i) ≡ some b'
        go true e r' = raised-back h e r'
        go false e r' = e

    -- with the service alone
    pub service-rank : buffer_after limits b (service i) ≡ some b' → (service_effect b i ≡ some b') × Rank limits b'
    unfolding buffer_after service_effect
    service-rank e = (go (takes i) e, rank-kept limits b b' (service i) e r)
      where
        go : (t : Bool) → cond t (lowered b i) (raised limits b i) ≡ some b' → cond t (lowered b i) (more b i) ≡ some b'
        go true e = e
        go false e = raised-more e

    pub service-back : i < 14 → service_effect b i ≡ some b' → Rank limits b' → buffer_after limits b (service i) ≡ some b'
    unfolding buffer_after service_effect
    service-back h = go (takes i)
      where
        go : (t : Bool) → cond t (lowered b i) (more b i) ≡ some b' → Rank limits b' → cond t (lowered b i) (raised limits b i) ≡ some b'
        go true e r' = e
        go false e r' = raised-back h e r'
