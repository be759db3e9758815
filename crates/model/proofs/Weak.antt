-- Relations of definition 3.7 of Padovani 2010 are exactly the relations on ranked situations that are closed under document
-- 01's moves and what is asked of them; so what the rounds keep is the largest of them among the reached situations, for any test that computes
-- what is asked.
-- Assumes nothing.
use mathlib.Core.Path.{◌≡◌, refl, sym, subst, subst⁻¹, ◌∙◌}
use mathlib.Core.Bool.{Bool}
use mathlib.Core.Option.{Option, some, some-injective}
use mathlib.Core.List.Memᴰ
use mathlib.Core.List.{List, [], Memᴰ}
use Prim.Native.Nat.{ℕ, ◌+◌, ◌<◌}
use lib.Dec.{T}
use Rattle.model.specs.Contract.{Contract, state, offers, after}
use Rattle.model.specs.Situation.{Situation, straight, client, service, kind_of, start, same, codes, buffer_after, offered, old_after, new_after, next}
use Rattle.model.specs.Search.{Reached, at_start, by_move, search_from}
use Rattle.model.specs.Rounds.{Sifted, sifted}
use Rattle.model.specs.Weak.{Rank, client_effect, service_effect, Weak, IsWeak, Largest}
use Rattle.model.proofs.Lists.{and_both, and-of}
use Rattle.model.proofs.Rounds.{Step, Closed, sifted-closed, sifted-largest, sifted-from}
use Rattle.model.proofs.Search.{search-inv, search-all}
use Rattle.model.proofs.Situation.{is_same, code-straight, code-client, code-service, code-elim, kind-straight, kind-client, kind-service, behind, next-elim, next-intro}
use Rattle.model.proofs.Test.{Computes, rounds-test}
use Rattle.model.proofs.Moves.{rank-kept, InStates, next-within}
use Rattle.model.proofs.Sheet.{WellFormed}
use Rattle.model.proofs.Rank.{rank-start, client-rank, client-back, service-rank, service-back}

module _ (limits : List ℕ) (old new : Contract) where
  abbrev nx : Situation → ℕ → Option Situation
  nx = next limits old new

  -- ---- what is reached is within the limits

  rank-next : (s t : Situation) (c : ℕ) → Memᴰ c codes → nx s c ≡ some t → Rank limits s.buffer → Rank limits t.buffer
  rank-next s t c m e r =
      let y = (next-elim limits old new s c (kind_of c) t refl e).1 in
      subst (λ (t : Situation). Rank limits t.buffer) y.2 (rank-kept limits s.buffer y.0 (kind_of c) y.1 r)

  pub rank-reached : {s : Situation} → Reached codes nx start s → Rank limits s.buffer
  rank-reached (at_start e) = subst⁻¹ (λ (t : Situation). Rank limits t.buffer) e (rank-start limits)
  rank-reached (by_move {s = s} {t = t} c m q r) = rank-next s t c m q (rank-reached r)

  -- ---- and within the states

  pub reached-within : WellFormed old → WellFormed new → {s : Situation} → Reached codes nx start s → InStates old new s
  unfolding start
  reached-within f g (at_start e) = subst⁻¹ (InStates old new) e (f.some-state, g.some-state)
  reached-within f g (by_move {s = s} {t = t} c m q r) = next-within old new f.closed g.closed s (reached-within f g r) limits t c q

  -- ---- what a whole search finds is reached

  pub is-reached : (limit : ℕ) → (search_from same codes nx limit start).todo ≡ [] → (s : Situation)
      → Memᴰ s (search_from same codes nx limit start).done → Reached codes nx start s
  is-reached limit whole s m =
      (search-inv same is_same codes nx start limit).found s (Memᴰ.append_left (search_from same codes nx limit start).todo m)

  -- of a set A, the codes of enabled moves
  abbrev Enabled : (ℕ → Type 0) → Situation → ℕ → Type 0
  Enabled A s c = A c × Memᴰ c codes × ((t : Situation) × (nx s c ≡ some t))

  module _ (asks : (ℕ → Type 0) → Situation → Type 0) where
    -- ---- from closed relations to definition 3.7

    module _ {ℓ} (W : Situation → Type ℓ) (s : Situation) (r : Rank limits s.buffer) (st : Step codes (nx) asks W s) where
      by-straight : (j : ℕ) → j < 14 → st.acts j
          → T (offers (state old s.old) j) × W (record { buffer = s.buffer; old = after (state old s.old) j; new = after (state new s.new) j })
      unfolding offered buffer_after old_after new_after
      by-straight j h a =
          let x = st.leads j a in
          let y = next-elim limits old new s j (straight j) x.0 (kind-straight j h) x.1 in
          let e = some-injective s.buffer y.1.0 y.1.1 in (
            (and_both (offers (state old s.old) j) (offers (state new s.new) j) y.0).0,
            subst⁻¹ (λ (b : List ℕ). W (behind limits old new s b (straight j))) e (subst⁻¹ W y.1.2 x.2),
          )

      by-client : (j : ℕ) → j < 14 → st.acts (16 + j)
          → T (offers (state old s.old) j)
          × ((b : List ℕ) × (client_effect s.buffer j ≡ some b) × Rank limits b × W (record { buffer = b; old = after (state old s.old) j; new = s.new }))
      unfolding offered old_after new_after
      by-client j h a =
          let x = st.leads (16 + j) a in
          let y = next-elim limits old new s (16 + j) (client j) x.0 (kind-client j h) x.1 in
          let z = client-rank limits s.buffer y.1.0 j r y.1.1 in
          (y.0, (y.1.0, z.0, z.1, subst⁻¹ W y.1.2 x.2))

      by-service : (j : ℕ) → j < 14 → st.acts (32 + j)
          → (b : List ℕ) × (service_effect s.buffer j ≡ some b) × Rank limits b × W (record { buffer = b; old = s.old; new = after (state new s.new) j })
      unfolding offered old_after new_after
      by-service j h a =
          let x = st.leads (32 + j) a in
          let y = next-elim limits old new s (32 + j) (service j) x.0 (kind-service j h) x.1 in
          let z = service-rank limits s.buffer y.1.0 j r y.1.1 in
          (y.1.0, z.0, z.1, subst⁻¹ W y.1.2 x.2)

      pub step-weak : Weak limits old new asks W s
      step-weak =
          record {
            rank = r;
            acts = st.acts;
            client_enabled = λ j h a. let x = (by-client j h a).1 in (x.0, x.1, x.2);
            service_enabled = λ j h a. let x = by-service j h a in (x.0, x.1, x.2);
            passes = st.passes;
            straight_leads = λ j h o a. by-straight j h a;
            client_leads = λ j b h a e.
                let v = by-client j h a in
                let x = v.1 in
                let q : x.0 ≡ b = some-injective x.0 b (sym x.1 ∙ e) in
                (v.0, subst (λ (b : List ℕ). W (record { buffer = b; old = after (state old s.old) j; new = s.new })) q x.3);
            service_leads = λ j b h o a e.
                let x = by-service j h a in
                let q : x.0 ≡ b = some-injective x.0 b (sym x.1 ∙ e) in
                subst (λ (b : List ℕ). W (record { buffer = b; old = s.old; new = after (state new s.new) j })) q x.3;
          }

  -- with a test that computes what is asked
  module _ (passes : List ℕ → Situation → Bool) (asks : (ℕ → Type 0) → Situation → Type 0) (computes : Computes new passes asks) where
    -- ---- and back

    module _ {ℓ} (W : Situation → Type ℓ) (s : Situation) (w : Weak limits old new asks W s) where
      to-straight : (j : ℕ) → j < 14 → T (offers (state new s.new) j) → w.acts j → Enabled w.acts s j
      unfolding offered buffer_after
      to-straight j h o a =
          let both = and-of (offers (state old s.old) j) (offers (state new s.new) j) (w.straight_leads j h o a).0 o in
          (a, code-straight j h, (_, next-intro limits old new s j (straight j) s.buffer (kind-straight j h) both refl))

      to-client : (j : ℕ) → j < 14 → w.acts (16 + j) → Enabled w.acts s (16 + j)
      unfolding offered
      to-client j h a =
          let b = w.client_enabled j h a in
          let o = (w.client_leads j b.0 h a b.1).0 in
          let e = client-back limits s.buffer b.0 j w.rank h b.1 b.2 in
          (a, code-client j h, (_, next-intro limits old new s (16 + j) (client j) b.0 (kind-client j h) o e))

      to-service : (j : ℕ) → j < 14 → T (offers (state new s.new) j) → w.acts (32 + j) → Enabled w.acts s (32 + j)
      unfolding offered
      to-service j h o a =
          let b = w.service_enabled j h a in
          let e = service-back limits s.buffer b.0 j w.rank h b.1 b.2 in
          (a, code-service j h, (_, next-intro limits old new s (32 + j) (service j) b.0 (kind-service j h) o e))

      -- what is asked holds of the enabled ones alone
      enabled-asks : asks (Enabled w.acts s) s
      enabled-asks =
          computes.grows w.acts (Enabled w.acts s) s (record { straight = to-straight; client = to-client; service = to-service }) w.passes

      -- condition (2), by the range of the code
      leads-on : (t : Situation) (c : ℕ) → Memᴰ c codes → w.acts c → nx s c ≡ some t → W t
      unfolding offered buffer_after old_after new_after
      leads-on t =
          code-elim (λ (c : ℕ). w.acts c → nx s c ≡ some t → W t)
          (λ j h a e.
          let x = next-elim limits old new s j (straight j) t (kind-straight j h) e in
          let o = (and_both (offers (state old s.old) j) (offers (state new s.new) j) x.0).1 in
          let y = x.1 in
          subst W y.2 (subst (λ (b : List ℕ). W (behind limits old new s b (straight j))) (some-injective s.buffer y.0 y.1) (w.straight_leads j h o a).1))
          (λ j h a e.
          let y = (next-elim limits old new s (16 + j) (client j) t (kind-client j h) e).1 in
          subst W y.2 (w.client_leads j y.0 h a (client-rank limits s.buffer y.0 j w.rank y.1).0).1)
          (λ j h a e.
          let x = next-elim limits old new s (32 + j) (service j) t (kind-service j h) e in
          let y = x.1 in
          subst W y.2 (w.service_leads j y.0 h x.0 a (service-rank limits s.buffer y.0 j w.rank y.1).0))

      weak-step : Step codes (nx) asks W s
      weak-step =
          record {
            acts = Enabled w.acts s;
            passes = enabled-asks;
            known = λ c a. a.1;
            leads = λ c a. let t = a.2 in (t.0, t.1, leads-on t.0 c a.1 a.0 t.1);
          }

    pub weak-closed {ℓ} : (W : Situation → Type ℓ) → IsWeak limits old new asks W → Closed codes (nx) asks W
    weak-closed W f s w = weak-step W s (f s w)

    -- ---- what the rounds keep of a whole search

    module _ (limit : ℕ) (whole : (search_from same codes nx limit start).todo ≡ []) where
      abbrev reached : List Situation
      reached = (search_from same codes nx limit start).done

      abbrev left : Sifted Situation
      left = sifted same codes nx passes reached

      -- it is a relation of definition 3.7
      pub kept-weak : IsWeak limits old new asks (λ (s : Situation). Memᴰ s left.kept)
      kept-weak s m =
          step-weak asks (λ (s : Situation). Memᴰ s left.kept) s
          (rank-reached (is-reached limit whole s (sifted-from same is_same codes nx passes reached s m)))
          (sifted-closed same is_same codes nx passes asks (rounds-test computes) reached s m)

      -- it holds the reached situations of every such relation
      pub kept-largest {ℓ} : (W : Situation → Type ℓ) → IsWeak limits old new asks W → (s : Situation) → Reached codes nx start s → W s → Memᴰ s left.kept
      kept-largest W f s r w =
          sifted-largest same is_same codes nx passes asks (rounds-test computes) W (weak-closed W f) reached
          (λ a c t m q e. search-all same is_same codes nx start limit whole t (by_move c q e (is-reached limit whole a m)))
          s (search-all same is_same codes nx start limit whole s r) w

      pub kept-is-largest : (s : Situation) → Memᴰ s left.kept → Largest limits old new asks s
      kept-is-largest s m = ((λ s. Memᴰ s left.kept), kept-weak, m)

      pub largest-is-kept : (s : Situation) → Reached codes nx start s → Largest limits old new asks s → Memᴰ s left.kept
      largest-is-kept s r w = kept-largest w.0 w.1 s r w.2
