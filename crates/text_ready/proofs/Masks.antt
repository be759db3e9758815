-- The ready sets of a place are masks, and the family that holds only the empty mask, joined with them, holds these and no others.
-- Assumes nothing.
use mathlib.Core.Path.{◌≡◌, sym, ap, subst, subst⁻¹, ◌∙◌}
use mathlib.Core.Logic.{◌↔◌, ⊎_elim}
use mathlib.Core.List.Memᴰ
use mathlib.Core.List.{List, [], ◌∷◌, ◌++◌, Memᴰ}
use Prim.Native.Nat.{ℕ, zero, suc, ◌+◌, ◌*◌, ◌<◌, ◌≤◌}
use native.Mathlib.Omega.{arith}
use native.Mathlib.Nat.{eq-or-lt_of_le}
use lib.ListN.{length, get_or, take, drop}
use lib.Dec.{T, eqb, eqb→eq}
use lib.Bits.{bit_or, or_zero_l, or_lt}
use lib.Pow.{pow-lt}
use Rattle.model.specs.Lists.{combine, upto, Ascending}
use Rattle.model.proofs.Lists.{combine-elim, keep-intro, keep-elim}
use Rattle.model.proofs.Actions.{mem-upto, upto-mem}
use Rattle.model.proofs.Ordered.{keep-ascends, ascending-same}
use Rattle.nodes.specs.Sets.{sorted}
use Rattle.nodes.proofs.Sets.{not-in-none, sorted-intro, sorted-elim, sorted-ascends}
use Rattle.families.specs.Families.{in_family, masks_of}
use Rattle.text.specs.Places.{Sense, sense_at}
use Rattle.text.specs.Cells.{Ends, at_end, at_prefix, at_choice, at_variable, Explained, cell_at, unpacked}
use Rattle.text_ready.specs.Joined.{Union}
use Rattle.text_ready.specs.Ready.{Holds, Held, ready_by, JoinedBy}
use Rattle.text_ready.proofs.Settled.{ready-place, ready-body}

-- ---- ready sets are masks

-- all numbers of a list are masks
abbrev Small : List ℕ → Type 0
Small l = (m : ℕ) → Memᴰ m l → m < 16384

one-small : (x : ℕ) → x < 16384 → Small (x ∷ [])
one-small x h m q = subst⁻¹ (λ (y : ℕ). y < 16384) (Memᴰ.eq_of_singleton q) h

either-small : (l r : List ℕ) → Small l → Small r → Small (l ++ r)
either-small l r a b m q = ⊎_elim (λ i. a m i) (λ i. b m i) (Memᴰ.append_cases l q)

unions-small : (l r : List ℕ) → Small l → Small r → Small (combine bit_or l r)
unions-small l r a b m q =
    let c = combine-elim bit_or m l r q in
    subst (λ (y : ℕ). y < 16384) c.4 (or_lt 14 c.0 c.1 (a c.0 c.2) (b c.1 c.3))

kind-small : (x : ℕ) → (unpacked x).kind < 16
unfolding unpacked
kind-small x = omega arith

module _ (cells bodies : List ℕ) (senses : List Sense) (x : Explained cells bodies senses) where
  choice-small : (p : ℕ) → 0 < p → p < 256 → p < length cells → 14 ≤ (cell_at cells bodies p).kind
      → Small (ready_by cells bodies senses (cell_at cells bodies p).left)
      → Small (ready_by cells bodies senses (cell_at cells bodies p).right)
      → Small (ready_by cells bodies senses p)
  unfolding cell_at ready_by
  choice-small p some small inside choice l r =
      ⊎_elim
      (λ (e : 14 ≡ (cell_at cells bodies p).kind).
      subst⁻¹ Small (ready-place cells bodies senses p small ∙ x.plus_ready p some inside (sym e)) (unions-small _ _ l r))
      (λ (h : 14 < (cell_at cells bodies p).kind).
      let e : (cell_at cells bodies p).kind ≡ 15 = omega (arith, h, kind-small (get_or cells p 0)) in
      subst⁻¹ Small (ready-place cells bodies senses p small ∙ x.inner_ready p some inside e) (either-small _ _ l r))
      (eq-or-lt_of_le choice)

  pub ready-small : {b link : ℕ} → Ends cells bodies b link → Small (ready_by cells bodies senses link)
  ready-small (at_end b) =
      subst⁻¹ Small (ready-place cells bodies senses 0 (omega arith) ∙ x.end_ready) (one-small 0 (omega arith))
  ready-small (at_prefix b p some small inside prefix) =
      subst⁻¹ Small (ready-place cells bodies senses p small ∙ x.prefix_ready p some inside prefix) (one-small _ (pow-lt prefix))
  ready-small (at_choice b p some small inside choice lf rf le re) =
      choice-small p some small inside choice (ready-small le) (ready-small re)
  ready-small (at_variable b r h i small d) = subst⁻¹ Small (ready-body cells bodies senses r small) (ready-small d)

-- ---- the masks of the family

upto-ascends : (first count : ℕ) → Ascending first (upto first count)
unfolding upto
upto-ascends first zero = tt
upto-ascends first (suc count) = (omega arith, upto-ascends (suc first) count)

-- the masks of a family that holds a list, in order
masks-held : (family l : List ℕ) → Holds family l → Small l → masks_of family ≡ sorted l
unfolding masks_of
masks-held family l holds small =
    ascending-same 0 0 (masks_of family) (sorted l) (keep-ascends (in_family family) 0 (upto 0 16384) (upto-ascends 0 16384))
    (sorted-ascends l)
    (λ m q. let w = keep-elim (in_family family) m (upto 0 16384) q in sorted-intro ((holds m (upto-mem 16384 0 m w.0)).0 w.1))
    (λ m q.
    let i = sorted-elim m l q in
    let h = small m i in
    keep-intro (in_family family) (mem-upto 16384 0 m (omega arith) h) ((holds m h).1 i))

module _ (cells bodies held : List ℕ) {link bound recs' : ℕ} {family family' : List ℕ} (ends : Ends cells bodies bound link)
    (only : (m : ℕ) → m < 16384 → in_family family m ≡ eqb m 0) (joined : JoinedBy cells bodies held link 0 family family' recs')
    (senses : List Sense) (x : Explained cells bodies senses) (k : Held cells bodies senses held) where
  -- the empty mask alone, joined with ready sets: these and no others
  pub holds-ready : Holds family' (ready_by cells bodies senses link)
  holds-ready m h = (there, back)
    where
      ready : List ℕ
      ready = ready_by cells bodies senses link

      union : T (in_family family' m) ↔ Union (in_family family) ready m
      union = joined.joined senses x k (λ r h t. absurd (not-in-none r t)) m h

      there : T (in_family family' m) → Memᴰ m ready
      there t =
          let u = union.0 t in
          let none : u.0 ≡ 0 = eqb→eq u.0 0 (subst T (only u.0 u.2) u.3) in
          let e : m ≡ u.1 = u.5 ∙ ap (λ (f : ℕ). bit_or f u.1) none ∙ or_zero_l u.1 in
          subst⁻¹ (λ (y : ℕ). Memᴰ y ready) e u.4

      back : Memᴰ m ready → T (in_family family' m)
      back i = union.1 (0, m, omega arith, subst⁻¹ T (only 0 (omega arith)) tt, i, sym (or_zero_l m))

  -- so its masks in order are the ready sets in order
  pub masks-are-ready : link < 256 → masks_of family' ≡ sorted (sense_at senses link).ready
  masks-are-ready small =
      subst (λ (l : List ℕ). masks_of family' ≡ sorted l) (ready-place cells bodies senses link small)
      (masks-held family' _ holds-ready (ready-small cells bodies senses x ends))

-- The masks in order of a family that is held, that of a rec whose body is at a place, are the place's ready sets in order.
pub held-are-ready : (cells bodies held : List ℕ) (r : ℕ) {bound place : ℕ} → Ends cells bodies bound place → place < 256
    → get_or bodies r 0 ≡ place → 256 * (r + 1) ≤ length held → (senses : List Sense) → Explained cells bodies senses
    → Held cells bodies senses held → masks_of (take 256 (drop (256 * r) held)) ≡ sorted (sense_at senses place).ready
held-are-ready cells bodies held r {bound} {place} ends small at room senses x k =
    let own = take 256 (drop (256 * r) held) in
    subst (λ (l : List ℕ). masks_of own ≡ sorted l) (ready-place cells bodies senses place small)
    (masks-held own _ (subst (λ (q : ℕ). Holds own (ready_by cells bodies senses q)) at (k r room)) (ready-small cells bodies senses x ends))
