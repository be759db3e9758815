-- The families of the bodies of the first recs, held one after the other: a body leads only to recs before its own, whose families stand
-- there already.
-- Assumes nothing.
use mathlib.Core.Path.{◌≡◌, ap, subst⁻¹, ◌∙◌}
use mathlib.Core.Logic.{⊎_elim}
use mathlib.Core.List.{List}
use Prim.Native.Nat.{ℕ, ◌+◌, ◌-◌, ◌*◌, ◌<◌, ◌≤◌}
use native.Mathlib.Omega.{arith}
use native.Mathlib.Nat.{eq-or-lt_of_le}
use lib.ListN.{length, get_or, take, drop}
use lib.Seq.{length-take-le, take_at}
use lib.Dec.{eqb}
use borrow.Rule.Slice.PartMut.{put_mid, post_of}
use Rattle.families.specs.Families.{in_family}
use Rattle.text.specs.Places.{Sense}
use Rattle.text.specs.Cells.{Ends, Explained}
use Rattle.text_ready.specs.Ready.{Holds, ready_by, HoldsBody, HeldBelow, Held, JoinedBy}
use Rattle.text_ready.proofs.Slots.{in_front, put-here, put-below}
use Rattle.text_ready.proofs.Masks.{holds-ready}

module _ (cells bodies : List ℕ) (senses : List Sense) where
  -- those before rec r, as a list of their own
  pub held-before : (r : ℕ) (held : List ℕ) {part : List ℕ} → 256 * r ≤ length held → part ≡ take (256 * r) held
      → HeldBelow cells bodies senses held r → Held cells bodies senses part
  held-before r held fits is below k room =
      let long = ap length is ∙ length-take-le (256 * r) held fits in
      let low : k < r = omega (arith, room, long) in
      let e = ap (λ (l : List ℕ). take 256 (drop (256 * k) l)) is ∙ in_front (256 * r) held fits (256 * k) 256 (omega (arith, low)) in
      subst⁻¹ (λ (l : List ℕ). Holds l (ready_by cells bodies senses (get_or bodies k 0))) e (below k low)

  -- one more: those before it are still there, and it stands where it was written
  module _ (r : ℕ) (held zs : List ℕ) {part family family' : List ℕ} {recs' : ℕ} (fits : 256 * (r + 1) ≤ length held)
      (ends : Ends cells bodies r (get_or bodies r 0)) (only : (m : ℕ) → m < 16384 → in_family family m ≡ eqb m 0)
      (joined : JoinedBy cells bodies part (get_or bodies r 0) 0 family family' recs') (is : part ≡ take (256 * r) held)
      (copied : zs ≡ family') (x : Explained cells bodies senses) (below : HeldBelow cells bodies senses held r) where
    abbrev held' : List ℕ
    held' = put_mid (256 * r) (256 * r + 256 - 256 * r) held zs

    written : take 256 (drop (256 * r) held') ≡ family'
    written =
        ap (take 256) (put-here (256 * r) (256 * r + 256 - 256 * r) held zs (omega (arith, fits)))
        ∙ take_at zs (post_of (256 * r) (256 * r + 256 - 256 * r) held) 256 (ap length copied ∙ joined.room)
        ∙ copied

    pub held_more : HeldBelow cells bodies senses held' (r + 1)
    held_more k low =
        ⊎_elim (λ (e : k ≡ r). subst⁻¹ (HoldsBody cells bodies senses held') e here) (λ less. still less)
        (eq-or-lt_of_le (omega (arith, low)))
      where
        here : HoldsBody cells bodies senses held' r
        here =
            subst⁻¹ (λ (l : List ℕ). Holds l (ready_by cells bodies senses (get_or bodies r 0))) written
            (holds-ready cells bodies part ends only joined senses x (held-before r held (omega (arith, fits)) is below))

        still : k < r → HoldsBody cells bodies senses held' k
        still less =
            subst⁻¹ (λ (l : List ℕ). Holds l (ready_by cells bodies senses (get_or bodies k 0)))
            (put-below (256 * r) (256 * r + 256 - 256 * r) held zs (omega (arith, fits)) (256 * k) 256 (omega (arith, less)))
            (below k less)
