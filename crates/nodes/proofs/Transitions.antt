-- A word is done up to a state directly behind it, and on by internal moves.
-- Assumes nothing.
use mathlib.Core.Path.{refl, subst⁻¹}
use mathlib.Core.List.{List}
use Prim.Native.Nat.{ℕ}
use Rattle.nodes.specs.Transitions.{Silently, rests, goes_on, Along, ends, does, Behind, at_once, acts}

module _ {S : Type 0} (Hides : S → S → Type 0) where
  -- internal moves one behind the other
  pub silently-on : {r s t : S} → Silently Hides r s → Silently Hides s t → Silently Hides r t
  silently-on {t = t} (rests e) w = subst⁻¹ (λ (z : S). Silently Hides z t) e w
  silently-on (goes_on h v) w = goes_on h (silently-on v w)

  module _ (Does : S → ℕ → S → Type 0) where
    pub along-split : {word : List ℕ} {r u : S} → Along Hides Does word r u → (s : S) × Behind Hides Does word r s × Silently Hides s u
    along-split {r = r} (ends w) = (r, at_once refl, w)
    along-split (does j h w d g) = let k = along-split g in (k.0, acts j h w d k.1, k.2)

    pub along-join : {word : List ℕ} {r s u : S} → Behind Hides Does word r s → Silently Hides s u → Along Hides Does word r u
    along-join {u = u} (at_once e) w = ends (subst⁻¹ (λ (z : S). Silently Hides z u) e w)
    along-join (acts j h v d g) w = does j h v d (along-join g w)
