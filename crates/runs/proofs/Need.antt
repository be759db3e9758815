-- What a code needs, by its range: the kind of the code is known there, and the need computes.
-- Assumes nothing.
use mathlib.Core.Path.{◌≡◌, refl}
use mathlib.Core.Bool.{Bool, false, ◌&&◌}
use Prim.Native.Nat.{ℕ, ◌-◌, ◌<◌, ◌≤◌}
use Rattle.model.specs.Contract.{partner, has}
use Rattle.model.specs.Situation.{kind_of}
use Rattle.model.specs.Run.{need}
use Rattle.model.proofs.Ranges.{kind-straight, kind-client, kind-service, kind-stray}

module _ (R S code : ℕ) where
  -- s and r are the bits that the masks have
  pub straight-needs : (p : ℕ) (s r : Bool) → code ≤ 13 → p ≡ partner code → s ≡ has S code → r ≡ has R p
      → (s && r) ≡ need R S (kind_of code)
  unfolding need
  straight-needs p s r h e f g = rw (kind-straight code h, f, g, e) refl

  pub straight-lacks : code ≤ 13 → has S code ≡ false → false ≡ need R S (kind_of code)
  unfolding need
  straight-lacks h f = rw (kind-straight code h, f) refl

  pub client-needs : (p : ℕ) (r : Bool) → 16 ≤ code → code ≤ 29 → p ≡ partner (code - 16) → r ≡ has R p → r ≡ need R S (kind_of code)
  unfolding need
  client-needs p r l h e g = rw (kind-client code l h, g, e) refl

  pub service-needs : (s : Bool) → 32 ≤ code → code ≤ 45 → s ≡ has S (code - 32) → s ≡ need R S (kind_of code)
  unfolding need
  service-needs s l h f = rw (kind-service code l h, f) refl

  pub none-needs : 13 < code → (16 ≤ code → 29 < code) → (32 ≤ code → 45 < code) → false ≡ need R S (kind_of code)
  unfolding need
  none-needs a b d = rw (kind-stray code a b d) refl
