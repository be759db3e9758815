-- Answers of yes and no, and results that may be missing: whether there is one, and what follows if there is.
-- Assumes nothing.
use mathlib.Core.Path.{◌≡◌, refl}
use mathlib.Core.Bool.{Bool, true, false, cond, ◌&&◌}
use mathlib.Core.Option.{Option, none, some, map}
use Prim.Native.Nat.{ℕ}
use native.Mathlib.Omega.{arith}
use Rattle.plan.specs.Layout.{is_some}

pub is_some_cond : {A : Type 0} (t : Bool) (o : Option A) → is_some (cond t o none) ≡ (t && is_some o)
unfolding is_some
is_some_cond true o = refl
is_some_cond false o = refl

pub is-some-map : {A B : Type 0} (f : A → B) (o : Option A) → is_some (map f o) ≡ is_some o
unfolding is_some
is-some-map f none = refl
is-some-map f (some a) = refl

pub is-some-elim : {A : Type 0} (o : Option A) → is_some o ≡ true → (x : A) × (o ≡ some x)
unfolding is_some
is-some-elim none e = absurd (let z : ◌≡◌ {A = ℕ} 0 1 = cc in omega arith)
is-some-elim (some x) e = (x, refl)

pub is-some-not : {A : Type 0} (o : Option A) → is_some o ≡ false → o ≡ none
unfolding is_some
is-some-not none e = refl
is-some-not (some x) e = absurd (let z : ◌≡◌ {A = ℕ} 0 1 = cc in omega arith)

-- a result that was mapped had a result
pub map-elim : {A B : Type 0} (f : A → B) (o : Option A) {y : B} → map f o ≡ some y → (x : A) × (o ≡ some x) × (f x ≡ y)
map-elim f none e = absurd (let z : ◌≡◌ {A = ℕ} 0 1 = cc in omega arith)
map-elim f (some x) e = (x, refl, (cc))
