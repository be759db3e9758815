-- `choosing_rows::trailer_fits` meets its contract: a role up to 0 is 0.
-- Assumes nothing.
use mathlib.Core.Path.{◌≡◌, refl, sym, ◌∙◌}
use mathlib.Core.Bool.{Bool, true, false, ◌&&◌}
use Prim.Native.Nat.{ℕ, zero, suc}
use native.Mathlib.Omega.{arith}
use lib.Dec.{leb, eqb, leb-zero}
use borrow.Author.Tests.{lt-leb, eq-eqb, ne_eqb}
use Rattle.model.specs.Sheet.{Trailer}
use Rattle.sheet.specs.Answers.{trailer_within}
use Rattle.choosing.specs.Read.{choosing_trailer}
use Rattle.choosing_rows.proofs.trailer_fits.Goals as goal

service : (role : ℕ) → leb role 0 ≡ eqb role 0
service zero = leb-zero zero ∙ sym (eq-eqb zero 0 refl)
service (suc role) = lt-leb (suc role) 0 (omega arith) ∙ sym (ne_eqb (suc role) 0 (λ h. omega (arith, h)))

grouped : (a b c d e : Bool) → ((((a && b) && c) && d) && e) ≡ (a && (b && (c && (d && e))))
grouped true true true true e = refl
grouped true true true false e = refl
grouped true true false d e = refl
grouped true false c d e = refl
grouped false b c d e = refl

within : (t : Trailer) → trailer_within t 32 0 0xC6 ≡ choosing_trailer t
unfolding choosing_trailer
within t =
    rw (service t.role) (grouped (leb 1 t.count) (leb t.count 32) (leb t.n 7) (eqb t.role 0) (eqb t.closing 0xC6))

pub returns : goal.returns
returns c = c.trailer_within.ensures ∙ within _
