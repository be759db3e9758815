-- Whether bytes are a plan, by their length, their trailer and their rows: the tests of `read_with` one after the other.
-- Assumes nothing.
use mathlib.Core.Path.{◌≡◌, refl, sym, ◌∙◌}
use mathlib.Core.Bool.{Bool, true, false, cond, ◌&&◌}
use mathlib.Core.List.{List}
use mathlib.Core.Option.{Option, none}
use Prim.Native.Nat.{ℕ, ◌+◌, ◌-◌, ◌*◌, ◌<◌, ◌≤◌}
use lib.ListN.{length}
use lib.Dec.{eqb, leb}
use borrow.Author.Tests.{le-leb, lt-leb, eq-eqb, ne_eqb, eqb-true}
use Rattle.model.specs.Bytes.{byte, word, dword}
use Rattle.model.specs.Plan.{Plan, read_rows, read_with, read_plan}
use Rattle.model.proofs.Lists.{both_true}
use Rattle.plan.specs.Layout.{is_some, figures_in_range}
use Rattle.plan.proofs.Answers.{is_some_cond, is-some-map}

regroup : (a b c d e : Bool) → (a && (b && (c && (d && e)))) ≡ (a && (b && (c && d)) && e)
regroup false b c d e = refl
regroup true false c d e = refl
regroup true true false d e = refl
regroup true true true d e = refl

module _ (b : List ℕ) (index count n k : ℕ) where
  -- the test of `read_with`
  abbrev pub test : Bool
  test = leb 8 (length b) && (leb 1 count && (leb count 4096 && (leb n 7 && (leb k 3 && eqb (index + 4 * count + 8) (length b)))))

  regrouped : (o : Option Plan) (rows : Bool) → is_some o ≡ rows
      → is_some (cond test o none) ≡ (leb 8 (length b) && (figures_in_range count n k && eqb (index + 4 * count + 8) (length b)) && rows)
  unfolding figures_in_range
  regrouped o rows h = is_some_cond test o
      ∙ rw (regroup (leb 1 count) (leb count 4096) (leb n 7) (leb k 3) (eqb (index + 4 * count + 8) (length b)), h)

  -- length, trailer, index, rows: the order of the code
  tests : is_some (read_with b index count n k)
      ≡ (leb 8 (length b) && (figures_in_range count n k && eqb (index + 4 * count + 8) (length b)) && is_some
      (read_rows b index count n count 0 0))
  unfolding read_with
  tests = regrouped _ _ (is-some-map _ (read_rows b index count n count 0 0))

  -- rows, index and trailer fill the bytes
  pub with-room : is_some (read_with b index count n k) ≡ true → index + 4 * count + 8 ≡ length b
  with-room e =
      let long = leb 8 (length b) in
      let filled = eqb (index + 4 * count + 8) (length b) in
      let w = (both_true (long && (figures_in_range count n k && filled)) (is_some (read_rows b index count n count 0 0)) (sym tests ∙ e)).0 in
      eqb-true _ _ (both_true (figures_in_range count n k) filled (both_true long (figures_in_range count n k && filled) w).1).1

pub plan-short : (b : List ℕ) → length b < 8 → false ≡ is_some (read_plan b)
unfolding read_plan
plan-short b h = sym (tests b _ _ _ _ ∙ rw (lt-leb 8 (length b) h))

-- by numbers that were read from the trailer
module _ (b : List ℕ) (long : 8 ≤ length b) (index count n k : ℕ) (i : index ≡ dword b (length b - 8)) (c : count ≡ word b (length b - 4))
    (x : n ≡ byte b (length b - 2)) (y : k ≡ byte b (length b - 1)) where
  plan-tests : (leb 8 (length b) && (figures_in_range count n k && eqb (index + 4 * count + 8) (length b)) && is_some
      (read_rows b index count n count 0 0)) ≡ is_some (read_plan b)
  unfolding read_plan
  plan-tests = sym (rw (sym i, sym c, sym x, sym y) (tests b index count n k))

  pub plan-trailer : figures_in_range count n k ≡ false → false ≡ is_some (read_plan b)
  plan-trailer h = rw (le-leb 8 (length b) long, h) at plan-tests

  pub plan-index : figures_in_range count n k ≡ true → (index + 4 * count + 8 ≡ length b → ⊥) → false ≡ is_some (read_plan b)
  plan-index h e = rw (le-leb 8 (length b) long, h, ne_eqb _ _ e) at plan-tests

  pub plan-rows : figures_in_range count n k ≡ true → index + 4 * count + 8 ≡ length b
      → is_some (read_rows b index count n count 0 0) ≡ is_some (read_plan b)
  plan-rows h e = rw (le-leb 8 (length b) long, h, eq-eqb _ _ e) at plan-tests
