-- The rows of an emitted plan have the plan layout: ascending codes of its names, next states below the count.
-- Assumes nothing.
use mathlib.Core.Path.{◌≡◌, refl, ap, subst, subst⁻¹}
use mathlib.Core.Bool.{Bool, true, false, cond, ◌&&◌}
use mathlib.Core.Option.{Option, some}
use mathlib.Core.List.Memᴰ
use mathlib.Core.List.{List, [], ◌∷◌, map, Memᴰ}
use Prim.Native.Nat.{ℕ, zero, suc, ◌+◌, ◌<◌}
use native.Mathlib.Omega.{arith}
use lib.ListN.{length, length-map}
use lib.Dec.{T, ltb, leb, lt→ltb, le→leb}
use Rattle.model.specs.Lists.{place, all, upto, Ascending}
use Rattle.model.specs.Contract.{Contract, name, actions, state, offers}
use Rattle.model.specs.Situation.{Situation, Kind, straight, client, service, kind_of, start, same, codes, offered, next}
use Rattle.model.specs.Rounds.{stays, moves_into}
use Rattle.model.specs.Plan.{Move, plan_states, target, row_of, named_below, ascending, good_row}
use Rattle.model.proofs.Lists.{keep-length, all-intro, and-of, and_both}
use Rattle.model.proofs.Rounds.{IsSame, moves-elim}
use Rattle.model.proofs.Situation.{is_same, code-elim, kind-straight, kind-client, kind-service, next-elim}
use Rattle.model.proofs.Sheet.{WellFormed}
use Rattle.model.proofs.Ordered.{keep-ascends, codes-ascend}
use Rattle.model.proofs.PlanRows.{state-closed}

-- ---- ascending codes

codes-of-row : (f : ℕ → ℕ) (low : ℕ) (l : List ℕ) → Ascending low l → T (ascending (map (λ c. record { code = c; to = f c }) l))
unfolding ascending
codes-of-row f low [] r = tt
codes-of-row f low (x ∷ []) r = tt
codes-of-row f low (x ∷ y ∷ l) r =
    and-of (ltb x y) (ascending (map (λ c. record { code = c; to = f c }) (y ∷ l))) (lt→ltb x y (omega (arith, r.1.0)))
    (codes-of-row f (suc x) (y ∷ l) r.1)

pub place-lt : {S : Type 0} (same : S → S → Bool) (isSame : IsSame same) {t : S} {l : List S} → Memᴰ t l → place (same t) l < length l
unfolding place
place-lt {S} same isSame {t} (Memᴰ.head {x = y} {xs = ys} e) = go (same t y) (subst (λ (z : S). T (same t z)) e (isSame.reflexive t))
  where
    go : (b : Bool) → T b → cond b zero (suc (place (same t) ys)) < suc (length ys)
    go true h = omega arith
    go false h = absurd h
place-lt same isSame {t} (Memᴰ.tail {x = y} {xs = ys} m) = go (same t y) (place-lt same isSame m)
  where
    go : (b : Bool) → place (same t) ys < length ys → cond b zero (suc (place (same t) ys)) < suc (length ys)
    go true h = omega arith
    go false h = omega arith

-- ---- the codes of enabled moves

count-codes : length codes ≡ 42
unfolding codes actions upto
count-codes = refl

abbrev to-move : (ℕ → ℕ) → ℕ → Move
to-move f c = record { code = c; to = f c }

module _ (limits : List ℕ) (old new : Contract) (n : ℕ) (old-formed : WellFormed old) (new-formed : WellFormed new) (old-n : old.n ≡ n) (new-n : new.n ≡ n) where
  abbrev nx : Situation → ℕ → Option Situation
  nx = next limits old new

  -- an enabled move's action has a name below n
  named-next : (s t : Situation) (c : ℕ) → Memᴰ c codes → nx s c ≡ some t → T (named_below n (kind_of c))
  unfolding offered named_below
  named-next s t =
      code-elim (λ (c : ℕ). nx s c ≡ some t → T (named_below n (kind_of c)))
      (λ j h e.
      let o = (next-elim limits old new s j (straight j) t (kind-straight j h) e).0 in
      let p = (and_both (offers (state old s.old) j) (offers (state new s.new) j) o).0 in
      subst⁻¹ (λ (kind : Kind). T (named_below n kind)) (kind-straight j h) (lt→ltb (name j) n (omega (arith, old-formed.named s.old j h p))))
      (λ j h e.
      let p = (next-elim limits old new s (16 + j) (client j) t (kind-client j h) e).0 in
      subst⁻¹ (λ (kind : Kind). T (named_below n kind)) (kind-client j h) (lt→ltb (name j) n (omega (arith, old-formed.named s.old j h p))))
      (λ j h e.
      let q = (next-elim limits old new s (32 + j) (service j) t (kind-service j h) e).0 in
      subst⁻¹ (λ (kind : Kind). T (named_below n kind)) (kind-service j h) (lt→ltb (name j) n (omega (arith, new-formed.named s.new j h q))))

  module _ (kept : List Situation) (begun : Memᴰ start kept) where
    abbrev states : List Situation
    states = plan_states same codes nx kept start

    abbrev to : Situation → ℕ → ℕ
    to s c = target same codes nx kept start (nx s c)

    abbrev good_move : Move → Bool
    good_move m = named_below n (kind_of m.code) && ltb m.to (length states)

    good-move : (s : Situation) → Memᴰ s states → (c : ℕ) → Memᴰ c (moves_into same codes nx kept s) → T (good_move (to-move (to s) c))
    unfolding target
    good-move s m c q =
        let w = moves-elim same is_same codes nx kept s c q in
        let t = w.1.0 in
        let e : to s c ≡ place (same t) states = ap (target same codes nx kept start) w.1.1 in
        let there = state-closed same is_same codes nx kept start begun s t c m w.0 w.1.1 w.1.2 in
        and-of (named_below n (kind_of c)) (ltb (to s c) (length states)) (named-next s t c w.0 w.1.1)
        (lt→ltb (to s c) (length states) (omega (arith, e, place-lt same is_same there)))

    pub emitted-row : (s : Situation) → Memᴰ s states → T (good_row n (length states) (row_of same codes nx kept start s))
    unfolding good_row row_of moves_into
    emitted-row s m =
        let cs : List ℕ = moves_into same codes nx kept s in
        let row : List Move = map (to-move (to s)) cs in
        let stay : ℕ → Bool = (λ c. stays same kept (nx s c)) in
        and-of (leb (length row) 42 && ascending row) (all good_move row)
        (and-of (leb (length row) 42) (ascending row)
        (le→leb (length row) 42 (omega (arith, length-map cs (to-move (to s)), keep-length stay codes, count-codes)))
        (codes-of-row (to s) 0 cs (keep-ascends stay 0 codes codes-ascend)))
        (all-intro good_move row
        (λ x q. let c = Memᴰ.of_map (to-move (to s)) cs q in subst (λ (x : Move). T (good_move x)) c.2 (good-move s m c.0 c.1)))
