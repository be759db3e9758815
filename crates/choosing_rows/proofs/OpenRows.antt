-- The groups of an open row, read action by action: those of the actions below j are read, and stand in the table at the places of their
-- actions.
-- Assumes nothing.
use mathlib.Core.Path.{◌≡◌, refl, sym, ap, ◌∙◌}
use mathlib.Core.Bool.{Bool, true, false, cond}
use mathlib.Core.Logic.{⊎_elim}
use mathlib.Core.List.{List, [], ◌∷◌, ◌++◌, append-nil}
use mathlib.Core.Option.{Option, none, some, map, bind, some-injective, some-ne-none}
use Prim.Native.Nat.{ℕ, ◌+◌, ◌-◌, ◌<◌, ◌≤◌}
use native.Mathlib.Nat.{eq-or-lt_of_le}
use native.Mathlib.Omega.{arith}
use lib.ListN.{length, get_or, set, length-append, length-set}
use lib.Seq.{append_snoc, get_or-set_same, get_or-set_other, set-get_or}
use Rattle.std.specs.Prelude.{Some, None}
use Rattle.model.specs.Lists.{keep, upto}
use Rattle.model.specs.Contract.{has, actions}
use Rattle.model.specs.Sheet.{Trailer}
use Rattle.sheet.specs.Union.{ones_below}
use Rattle.choosing.specs.Rows.{opens, targets_of}
use Rattle.choosing.specs.Read.{Part, group_at, groups_from}
use Rattle.nodes.specs.Sets.{unite_from, set_of}
use Rattle.choosing_rows.specs.Answers.{ReadInto}
use Rattle.choosing_rows.specs.Holding.{BlankFrom, action_at, TargetsPut}
use Rattle.choosing_rows.proofs.Reading.{part, read_none, read_some}
use Rattle.choosing_rows.proofs.Offered.{offered_from, place-next, place_same, offered-on, offered-over}
use Rattle.choosing_rows.proofs.Offered.{targets-front, targets-last, targets-no}

-- ---- one action
module _ (b : List ℕ) (t : Trailer) (mask j i : ℕ) where
  pub action-none : (targets : List ℕ) (place : ℕ) → has mask j ≡ false → BlankFrom place targets
      → ReadInto (action_at b t mask j i) (Some i) (λ (l : List ℕ). targets ≡ set targets place (set_of l))
  unfolding action_at set_of unite_from
  action-none targets place e blank =
      read_some {a = []} (rw e refl) (sym (ap (set targets place) (sym (blank place (omega arith))) ∙ set-get_or targets place 0))

  module _ (e : has mask j ≡ true) where
    pub action-bad : {Put : List ℕ → Type 0} → group_at b t i ≡ none → ReadInto (action_at b t mask j i) None Put
    unfolding action_at
    action-bad g = read_none (rw e g)

    pub action-rows : (targets : List ℕ) (place : ℕ) {s behind : ℕ} {l : List ℕ} → group_at b t i ≡ some (part l behind) → s ≡ set_of l
        → ReadInto (action_at b t mask j i) (Some behind) (λ (l : List ℕ). set targets place s ≡ set targets place (set_of l))
    unfolding action_at
    action-rows targets place g d = read_some (rw e g) (ap (set targets place) d)

-- ---- all actions

-- groups in front of those that are read behind them
pub prepend : List (List ℕ) → Part (List (List ℕ)) → Part (List (List ℕ))
prepend front p = record { value = front ++ p.value; behind = p.behind }

prepend-none : (o : Option (Part (List (List ℕ)))) → o ≡ map (prepend []) o
unfolding prepend
prepend-none none = refl
prepend-none (some p) = refl

prepend-snoc : (front : List (List ℕ)) (l : List ℕ) (o : Option (Part (List (List ℕ))))
    → map (prepend front)
    (map {B = Part (List (List ℕ))} (λ (r : Part (List (List ℕ))). record { value = l ∷ r.value; behind = r.behind }) o)
    ≡ map (prepend (front ++ l ∷ [])) o
unfolding prepend
prepend-snoc front l none = refl
prepend-snoc front l (some p) = ap (λ (x : List (List ℕ)). some (part x p.behind)) (sym (append_snoc front l p.value))

-- The groups of the actions below j are read and stand in the table; the others stand from i on.
pub record GroupsSoFar (b : List ℕ) (t : Trailer) (mask at first : ℕ) (targets₀ targets : List ℕ) (j i : ℕ) : Type 0 where
  pub actions-are : j ≤ 14
  pub front : List (List ℕ)
  pub rest : groups_from b t (length (keep (has mask) actions)) at ≡ map (prepend front) (groups_from b t (offered_from mask j) i)
  pub size : length front ≡ ones_below mask j
  pub room : length targets ≡ length targets₀
  pub here : (k : ℕ) → k < j → get_or targets (first + k) 0 ≡ set_of (targets_of (opens mask front) k)
  pub before : (p : ℕ) → p < first → get_or targets p 0 ≡ get_or targets₀ p 0
  pub blank : BlankFrom (first + j) targets

module _ {b : List ℕ} {t : Trailer} {mask at first : ℕ} {targets₀ : List ℕ} where
  pub groups-begin : BlankFrom first targets₀ → GroupsSoFar b t mask at first targets₀ targets₀ 0 at
  unfolding actions offered_from ones_below keep upto
  groups-begin blank =
      record {
        actions-are = omega arith;
        front = [];
        rest = prepend-none (groups_from b t (length (keep (has mask) actions)) at);
        size = refl;
        room = refl;
        here = λ k h. absurd (omega arith);
        before = λ p h. refl;
        blank = λ p h. blank p (omega arith);
      }

  module _ {targets : List ℕ} {j i : ℕ} (v : GroupsSoFar b t mask at first targets₀ targets j i) where
    pub groups-end : 14 ≤ j
        → (groups_from b t (length (keep (has mask) actions)) at ≡ some (part v.front i))
        × TargetsPut (opens mask v.front) first targets₀ targets
    unfolding offered_from keep upto groups_from prepend
    groups-end h =
        let none-left : 14 - j ≡ 0 = omega arith in (
          v.rest ∙ rw none-left (ap (λ (x : List (List ℕ)). some (part x i)) (append-nil v.front)),
          record {
            here = λ k less. v.here k (omega arith);
            before = v.before;
            blank = λ p past. v.blank p (omega arith);
          },
        )

    module _ (h : j < 14) where
      pub groups-bad : action_at b t mask j i ≡ none → groups_from b t (length (keep (has mask) actions)) at ≡ none
      unfolding action_at groups_from bind
      groups-bad e = go (has mask j) refl e
        where
          go : (x : Bool) → has mask j ≡ x → cond x (group_at b t i) (some (part [] i)) ≡ none
              → groups_from b t (length (keep (has mask) actions)) at ≡ none
          go true o d = v.rest ∙ rw (offered-on mask j o h, d) refl
          go false o d = absurd (some-ne-none (part [] i) d)

      module _ (fits : first + j < length targets) {l : List ℕ} where
        -- one action more, with groups that give what it leads to
        module _ (front : List (List ℕ)) (same : (k : ℕ) → k < j → targets_of (opens mask v.front) k ≡ targets_of (opens mask front) k)
            (last : l ≡ targets_of (opens mask front) j) where
          here-next : (k : ℕ) → k < j + 1 → get_or (set targets (first + j) (set_of l)) (first + k) 0 ≡ set_of (targets_of (opens mask front) k)
          here-next k less = ⊎_elim now below (eq-or-lt_of_le {n = k} {m = j} (omega arith))
            where
              now : k ≡ j → get_or (set targets (first + j) (set_of l)) (first + k) 0 ≡ set_of (targets_of (opens mask front) k)
              now e = rw e (get_or-set_same targets (first + j) (set_of l) 0 fits ∙ ap set_of last)

              below : k < j → get_or (set targets (first + j) (set_of l)) (first + k) 0 ≡ set_of (targets_of (opens mask front) k)
              below d =
                  get_or-set_other targets (first + j) (first + k) (set_of l) 0 (λ f. omega arith) ∙ v.here k d ∙ ap set_of (same k d)

          groups-step : {i' : ℕ} → groups_from b t (length (keep (has mask) actions)) at
              ≡ map (prepend front) (groups_from b t (offered_from mask (j + 1)) i')
              → length front ≡ ones_below mask (j + 1)
              → GroupsSoFar b t mask at first targets₀ (set targets (first + j) (set_of l)) (j + 1) i'
          groups-step rest size =
              record {
                actions-are = omega arith;
                front = front;
                rest = rest;
                size = size;
                room = length-set targets (first + j) (set_of l) ∙ v.room;
                here = here-next;
                before = λ p less. get_or-set_other targets (first + j) p (set_of l) 0 (λ d. omega arith) ∙ v.before p less;
                blank = λ p past. get_or-set_other targets (first + j) p (set_of l) 0 (λ d. omega arith) ∙ v.blank p (omega arith);
              }

        module _ {i' : ℕ} (o : has mask j ≡ true) (d : group_at b t i ≡ some (part l i')) where
          rest-offered : groups_from b t (length (keep (has mask) actions)) at
              ≡ map (prepend (v.front ++ l ∷ [])) (groups_from b t (offered_from mask (j + 1)) i')
          unfolding groups_from bind
          rest-offered = v.rest ∙ rw (offered-on mask j o h, d) (prepend-snoc v.front l (groups_from b t (offered_from mask (j + 1)) i'))

          groups-offered : GroupsSoFar b t mask at first targets₀ (set targets (first + j) (set_of l)) (j + 1) i'
          groups-offered =
              let size : length (v.front ++ l ∷ []) ≡ ones_below mask (j + 1) =
              omega (arith, length-append v.front (l ∷ []), v.size, place-next mask j o) in
              groups-step (v.front ++ l ∷ []) (targets-front mask v.front j h v.size l)
              (targets-last mask v.front j h v.size l o) rest-offered size

        groups-over : {i' : ℕ} → has mask j ≡ false → ◌≡◌ {A = Option (Part (List ℕ))} (some (part [] i)) (some (part l i'))
            → GroupsSoFar b t mask at first targets₀ (set targets (first + j) (set_of l)) (j + 1) i'
        groups-over {i'} o d =
            let here = some-injective (part [] i) (part l i') d in
            let empty : [] ≡ l = ap (λ (p : Part (List ℕ)). p.value) here in
            let same : i ≡ i' = ap (λ (p : Part (List ℕ)). p.behind) here in
            groups-step v.front (λ k less. refl) (sym empty ∙ targets-no mask j v.front o)
            (v.rest ∙ rw (offered-over mask j o h, same) refl) (v.size ∙ sym (place_same mask j o))

        pub groups-on : {i' : ℕ} → action_at b t mask j i ≡ some (part l i')
            → {targets' : List ℕ} → targets' ≡ set targets (first + j) (set_of l)
            → GroupsSoFar b t mask at first targets₀ targets' (j + 1) i'
        unfolding action_at
        groups-on {i'} e f = rw f (go (has mask j) refl e)
          where
            go : (x : Bool) → has mask j ≡ x → cond x (group_at b t i) (some (part [] i)) ≡ some (part l i')
                → GroupsSoFar b t mask at first targets₀ (set targets (first + j) (set_of l)) (j + 1) i'
            go true o d = groups-offered o d
            go false o d = groups-over o d
