-- What was read, for each kind of tree, from what was read for its parts.
-- Assumes nothing.
use mathlib.Core.Path.{◌≡◌, refl, sym, ap, subst⁻¹, ◌∙◌}
use mathlib.Core.Bool.{true}
use mathlib.Core.Option.{Option, none, some}
use mathlib.Core.List.{List, [], ◌∷◌, ◌++◌, map, append_assoc, append-nil, map-append}
use Prim.Native.Nat.{ℕ, suc, ◌+◌, ◌≤◌, ◌<◌}
use native.Mathlib.Omega.{arith}
use lib.ListN.{length, get_or, set, take, drop, length-set}
use lib.Seq.{take-suc-set, take-set-lt, length-take-le, set-append_left}
use Rattle.text.specs.Grammar.{Tree, nought, bare, dotted, summed, chosen, bound, variable, bracket}
use Rattle.text.specs.Terms.{term_of}
use Rattle.text.specs.Places.{size_of}
use Rattle.text.specs.Cells.{Cell, packed, recs_of, link_to, choice_cell, cells_in, bodies_in}
use Rattle.text.specs.Convert.{action_width, width_of, wrong_at, or_else}
use Rattle.text_reading.specs.declared.Scope.{Scope}
use Rattle.text_reading.specs.Reading.{Standing, listed, onward, celled, with_rec, prefixed_scope, InRec, CellPut, Ready, PartRead}
use Rattle.text_reading.proofs.Bounds.{action-width, few-in}
use Rattle.text_reading.proofs.Masks.{wrong-agree}

-- ---- the first variable at fault

-- nothing is at fault here
first-none : (w : Option ℕ) → w ≡ or_else w none
unfolding or_else
first-none none = refl
first-none (some k) = refl

-- one part after the other
first_then : (w a b : Option ℕ) → or_else (or_else w a) b ≡ or_else w (or_else a b)
unfolding or_else
first_then none a b = refl
first_then (some k) a b = refl

-- ---- tables

-- one cell more
cell-more : (cells : List ℕ) (n x : ℕ) → n < 256 → length cells ≡ 257
    → take (1 + (n + 1)) (set cells (n + 1) x) ≡ take (1 + n) cells ++ (x ∷ [])
cell-more cells n x h e =
    let s1 : 1 + (n + 1) ≡ suc (n + 1) = omega arith in
    let s2 : n + 1 ≡ 1 + n = omega arith in
    ap (λ (k : ℕ). take k (set cells (n + 1) x)) s1 ∙ take-suc-set cells (n + 1) x (omega arith)
    ∙ ap (λ (k : ℕ). take k cells ++ (x ∷ [])) s2

-- the cells of a part and one more
cells-more : (cells front : List ℕ) (within : List Cell) {c c' : Cell} (n : ℕ) → n < 256 → length cells ≡ 257
    → take (1 + n) cells ≡ front ++ map packed within → c ≡ c'
    → take (1 + (n + 1)) (set cells (n + 1) (packed c)) ≡ front ++ map packed (within ++ (c' ∷ []))
cells-more cells front within {c} {c'} n h e known same =
    cell-more cells n (packed c) h e ∙ ap (λ l. l ++ (packed c ∷ [])) known ∙ append_assoc front (map packed within) (packed c ∷ [])
    ∙ ap (λ (k : Cell). front ++ (map packed within ++ (packed k ∷ []))) same
    ∙ ap (λ l. front ++ l) (sym (map-append packed within (c' ∷ [])))

-- the body of a rec, put before those within it
body-put : (bodies bodies' rest : List ℕ) (n m x : ℕ) → n < length bodies → n < m → take m bodies' ≡ take (n + 1) bodies ++ rest
    → take m (set bodies' n x) ≡ take n bodies ++ (x ∷ rest)
body-put bodies bodies' rest n m x room less e =
    let s1 : n + 1 ≡ suc n = omega arith in
    let long : n < length (take (n + 1) bodies) = omega (arith, length-take-le (n + 1) bodies (omega arith)) in
    take-set-lt m bodies' n x less ∙ ap (λ l. set l n x) e ∙ set-append_left (take (n + 1) bodies) rest n x long
    ∙ ap (λ l. l ++ rest) (sym (take-set-lt (n + 1) bodies n x (omega arith)) ∙ ap (λ (k : ℕ). take k (set bodies n x)) s1
    ∙ take-suc-set bodies n x room)
    ∙ append_assoc (take n bodies) (x ∷ []) rest

-- what holds with a cell of one's own holds with the one that was put
put-part : {text : List ℕ} {from : Standing} {scope : Scope} {cells bodies : List ℕ} {t : Tree} {r : List ℕ} {mid to : Standing}
    {old cells' bodies' : List ℕ}
    {kind left right : ℕ} → CellPut old mid kind left right to cells'
    → PartRead text from scope cells bodies t r (celled mid)
    (set old (mid.places + 1) (packed (record { kind = kind; left = left; right = right }))) bodies'
    → PartRead text from scope cells bodies t r to cells' bodies'
put-part {text} {from} {scope} {cells} {bodies} {t} {r} {mid} {to} {old} {cells'} {bodies'} put part =
    subst⁻¹ (λ (to : Standing). PartRead text from scope cells bodies t r to cells' bodies') put.to_is
    (subst⁻¹ (λ cells'. PartRead text from scope cells bodies t r (celled mid) cells' bodies') put.cells_are part)

-- ---- leaves

module _ {text : List ℕ} {from : Standing} {scope : Scope} {cells bodies : List ℕ} (ready : Ready text from scope cells bodies) where
  pub part-nought : from.at < length text
      → PartRead text from scope cells bodies nought (drop (from.at + 1) text) (onward from (from.at + 1) 0) cells bodies
  unfolding width_of term_of link_to size_of recs_of cells_in bodies_in wrong_at
  part-nought h =
      record {
        is_ok = refl;
        at_is = refl;
        inside = omega arith;
        left = refl;
        link_is = refl;
        places_are = omega arith;
        recs_are = omega arith;
        cells_are = sym (append-nil _);
        bodies_are = sym (append-nil _);
        wrong_is = first-none from.wrong;
        cells_room = ready.cells_room;
        bodies_room = ready.bodies_room;
      }

  pub part-variable : (v l : ℕ) (w : Option ℕ) → from.at < length text → l ≡ 256 + get_or scope.owners v 0
      → w ≡ or_else from.wrong (wrong_at (listed scope.recs) (listed scope.prefixed) from.at (variable v))
      → PartRead text from scope cells bodies (variable v) (drop (from.at + 1) text) (
      record {
        ok = true;
        at = from.at + 1;
        link = l;
        places = from.places;
        recs = from.recs;
        wrong = w;
      }
      ) cells bodies
  unfolding width_of term_of link_to size_of recs_of cells_in bodies_in
  part-variable v l w h known e =
      record {
        is_ok = refl;
        at_is = refl;
        inside = omega arith;
        left = refl;
        link_is = known;
        places_are = omega arith;
        recs_are = omega arith;
        cells_are = sym (append-nil _);
        bodies_are = sym (append-nil _);
        wrong_is = e;
        cells_room = ready.cells_room;
        bodies_room = ready.bodies_room;
      }

  -- ---- actions

  module _ (at j : ℕ) (behind : at ≡ from.at + action_width j) (small : at ≤ length text) where
    pub bare-room : from.places < 256
    bare-room = omega (arith, action-width j, ready.few_places, ready.short)

    pub part-bare : {to : Standing} {cells' : List ℕ} → CellPut cells (onward from at 0) j 0 0 to cells'
        → PartRead text from scope cells bodies (bare j) (drop at text) to cells' bodies
    unfolding width_of term_of link_to size_of recs_of cells_in bodies_in wrong_at
    part-bare put =
        put-part put (
        record {
          is_ok = refl;
          at_is = behind;
          inside = small;
          left = refl;
          link_is = omega arith;
          places_are = omega arith;
          recs_are = omega arith;
          cells_are = cell-more cells from.places _ bare-room ready.cells_room;
          bodies_are = sym (append-nil _);
          wrong_is = first-none from.wrong;
          cells_room = length-set cells _ _ ∙ ready.cells_room;
          bodies_room = ready.bodies_room;
        }
        )

    module _ {t : Tree} {r : List ℕ} {mid : Standing} {cells' bodies' : List ℕ}
        (part : PartRead text (onward from (at + 1) 0) (prefixed_scope scope) cells bodies t r mid cells' bodies') where
      pub dotted-room : mid.places < 256
      dotted-room =
          let few = few-in t in
          omega (arith, few.1, part.places_are, part.at_is, part.inside, ready.few_places, ready.short)

      pub part-dotted : {to : Standing} {cells'' : List ℕ} → CellPut cells' mid j mid.link 0 to cells''
          → PartRead text from scope cells bodies (dotted j t) r to cells'' bodies'
      unfolding width_of term_of link_to size_of recs_of cells_in bodies_in wrong_at
      part-dotted put =
          let same : at + 1 ≡ from.at + suc (action_width j) = omega arith in
          put-part put (
          record {
            is_ok = refl;
            at_is = omega (arith, part.at_is);
            inside = part.inside;
            left = part.left;
            link_is = omega (arith, part.places_are);
            places_are = omega (arith, part.places_are);
            recs_are = part.recs_are;
            cells_are =
                cells-more cells' (take (1 + from.places) cells) (cells_in scope.owners from.places from.recs (term_of t))
                mid.places
                dotted-room part.cells_room part.cells_are (ap (λ (k : ℕ). record { kind = j; left = k; right = 0 }) part.link_is);
            bodies_are = part.bodies_are;
            wrong_is =
                part.wrong_is
                ∙ ap (λ (i : ℕ). or_else from.wrong (wrong_at (listed scope.recs) (listed scope.recs) i t)) same;
            cells_room = length-set cells' _ _ ∙ part.cells_room;
            bodies_room = part.bodies_room;
          }
          )

  -- ---- brackets

  pub part-bracket : {t : Tree} {r : List ℕ} {mid : Standing} {cells' bodies' : List ℕ}
      → PartRead text (onward from (from.at + 1) 0) scope cells bodies t r mid cells' bodies' → mid.at < length text
      → PartRead text from scope cells bodies (bracket t) (drop (mid.at + 1) text) (onward mid (mid.at + 1) mid.link) cells' bodies'
  unfolding width_of term_of wrong_at
  part-bracket {t} {r} {mid} part h =
      let same : from.at + 1 ≡ suc from.at = omega arith in
      record {
        is_ok = refl;
        at_is = omega (arith, part.at_is);
        inside = omega arith;
        left = refl;
        link_is = part.link_is;
        places_are = part.places_are;
        recs_are = part.recs_are;
        cells_are = part.cells_are;
        bodies_are = part.bodies_are;
        wrong_is =
            part.wrong_is
            ∙ ap (λ (i : ℕ). or_else from.wrong (wrong_at (listed scope.recs) (listed scope.prefixed) i t)) same;
        cells_room = part.cells_room;
        bodies_room = part.bodies_room;
      }

  -- ---- recs

  pub part-bound : (v : ℕ) {inside : Scope} → InRec scope v from.recs inside
      → {t : Tree} {r : List ℕ} {mid : Standing} {cells' bodies' : List ℕ}
      → PartRead text (with_rec from (from.at + 5)) inside cells bodies t r mid cells' bodies'
      → PartRead text from scope cells bodies (bound v t) r mid cells' (set bodies' from.recs mid.link)
  unfolding width_of term_of link_to size_of recs_of cells_in bodies_in wrong_at
  part-bound v {inside} known {t} {r} {mid} {cells'} {bodies'} part =
      let next : from.recs + 1 ≡ suc from.recs = omega arith in
      let more : mid.recs ≡ from.recs + 1 + recs_of (term_of t) = part.recs_are in
      let link : mid.link ≡ link_to (set scope.owners v from.recs) from.places (suc from.recs) (term_of t) =
      part.link_is
      ∙ ap (λ o. link_to o from.places (from.recs + 1) (term_of t)) known.owners_are
      ∙ ap (λ (k : ℕ). link_to (set scope.owners v from.recs) from.places k (term_of t)) next
      in
      record {
        is_ok = part.is_ok;
        at_is = omega (arith, part.at_is);
        inside = part.inside;
        left = part.left;
        link_is = link;
        places_are = part.places_are;
        recs_are = omega arith;
        cells_are =
            part.cells_are
            ∙ ap (λ o. take (1 + from.places) cells ++ map packed (cells_in o from.places (from.recs + 1) (term_of t)))
            known.owners_are
            ∙ ap (λ (k : ℕ). take (1 + from.places) cells
            ++ map packed (cells_in (set scope.owners v from.recs) from.places k (term_of t))) next;
        bodies_are =
            body-put bodies bodies' _ from.recs mid.recs mid.link
            (omega (arith, ready.few_recs, ready.bodies_room, ready.inside, ready.short)) (omega arith) part.bodies_are
            ∙ ap (λ (k : ℕ). take from.recs bodies ++ (k ∷ bodies_in inside.owners from.places (from.recs + 1) (term_of t))) link
            ∙ ap (λ l. take from.recs bodies ++
            (link_to (set scope.owners v from.recs) from.places (suc from.recs) (term_of t) ∷ l))
            (ap (λ o. bodies_in o from.places (from.recs + 1) (term_of t)) known.owners_are
            ∙ ap (λ (k : ℕ). bodies_in (set scope.owners v from.recs) from.places k (term_of t)) next);
        wrong_is =
            part.wrong_is
            ∙ ap (λ o. or_else from.wrong o)
            (wrong-agree t _ _ _ _ (from.at + 5) known.recs_are known.prefixed_are);
        cells_room = part.cells_room;
        bodies_room = length-set bodies' _ _ ∙ part.bodies_room;
      }

-- ---- choices

-- Of what kind a choice is: its cell's kind, and the bytes of its sign.
pub record Choice (join : Tree → Tree → Tree) (kind gap : ℕ) : Type 0 where
  pub width_is : (t u : Tree) → width_of (join t u) ≡ width_of t + (gap + width_of u)
  pub size_is : (t u : Tree) → size_of (term_of (join t u)) ≡ suc (size_of (term_of t) + size_of (term_of u))
  pub recs_are : (t u : Tree) → recs_of (term_of (join t u)) ≡ recs_of (term_of t) + recs_of (term_of u)
  pub link_is : (t u : Tree) (owners : List ℕ) (n r : ℕ)
      → link_to owners n r (term_of (join t u)) ≡ suc (n + (size_of (term_of t) + size_of (term_of u)))
  pub cells_are : (t u : Tree) (owners : List ℕ) (n r : ℕ) → cells_in owners n r (term_of (join t u))
      ≡ cells_in owners n r (term_of t) ++ (cells_in owners (n + size_of (term_of t)) (r + recs_of (term_of t)) (term_of u)
      ++ (choice_cell owners n r kind (term_of t) (term_of u) ∷ []))
  pub bodies_are : (t u : Tree) (owners : List ℕ) (n r : ℕ) → bodies_in owners n r (term_of (join t u))
      ≡ bodies_in owners n r (term_of t) ++ bodies_in owners (n + size_of (term_of t)) (r + recs_of (term_of t)) (term_of u)
  pub wrong_is : (t u : Tree) (recs prefixed : List ℕ) (i : ℕ) → wrong_at recs prefixed i (join t u)
      ≡ or_else (wrong_at recs prefixed i t) (wrong_at recs prefixed (i + (gap + width_of t)) u)

pub summing : Choice summed 14 1
unfolding width_of term_of size_of recs_of link_to cells_in bodies_in wrong_at
summing =
    record {
      width_is = λ t u. omega arith;
      size_is = λ t u. refl;
      recs_are = λ t u. refl;
      link_is = λ t u o n r. refl;
      cells_are = λ t u o n r. refl;
      bodies_are = λ t u o n r. refl;
      wrong_is = λ t u recs prefixed i.
          let same : i + suc (width_of t) ≡ i + (1 + width_of t) = omega arith in
          ap (λ (k : ℕ). or_else (wrong_at recs prefixed i t) (wrong_at recs prefixed k u)) same;
    }

pub choosing : Choice chosen 15 3
unfolding width_of term_of size_of recs_of link_to cells_in bodies_in wrong_at
choosing =
    record {
      width_is = λ t u. refl;
      size_is = λ t u. refl;
      recs_are = λ t u. refl;
      link_is = λ t u o n r. refl;
      cells_are = λ t u o n r. refl;
      bodies_are = λ t u o n r. refl;
      wrong_is = λ t u recs prefixed i. refl;
    }

module _ {join : Tree → Tree → Tree} {kind gap : ℕ} (choice : Choice join kind gap) {text : List ℕ} {from : Standing} {scope : Scope}
    {cells bodies : List ℕ}
    (ready : Ready text from scope cells bodies) {t : Tree} {r : List ℕ} {mid : Standing} {cells' bodies' : List ℕ}
    (one : PartRead text from scope cells bodies t r mid cells' bodies') {u : Tree} {s : List ℕ} {next : Standing} {cells'' bodies'' : List ℕ}
    (two : PartRead text (onward mid (mid.at + gap) 0) scope cells' bodies' u s next cells'' bodies'') (some-gap : 1 ≤ gap) where
  pub joined-room : next.places < 256
  joined-room =
      let few = few-in t in
      let few' = few-in u in
      omega (
        arith,
        few.1,
        few'.1,
        one.places_are,
        one.at_is,
        two.places_are,
        two.at_is,
        two.inside,
        ready.few_places,
        ready.short,
      )

  joined-cell : record { kind = kind; left = mid.link; right = next.link }
      ≡ choice_cell scope.owners from.places from.recs kind (term_of t) (term_of u)
  unfolding choice_cell
  joined-cell =
      ap (λ (k : ℕ). record { kind = kind; left = k; right = next.link }) one.link_is
      ∙ ap (λ (k : ℕ). record { kind = kind; left = link_to scope.owners from.places from.recs (term_of t); right = k })
      (two.link_is
      ∙ ap (λ (n : ℕ). link_to scope.owners n mid.recs (term_of u)) one.places_are
      ∙ ap (λ (n : ℕ). link_to scope.owners (from.places + size_of (term_of t)) n (term_of u)) one.recs_are)

  joined-cells : take (1 + next.places) cells''
      ≡ take (1 + from.places) cells
      ++ map packed (cells_in scope.owners from.places from.recs (term_of t)
      ++ cells_in scope.owners (from.places + size_of (term_of t)) (from.recs + recs_of (term_of t)) (term_of u))
  joined-cells =
      let first = cells_in scope.owners from.places from.recs (term_of t) in
      let front = take (1 + from.places) cells in
      let second : cells_in scope.owners mid.places mid.recs (term_of u)
      ≡ cells_in scope.owners (from.places + size_of (term_of t)) (from.recs + recs_of (term_of t)) (term_of u) =
      ap (λ (n : ℕ). cells_in scope.owners n mid.recs (term_of u)) one.places_are
      ∙ ap (λ (n : ℕ). cells_in scope.owners (from.places + size_of (term_of t)) n (term_of u)) one.recs_are
      in
      two.cells_are
      ∙ ap (λ l. l ++ map packed (cells_in scope.owners mid.places mid.recs (term_of u))) one.cells_are
      ∙ append_assoc front (map packed first) (map packed (cells_in scope.owners mid.places mid.recs (term_of u)))
      ∙ ap (λ l. front ++ l) (sym (map-append packed first (cells_in scope.owners mid.places mid.recs (term_of u))))
      ∙ ap (λ (l : List Cell). front ++ map packed (first ++ l)) second

  joined-bodies : take next.recs bodies''
      ≡ take from.recs bodies ++ bodies_in scope.owners from.places from.recs (term_of (join t u))
  joined-bodies =
      let first = bodies_in scope.owners from.places from.recs (term_of t) in
      let front = take from.recs bodies in
      two.bodies_are
      ∙ ap (λ l. l ++ bodies_in scope.owners mid.places mid.recs (term_of u)) one.bodies_are
      ∙ append_assoc front first (bodies_in scope.owners mid.places mid.recs (term_of u))
      ∙ ap (λ l. front ++ (first ++ l))
      (ap (λ (n : ℕ). bodies_in scope.owners n mid.recs (term_of u)) one.places_are
      ∙ ap (λ (n : ℕ). bodies_in scope.owners (from.places + size_of (term_of t)) n (term_of u)) one.recs_are)
      ∙ ap (λ l. front ++ l) (sym (choice.bodies_are t u scope.owners from.places from.recs))

  joined-wrong : next.wrong
      ≡ or_else from.wrong (wrong_at (listed scope.recs) (listed scope.prefixed) from.at (join t u))
  joined-wrong =
      let R = listed scope.recs in
      let P = listed scope.prefixed in
      let place : mid.at + gap ≡ from.at + (gap + width_of t) = omega (arith, one.at_is) in
      two.wrong_is
      ∙ ap (λ (w : Option ℕ). or_else w (wrong_at R P (mid.at + gap) u)) one.wrong_is
      ∙ first_then from.wrong (wrong_at R P from.at t) (wrong_at R P (mid.at + gap) u)
      ∙ ap (λ (i : ℕ). or_else from.wrong (or_else (wrong_at R P from.at t) (wrong_at R P i u))) place
      ∙ ap (λ (o : Option ℕ). or_else from.wrong o) (sym (choice.wrong_is t u R P from.at))

  pub part-joined : {to : Standing} {cells''' : List ℕ} → CellPut cells'' next kind mid.link next.link to cells'''
      → PartRead text from scope cells bodies (join t u) s to cells''' bodies''
  part-joined put =
      let first = cells_in scope.owners from.places from.recs (term_of t) in
      let second = cells_in scope.owners (from.places + size_of (term_of t)) (from.recs + recs_of (term_of t)) (term_of u) in
      let last = choice_cell scope.owners from.places from.recs kind (term_of t) (term_of u) in
      let front = take (1 + from.places) cells in
      put-part put (
      record {
        is_ok = refl;
        at_is = omega (arith, one.at_is, two.at_is, choice.width_is t u);
        inside = two.inside;
        left = two.left;
        link_is = omega (arith, one.places_are, two.places_are, choice.link_is t u scope.owners from.places from.recs);
        places_are = omega (arith, one.places_are, two.places_are, choice.size_is t u);
        recs_are = omega (arith, one.recs_are, two.recs_are, choice.recs_are t u);
        cells_are =
            cells-more cells'' front (first ++ second) next.places joined-room two.cells_room joined-cells joined-cell
            ∙ ap (λ (l : List Cell). front ++ map packed l)
            (append_assoc first second (last ∷ []) ∙ sym (choice.cells_are t u scope.owners from.places from.recs));
        bodies_are = joined-bodies;
        wrong_is = joined-wrong;
        cells_room = length-set cells'' _ _ ∙ two.cells_room;
        bodies_room = two.bodies_room;
      }
      )

-- ---- where the next part begins

module _ {text : List ℕ} {from : Standing} {scope : Scope} {cells bodies : List ℕ} (ready : Ready text from scope cells bodies) where
  -- behind some bytes
  pub ready-behind : (at : ℕ) → from.at ≤ at → at ≤ length text → Ready text (onward from at 0) scope cells bodies
  ready-behind at h k =
      record {
        short = ready.short;
        inside = k;
        cells_room = ready.cells_room;
        bodies_room = ready.bodies_room;
        few_places = omega (arith, ready.few_places);
        few_recs = omega (arith, ready.few_recs);
        owners_known = ready.owners_known;
      }

  -- behind a prefix
  pub ready-prefixed : (at : ℕ) → from.at ≤ at → at ≤ length text → Ready text (onward from at 0) (prefixed_scope scope) cells bodies
  ready-prefixed at h k =
      record {
        short = ready.short;
        inside = k;
        cells_room = ready.cells_room;
        bodies_room = ready.bodies_room;
        few_places = omega (arith, ready.few_places);
        few_recs = omega (arith, ready.few_recs);
        owners_known = ready.owners_known;
      }

  -- in a rec
  pub ready-rec : {v : ℕ} {inside : Scope} → InRec scope v from.recs inside → from.at + 5 ≤ length text
      → Ready text (with_rec from (from.at + 5)) inside cells bodies
  ready-rec {v} {inside} known k =
      record {
        short = ready.short;
        inside = k;
        cells_room = ready.cells_room;
        bodies_room = ready.bodies_room;
        few_places = omega (arith, ready.few_places);
        few_recs = omega (arith, ready.few_recs);
        owners_known = ap length known.owners_are ∙ length-set scope.owners v from.recs ∙ ready.owners_known;
      }

  -- behind a part
  pub ready_on : {t : Tree} {r : List ℕ} {mid : Standing} {cells' bodies' : List ℕ}
      → PartRead text from scope cells bodies t r mid cells' bodies'
      → (gap : ℕ) → mid.at + gap ≤ length text → Ready text (onward mid (mid.at + gap) 0) scope cells' bodies'
  ready_on {t} part gap k =
      let few = few-in t in
      record {
        short = ready.short;
        inside = k;
        cells_room = part.cells_room;
        bodies_room = part.bodies_room;
        few_places = omega (arith, ready.few_places, part.places_are, part.at_is, few.1);
        few_recs = omega (arith, ready.few_recs, part.recs_are, part.at_is, few.2);
        owners_known = ready.owners_known;
      }
