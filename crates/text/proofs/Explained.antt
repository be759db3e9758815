-- The cells of a term say what its places mean. A variable that is free in a part belongs to a rec begun before the part, whose body is a
-- place that can be followed to its end through recs begun before that one: the variables under no prefix in a body are others than the
-- rec's own. So every link ends, and leads to the place of its part; and what the list of places has there is what the part means.
-- Assumes nothing.
use mathlib.Core.Path.{◌≡◌, refl, ap, sym, subst, subst⁻¹, ◌∙◌}
use mathlib.Core.Logic.{◌⊎◌, inl, inr}
use mathlib.Core.List.{List, [], ◌∷◌, ◌++◌}
use Prim.Native.Nat.{ℕ, zero, suc, ◌+◌, ◌^◌, ◌<◌, ◌≤◌}
use native.Mathlib.Omega.{arith}
use lib.ListN.{length, get_or, set, length-map, get_or-map}
use lib.Seq.{get_or-set_same, get_or-set_other}
use lib.Bits.{bit_or}
use Rattle.model.specs.Lists.{combine}
use Rattle.text.specs.Terms.{
  Term,
  end,
  before,
  plus,
  inner,
  loop,
  name,
  Free,
  f_before,
  f_plus_left,
  f_plus_right,
  f_inner_left,
  f_inner_right,
  f_loop,
  Naked,
  n_name,
  n_plus_left,
  n_plus_right,
  n_inner_left,
  n_inner_right,
  n_loop,
  Faulty,
  y_here,
  y_loop,
}
use Rattle.text.specs.Places.{
  Sense,
  the_end,
  Scope,
  no_scope,
  within,
  size_of,
  place_in,
  sense_in,
  places_of,
  first_place,
  sense_at,
}
use Rattle.text.specs.Cells.{
  Cell,
  packed,
  unpacked,
  Owners,
  recs_of,
  link_to,
  choice_cell,
  cells_in,
  bodies_in,
  no_owners,
  cell_numbers,
  body_links,
  cell_at,
  place_of,
  Ends,
  at_end,
  at_prefix,
  at_choice,
  at_variable,
  Explained,
}
use Rattle.text.proofs.Substitution.{closed, Values, same-or-other}
use Rattle.text.proofs.Variables.{naked-free}
use Rattle.text.proofs.Senses.{within_same, within-other, sense-place, senses-length}
use Rattle.text.proofs.Stands.{
  ActionsBelow,
  Stands,
  at-root,
  in-before,
  in-plus-left,
  in-plus-right,
  in-inner-left,
  in-inner-right,
  in-loop,
  other-naked,
  part_sound,
  part-below,
  part-entry,
}
use Rattle.text.proofs.Inside.{Inside, inside-right, inside-third, inside-fits, inside-first}
use Rattle.text.proofs.Cells.{cells-length, unpacked-packed, link_fits}
use Rattle.text.proofs.Derived.{NamesBelow}
use Rattle.text.proofs.Links.{Leads, leads, leads-inside, leads-guarded, leads-to}
use Rattle.text.proofs.Recs.{
  recs_at,
  owners_at,
  link_at,
  part-names,
  owners-three,
  owners-below,
  cells-inside,
  bodies-inside,
  part-size,
  bodies-many,
  part-recs,
  IsPlace,
  a_prefix,
  a-plus,
  an-inner,
  find,
  IsRec,
  a_rec,
  find-rec,
}

-- the cell of a prefix
abbrev prefix_cell : ℕ → ℕ → Cell
prefix_cell j link = record { kind = j; left = link; right = 0 }

-- What cells say of one place with this cell, as `Explained` says it of all.
record Told (cells bodies : List ℕ) (senses : List Sense) (p : ℕ) (x : Cell) : Type 0 where
  ends : Ends cells bodies (length bodies) p
  prefix_ends : x.kind < 14 → Ends cells bodies (length bodies) x.left
  prefix_ready : x.kind < 14 → (sense_at senses p).ready ≡ 2 ^ x.kind ∷ []
  prefix_steps : x.kind < 14 → (sense_at senses p).steps ≡ record { action = x.kind; to = place_of cells bodies x.left } ∷ []
  plus_ready : x.kind ≡ 14
      → (sense_at senses p).ready
      ≡ combine bit_or (sense_at senses (place_of cells bodies x.left)).ready (sense_at senses (place_of cells bodies x.right)).ready
  inner_ready : x.kind ≡ 15
      → (sense_at senses p).ready
      ≡ (sense_at senses (place_of cells bodies x.left)).ready ++ (sense_at senses (place_of cells bodies x.right)).ready
  choice_steps : 14 ≤ x.kind
      → (sense_at senses p).steps
      ≡ (sense_at senses (place_of cells bodies x.left)).steps ++ (sense_at senses (place_of cells bodies x.right)).steps

module _ (root : Term) (whole : closed root) (sound : Faulty root → ⊥) (actions : ActionsBelow root) (names : NamesBelow root) where
  abbrev cells : List ℕ
  cells = cell_numbers root

  abbrev bodies : List ℕ
  bodies = body_links root

  abbrev senses : List Sense
  senses = places_of root

  many : length cells ≡ suc (size_of root)
  unfolding cell_numbers
  many = ap suc (length-map (cells_in no_owners 0 0 root) packed ∙ cells-length root no_owners 0 0)

  module _ (few : size_of root ≤ 255) (recs : recs_of root ≤ 51) where
    -- ---- a part's own cell

    part-few : {scope : Scope} {σ : Values} {n : ℕ} {t : Term} → Stands root scope σ n t → n + size_of t ≤ 255
    part-few w = omega (arith, few, part-size w)

    part-leads : {scope : Scope} {σ : Values} {n : ℕ} {t : Term} (w : Stands root scope σ n t) → Leads scope (owners_at w) n t (link_at w)
    part-leads {scope} {σ} {n} {t} w = leads t scope (owners_at w) n (recs_at w) (part_sound root sound actions w) (part-few w)

    part-fits : {scope : Scope} {σ : Values} {n : ℕ} {t : Term} (w : Stands root scope σ n t) → link_at w < 512
    part-fits {scope} {σ} {n} {t} w =
        let own = part-recs w in
        link_fits t (owners_at w) n (recs_at w) (part-few w) (λ x. omega (arith, owners-below w x, own, recs)) (omega (arith, own, recs))

    -- what the list has at a place
    abbrev Celled : ℕ → Cell → Type 0
    Celled p x = (cell_at cells bodies p ≡ x) × (p < length cells)

    last-celled : {n : ℕ} (x : Cell) → Inside (cells_in no_owners 0 0 root) (x ∷ []) n → x.kind < 16 → x.left < 512 → Celled (suc n) x
    unfolding cell_at cell_numbers packed
    last-celled {n} x own small fits =
        let all = cells_in no_owners 0 0 root in
        let blank = prefix_cell 0 0 in (
          ap unpacked (get_or-map packed all n blank ∙ ap packed (inside-first x [] blank own)) ∙ unpacked-packed x small fits,
          omega (arith, inside-fits own, length-map all packed),
        )

    prefix-celled : {scope : Scope} {σ : Values} {n j : ℕ} {t : Term} (w : Stands root scope σ n (before j t))
        → Celled (suc (n + size_of t)) (prefix_cell j (link_to (owners_at w) n (recs_at w) t))
    unfolding cells_in owners_at recs_at
    prefix-celled {scope} {σ} {n} {j} {t} w =
        let x = prefix_cell j (link_to (owners_at w) n (recs_at w) t) in
        last-celled x
        (inside-right (cells_in (owners_at w) n (recs_at w) t) (x ∷ []) (size_of t) (cells-length t (owners_at w) n (recs_at w)) (cells-inside w))
        (omega (arith, (part-below root sound actions w).0)) (part-fits (in-before j t w))

    choice-celled : (t u : Term) (owners : Owners) (n r kind : ℕ) → kind < 16 → link_to owners n r t < 512
        → Inside (cells_in no_owners 0 0 root)
        (cells_in owners n r t ++ (cells_in owners (n + size_of t) (r + recs_of t) u ++ (choice_cell owners n r kind t u ∷ []))) n
        → Celled (suc (n + (size_of t + size_of u))) (choice_cell owners n r kind t u)
    unfolding choice_cell
    choice-celled t u owners n r kind small fits k =
        last-celled (choice_cell owners n r kind t u)
        (inside-third (cells_in owners n r t) (cells_in owners (n + size_of t) (r + recs_of t) u) (choice_cell owners n r kind t u ∷ []) (size_of t)
        (size_of u) (cells-length t owners n r) (cells-length u owners (n + size_of t) (r + recs_of t)) k)
        small fits

    plus-celled : {scope : Scope} {σ : Values} {n : ℕ} {t u : Term} (w : Stands root scope σ n (plus t u))
        → Celled (suc (n + (size_of t + size_of u))) (choice_cell (owners_at w) n (recs_at w) 14 t u)
    unfolding cells_in owners_at recs_at
    plus-celled {scope} {σ} {n} {t} {u} w =
        choice-celled t u (owners_at w) n (recs_at w) 14 (omega arith) (part-fits (in-plus-left t u w)) (cells-inside w)

    inner-celled : {scope : Scope} {σ : Values} {n : ℕ} {t u : Term} (w : Stands root scope σ n (inner t u))
        → Celled (suc (n + (size_of t + size_of u))) (choice_cell (owners_at w) n (recs_at w) 15 t u)
    unfolding cells_in owners_at recs_at
    inner-celled {scope} {σ} {n} {t} {u} w =
        choice-celled t u (owners_at w) n (recs_at w) 15 (omega arith) (part-fits (in-inner-left t u w)) (cells-inside w)

    -- ---- links end

    abbrev Ending : (b link : ℕ) → Type 0
    Ending = Ends cells bodies

    -- a rec below a bound, whose body is a place that ends through recs before it
    abbrev HasEnd : (b k : ℕ) → Type 0
    HasEnd b k = (k < b) × (k < length bodies) × (get_or bodies k 0 < 256) × Ending k (get_or bodies k 0)

    prefix-ending : (b p : ℕ) (x : Cell) → Celled p x → 0 < p → p < 256 → x.kind < 14 → Ending b p
    prefix-ending b p x own some small =
        subst (λ (y : Cell). y.kind < 14 → Ending b p) own.0 (at_prefix b p some small own.1)

    choice-ending : (b p : ℕ) (x : Cell) → Celled p x → 0 < p → p < 256 → 14 ≤ x.kind → (x.left < 256 → x.left < p)
        → (x.right < 256 → x.right < p) → Ending b x.left → Ending b x.right → Ending b p
    choice-ending b p x own some small =
        subst
        (λ (y : Cell). 14 ≤ y.kind → (y.left < 256 → y.left < p) → (y.right < 256 → y.right < p) → Ending b y.left
        → Ending b y.right → Ending b p)
        own.0 (at_choice b p some small own.1)

    -- a part's link ends, if those of the variables under no prefix do
    part-ends : (t : Term) {scope : Scope} {σ : Values} {n : ℕ} (w : Stands root scope σ n t) (b : ℕ)
        → ((x : ℕ) → Naked x t → HasEnd b (get_or (owners_at w) x 0)) → Ending b (link_at w)
    unfolding link_to size_of owners_at recs_at choice_cell
    part-ends end w b h = at_end b
    part-ends (before j t) {scope} {σ} {n} w b h =
        prefix-ending b (suc (n + size_of t)) (prefix_cell j (link_to (owners_at w) n (recs_at w) t)) (prefix-celled w) (omega arith)
        (omega (arith, part-few w)) (part-below root sound actions w).0
    part-ends (plus t u) {scope} {σ} {n} w b h =
        let one = in-plus-left t u w in
        let two = in-plus-right t u w in
        choice-ending b (suc (n + (size_of t + size_of u))) (choice_cell (owners_at w) n (recs_at w) 14 t u) (plus-celled w) (omega arith)
        (omega (arith, part-few w)) (omega arith) (λ l. omega (arith, leads-inside (part-leads one) l))
        (λ l. omega (arith, leads-inside (part-leads two) l)) (part-ends t one b (λ x k. h x (n_plus_left t u k)))
        (part-ends u two b (λ x k. h x (n_plus_right t u k)))
    part-ends (inner t u) {scope} {σ} {n} w b h =
        let one = in-inner-left t u w in
        let two = in-inner-right t u w in
        choice-ending b (suc (n + (size_of t + size_of u))) (choice_cell (owners_at w) n (recs_at w) 15 t u) (inner-celled w) (omega arith)
        (omega (arith, part-few w)) (omega arith) (λ l. omega (arith, leads-inside (part-leads one) l))
        (λ l. omega (arith, leads-inside (part-leads two) l)) (part-ends t one b (λ x k. h x (n_inner_left t u k)))
        (part-ends u two b (λ x k. h x (n_inner_right t u k)))
    part-ends (loop v t) w b h =
        part-ends t (in-loop v t w) b (λ x k.
        let d : x ≡ v → ⊥ = λ e. other-naked v t (part_sound root sound actions w) x k (sym e) in
        subst⁻¹ (HasEnd b) (get_or-set_other (owners_at w) v x (recs_at w) 0 d) (h x (n_loop v t d k)))
    part-ends (name v) {scope} {σ} {n} w b h = let k = h v n_name in at_variable b (get_or (owners_at w) v 0) k.0 k.1 k.2 k.3

    -- ---- what is known of a variable that is free in a part

    -- its rec begins before the part and has an end, and its body is at the variable's place
    abbrev Owned : (b place k : ℕ) → Type 0
    Owned b place k = HasEnd b k × (get_or bodies k 0 ≡ place)

    owned-later : {b c place k : ℕ} → b ≤ c → Owned b place k → Owned c place k
    owned-later le ((l, one, place, ends), is) = ((omega (arith, le, l), one, place, ends), is)

    -- a rec's body is in its place among the bodies
    body_is : {scope : Scope} {σ : Values} {n : ℕ} (v : ℕ) (t : Term) (w : Stands root scope σ n (loop v t))
        → get_or bodies (recs_at w) 0 ≡ link_at (in-loop v t w)
    unfolding bodies_in owners_at recs_at
    body_is {n = n} v t w =
        let inside = set (owners_at w) v (recs_at w) in
        inside-first (link_to inside n (suc (recs_at w)) t) (bodies_in inside n (suc (recs_at w)) t) 0 (bodies-inside w)

    -- and ends through recs before it
    body-ending : {scope : Scope} {σ : Values} {n : ℕ} (v : ℕ) (t : Term) (w : Stands root scope σ n (loop v t))
        → ((x : ℕ) → Free x (loop v t) → Owned (recs_at w) (scope x).place (get_or (owners_at w) x 0))
        → Ending (recs_at w) (get_or bodies (recs_at w) 0)
    unfolding owners_at recs_at
    body-ending v t w h =
        let r = recs_at w in
        subst⁻¹ (Ending r) (body_is v t w)
        (part-ends t (in-loop v t w) r (λ x k.
        let d : x ≡ v → ⊥ = λ e. other-naked v t (part_sound root sound actions w) x k (sym e) in
        subst⁻¹ (HasEnd r) (get_or-set_other (owners_at w) v x r 0 d) (h x (f_loop v t d (naked-free k))).0))

    -- A rec's own variable, in its body: as it stands under a prefix there, the body is no variable.
    own-owned : {scope : Scope} {σ : Values} {n : ℕ} (v : ℕ) (t : Term) (w : Stands root scope σ n (loop v t)) → Free v t
        → ((x : ℕ) → Free x (loop v t) → Owned (recs_at w) (scope x).place (get_or (owners_at w) x 0))
        → Owned (suc (recs_at w)) (sense_in scope n (loop v t)).place (recs_at w)
    unfolding bodies_in owners_at recs_at place_in
    own-owned {scope} {σ} {n} v t w g h =
        let f = part_sound root sound actions w in
        let r = recs_at w in
        let at = body_is v t w in
        let place =
        leads-guarded (leads t scope (set (owners_at w) v r) n (suc r) (λ y. f (y_loop v t y)) (part-few (in-loop v t w))) v g
        (λ k. f (y_here v t k)) in (
          (omega arith, omega (arith, inside-fits (bodies-inside w)), subst⁻¹ (λ (q : ℕ). q < 256) at place.0, body-ending v t w h),
          at ∙ place.1 ∙ sym (sense-place (loop v t) n scope f),
        )

    free-owned : {scope : Scope} {σ : Values} {n : ℕ} {t : Term} (w : Stands root scope σ n t) (x : ℕ) → Free x t
        → Owned (recs_at w) (scope x).place (get_or (owners_at w) x 0)
    unfolding owners_at recs_at
    free-owned at-root x g = absurd (whole x g)
    free-owned (in-before j t w) x g = free-owned w x (f_before j t g)
    free-owned (in-plus-left t u w) x g = free-owned w x (f_plus_left t u g)
    free-owned (in-plus-right t u w) x g = owned-later (omega arith) (free-owned w x (f_plus_right t u g))
    free-owned (in-inner-left t u w) x g = free-owned w x (f_inner_left t u g)
    free-owned (in-inner-right t u w) x g = owned-later (omega arith) (free-owned w x (f_inner_right t u g))
    free-owned (in-loop {scope = scope} {n = n} v t w) x g =
        go (same-or-other v x) (λ i. own-owned v t w i (λ y k. free-owned w y k)) (λ d. free-owned w x (f_loop v t d g))
      where
        own : Sense
        own = sense_in scope n (loop v t)

        go : (v ≡ x) ⊎ (v ≡ x → ⊥) → (Free v t → Owned (suc (recs_at w)) own.place (recs_at w))
            → ((x ≡ v → ⊥) → Owned (recs_at w) (scope x).place (get_or (owners_at w) x 0))
            → Owned (suc (recs_at w)) (within scope v own x).place (get_or (set (owners_at w) v (recs_at w)) x 0)
        go (inl e) a b =
            let at : get_or (set (owners_at w) v (recs_at w)) x 0 ≡ recs_at w =
            ap (λ (y : ℕ). get_or (set (owners_at w) v (recs_at w)) y 0) (sym e)
            ∙ get_or-set_same (owners_at w) v (recs_at w) 0 (omega (arith, owners-three w, (part-names names w).0)) in
            subst⁻¹ (λ (s : Sense). Owned (suc (recs_at w)) s.place (get_or (set (owners_at w) v (recs_at w)) x 0)) (within_same scope v own x e)
            (subst⁻¹ (Owned (suc (recs_at w)) own.place) at (a (subst⁻¹ (λ (y : ℕ). Free y t) e g)))
        go (inr d) a b =
            let i : x ≡ v → ⊥ = λ e. d (sym e) in
            subst⁻¹ (λ (s : Sense). Owned (suc (recs_at w)) s.place (get_or (set (owners_at w) v (recs_at w)) x 0)) (within-other scope v own x d)
            (subst⁻¹ (Owned (suc (recs_at w)) (scope x).place) (get_or-set_other (owners_at w) v x (recs_at w) 0 i) (owned-later (omega arith) (b i)))

    -- ---- every link ends, and leads to the place of its part

    link-ends : {scope : Scope} {σ : Values} {n : ℕ} {t : Term} (w : Stands root scope σ n t) → Ending (length bodies) (link_at w)
    link-ends {t = t} w =
        let early : recs_at w ≤ length bodies = omega (arith, part-recs w, bodies-many root) in
        part-ends t w (length bodies) (λ x k. (owned-later early (free-owned w x (naked-free k))).0)

    link-place : {scope : Scope} {σ : Values} {n : ℕ} {t : Term} (w : Stands root scope σ n t)
        → place_of cells bodies (link_at w) ≡ place_in scope n t
    link-place w = leads-to cells bodies (part-leads w) (λ x k. (free-owned w x (naked-free k)).1)

    link-sense : {scope : Scope} {σ : Values} {n : ℕ} {t : Term} (w : Stands root scope σ n t)
        → sense_at senses (place_of cells bodies (link_at w)) ≡ sense_in scope n t
    link-sense w = ap (sense_at senses) (link-place w) ∙ (part-entry root sound actions w).0

    -- ---- what is said of each place

    prefix-told : {scope : Scope} {σ : Values} {n : ℕ} (j : ℕ) (t : Term) (w : Stands root scope σ n (before j t))
        → Told cells bodies senses (suc (n + size_of t)) (prefix_cell j (link_to (owners_at w) n (recs_at w) t))
    unfolding link_to place_in sense_in owners_at recs_at
    prefix-told {scope} {σ} {n} j t w =
        let small : j < 14 = (part-below root sound actions w).0 in
        let behind = in-before j t w in
        let is : sense_at senses (suc (n + size_of t)) ≡ sense_in scope n (before j t) = (part-entry root sound actions w).0 in
        record {
          ends = link-ends w;
          prefix_ends = λ k. link-ends behind;
          prefix_ready = λ k. ap (λ (s : Sense). s.ready) is;
          prefix_steps = λ k. ap (λ (s : Sense). s.steps) is ∙ rw (link-place behind) refl;
          plus_ready = λ e. absurd (omega (arith, small, e));
          inner_ready = λ e. absurd (omega (arith, small, e));
          choice_steps = λ k. absurd (omega (arith, small, k));
        }

    choice-told : (p : ℕ) (x : Cell) (s l r : Sense) → Ending (length bodies) p → 14 ≤ x.kind → sense_at senses p ≡ s
        → sense_at senses (place_of cells bodies x.left) ≡ l → sense_at senses (place_of cells bodies x.right) ≡ r
        → (x.kind ≡ 14 → s.ready ≡ combine bit_or l.ready r.ready) → (x.kind ≡ 15 → s.ready ≡ l.ready ++ r.ready)
        → s.steps ≡ l.steps ++ r.steps → Told cells bodies senses p x
    choice-told p x s l r e large is one two both either steps =
        record {
          ends = e;
          prefix_ends = λ k. absurd (omega (arith, large, k));
          prefix_ready = λ k. absurd (omega (arith, large, k));
          prefix_steps = λ k. absurd (omega (arith, large, k));
          plus_ready = λ k. rw (is, one, two) (both k);
          inner_ready = λ k. rw (is, one, two) (either k);
          choice_steps = λ k. rw (is, one, two) steps;
        }

    plus-told : {scope : Scope} {σ : Values} {n : ℕ} (t u : Term) (w : Stands root scope σ n (plus t u))
        → Told cells bodies senses (suc (n + (size_of t + size_of u))) (choice_cell (owners_at w) n (recs_at w) 14 t u)
    unfolding link_to place_in sense_in owners_at recs_at choice_cell
    plus-told {scope} {σ} {n} t u w =
        choice-told (suc (n + (size_of t + size_of u))) (choice_cell (owners_at w) n (recs_at w) 14 t u) (sense_in scope n (plus t u))
        (sense_in scope n t) (sense_in scope (n + size_of t) u) (link-ends w) (omega arith) (part-entry root sound actions w).0
        (link-sense (in-plus-left t u w)) (link-sense (in-plus-right t u w)) (λ e. refl) (λ e. absurd (omega (arith, e))) refl

    inner-told : {scope : Scope} {σ : Values} {n : ℕ} (t u : Term) (w : Stands root scope σ n (inner t u))
        → Told cells bodies senses (suc (n + (size_of t + size_of u))) (choice_cell (owners_at w) n (recs_at w) 15 t u)
    unfolding link_to place_in sense_in owners_at recs_at choice_cell
    inner-told {scope} {σ} {n} t u w =
        choice-told (suc (n + (size_of t + size_of u))) (choice_cell (owners_at w) n (recs_at w) 15 t u) (sense_in scope n (inner t u))
        (sense_in scope n t) (sense_in scope (n + size_of t) u) (link-ends w) (omega arith) (part-entry root sound actions w).0
        (link-sense (in-inner-left t u w)) (link-sense (in-inner-right t u w)) (λ e. absurd (omega (arith, e))) (λ e. refl) refl

    place-told : (p : ℕ) → IsPlace root p → Told cells bodies senses p (cell_at cells bodies p)
    place-told p (a_prefix {n = n} j t w) =
        subst⁻¹ (Told cells bodies senses (suc (n + size_of t))) (prefix-celled w).0 (prefix-told j t w)
    place-told p (a-plus {n = n} t u w) =
        subst⁻¹ (Told cells bodies senses (suc (n + (size_of t + size_of u)))) (plus-celled w).0 (plus-told t u w)
    place-told p (an-inner {n = n} t u w) =
        subst⁻¹ (Told cells bodies senses (suc (n + (size_of t + size_of u)))) (inner-celled w).0 (inner-told t u w)

    told : (p : ℕ) → 0 < p → p < length cells → Told cells bodies senses p (cell_at cells bodies p)
    told p some h = place-told p (find root at-root p some (omega (arith, h, many)))

    place-ends : (p : ℕ) → p < length cells → Ending (length bodies) p
    place-ends zero h = at_end (length bodies)
    place-ends (suc p) h = (told (suc p) (omega arith) h).ends

    rec-ends : {r : ℕ} → IsRec root r → Ending r (get_or bodies r 0)
    rec-ends (a_rec v t w) = body-ending v t w (free-owned w)

    body_ends : (r : ℕ) → r < length bodies → Ending r (get_or bodies r 0)
    unfolding recs_at
    body_ends r h = rec-ends (find-rec root at-root r (omega arith) (omega (arith, h, bodies-many root)))

    -- ---- the theorem

    -- The cells of a term say what its places mean.
    pub explained : Explained (cell_numbers root) (body_links root) (places_of root)
    unfolding places_of sense_at the_end
    explained =
        record {
          as_many = ap suc (senses-length root 0 no_scope) ∙ sym many;
          few = omega (arith, many, few);
          ends = place-ends;
          prefix_ends = λ p some h. (told p some h).prefix_ends;
          body_ends = body_ends;
          prefix_ready = λ p some h. (told p some h).prefix_ready;
          prefix_steps = λ p some h. (told p some h).prefix_steps;
          plus_ready = λ p some h. (told p some h).plus_ready;
          inner_ready = λ p some h. (told p some h).inner_ready;
          choice_steps = λ p some h. (told p some h).choice_steps;
          end_ready = refl;
          end_steps = refl;
        }

    -- What leads to the whole term leads to its first place, and ends.
    pub first-link : place_of (cell_numbers root) (body_links root) (link_to no_owners 0 0 root) ≡ first_place root
    unfolding first_place owners_at recs_at
    first-link = link-place at-root

    pub first_ends : Ends (cell_numbers root) (body_links root) (length (body_links root)) (link_to no_owners 0 0 root)
    unfolding owners_at recs_at
    first_ends = link-ends at-root
