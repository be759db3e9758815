-- What a family joined with each kind of cell, or with the body of a rec, is; and that what it absorbed it absorbs still.
-- Assumes nothing.
use mathlib.Core.Path.{◌≡◌, refl, sym, ap, subst, subst⁻¹, ◌∙◌}
use mathlib.Core.Logic.{⊎_elim}
use mathlib.Core.List.Memᴰ
use mathlib.Core.List.{List, [], ◌∷◌}
use Prim.Native.Nat.{ℕ, ◌+◌, ◌-◌, ◌*◌, ◌^◌, ◌<◌, ◌≤◌}
use native.Mathlib.Omega.{arith}
use lib.ListN.{length, get_or, take, drop}
use lib.Dec.{T}
use lib.Bits.{bit_or, bit_and}
use borrow.Author.Tests.{lt-ltb, le-ltb}
use Rattle.model.specs.Contract.{has}
use Rattle.model.proofs.Lists.{and_both}
use Rattle.model.proofs.Bits.{has-or-cases, has-and}
use Rattle.model.proofs.Masks.{power-has}
use Rattle.families.specs.Families.{in_family, Forced, Unions}
use Rattle.text.specs.Places.{Sense, sense_at}
use Rattle.text.specs.Cells.{Explained, cell_at, unpacked, place_of}
use Rattle.text_ready.specs.Joined.{Family, Joined, Absorbs, United}
use Rattle.text_ready.specs.Ready.{Holds, Held, ready_by, Settled, JoinedBy, Added}
use Rattle.text_ready.proofs.Joins.{right-small, joined_end, joined-then, absorbs-on}

-- unions with the masks of a family that holds a list: joined with the list
all-unions : (family part family' l : List ℕ) → Unions family part family' → Holds part l → Joined (in_family family) l (in_family family')
all-unions family part family' l u holds m h = (
  (λ t. let w = u.comes m h t in (w.0, w.1, w.2, w.3, (holds w.1 w.4).0 w.5, w.6)),
  (λ w.
      let small = right-small w.0 w.1 m h w.5 in
      u.gives m w.0 w.1 h w.2 small w.3 ((holds w.1 small).1 w.4) w.5),
)

module _ (cells bodies : List ℕ) where
  -- ---- what links lead to

  place-of-place : (link : ℕ) → link < 256 → place_of cells bodies link ≡ link
  unfolding place_of
  place-of-place link h = rw (lt-ltb link 256 h) refl

  place-of-body : (r : ℕ) → place_of cells bodies (256 + r) ≡ get_or bodies r 0
  unfolding place_of
  place-of-body r =
      let e : 256 + r - 256 ≡ r = omega arith in
      rw (le-ltb (256 + r) 256 (omega arith)) (ap (λ (x : ℕ). get_or bodies x 0) e)

  pub ready-place : (senses : List Sense) (link : ℕ) → link < 256 → ready_by cells bodies senses link ≡ (sense_at senses link).ready
  unfolding ready_by
  ready-place senses link h = ap (λ (p : ℕ). (sense_at senses p).ready) (place-of-place link h)

  pub ready-body : (senses : List Sense) (r : ℕ) → get_or bodies r 0 < 256
      → ready_by cells bodies senses (256 + r) ≡ ready_by cells bodies senses (get_or bodies r 0)
  unfolding ready_by
  ready-body senses r h = ap (λ (p : ℕ). (sense_at senses p).ready) (place-of-body r ∙ sym (place-of-place (get_or bodies r 0) h))

  -- ---- what stays settled

  settled_on : (senses : List Sense) (F G : Family) (l : List ℕ) (recs : ℕ) → Settled cells bodies senses F recs → Joined F l G
      → Settled cells bodies senses G recs
  settled_on senses F G l recs s j r h t = absorbs-on F G (ready_by cells bodies senses (256 + r)) l (s r h t) j

-- told the families that are held
module _ (cells bodies held : List ℕ) where
  -- ---- the same in other words

  pub at-link : {link link' recs recs' : ℕ} {family family' : List ℕ} → link ≡ link'
      → JoinedBy cells bodies held link recs family family' recs' → JoinedBy cells bodies held link' recs family family' recs'
  at-link {link} {link'} {recs} {recs'} {family} {family'} e a =
      subst (λ (x : ℕ). JoinedBy cells bodies held x recs family family' recs') e a

  -- ---- the end and prefixes

  pub end-joined : (recs : ℕ) {family : List ℕ} → length family ≡ 256 → JoinedBy cells bodies held 0 recs family family recs
  end-joined recs {family} long = record {
    room = long;
    joined = λ senses x k s.
        let e : ready_by cells bodies senses 0 ≡ 0 ∷ [] = ready-place cells bodies senses 0 (omega arith) ∙ x.end_ready in
        subst⁻¹ (λ (l : List ℕ). Joined (in_family family) l (in_family family)) e (joined_end (in_family family));
    settled = λ senses x k s. s;
  }

  -- every mask gained an action: joined with that action alone
  gained : (j : ℕ) {family family' : List ℕ} → Forced j family family' → Joined (in_family family) (2 ^ j ∷ []) (in_family family')
  gained j f m h = (
    (λ t. let w = f.comes m h t in (w.0, 2 ^ j, w.1, w.2, Memᴰ.head refl, w.3)),
    (λ u. f.gains m u.0 h u.2 u.3 (u.5 ∙ ap (bit_or u.0) (Memᴰ.eq_of_singleton u.4))),
  )

  pub prefix-joined : (p recs : ℕ) {family family' : List ℕ} → 0 < p → p < 256 → p < length cells
      → {kind : ℕ} → kind ≡ (unpacked (get_or cells p 0)).kind → kind < 14 → length family' ≡ 256 → Forced kind family family'
      → JoinedBy cells bodies held p recs family family' recs
  unfolding cell_at
  prefix-joined p recs {family} {family'} some small inside {kind} is prefix long f = record {
    room = long;
    joined = λ senses x k s.
        let h = subst (λ (k : ℕ). k < 14) is prefix in
        let e = ready-place cells bodies senses p small ∙ x.prefix_ready p some inside h ∙ ap (λ (k : ℕ). 2 ^ k ∷ []) (sym is) in
        subst⁻¹ (λ (l : List ℕ). Joined (in_family family) l (in_family family')) e (gained kind f);
    settled = λ senses x k s. settled_on cells bodies senses (in_family family) (in_family family') _ recs s (gained kind f);
  }

  -- ---- +

  pub plus-joined : (p recs recs' recs'' : ℕ) {family between family' : List ℕ} → 0 < p → p < 256 → p < length cells
      → (unpacked (get_or cells p 0)).kind ≡ 14
      → JoinedBy cells bodies held (unpacked (get_or cells p 0)).left recs family between recs'
      → JoinedBy cells bodies held (unpacked (get_or cells p 0)).right recs' between family' recs''
      → JoinedBy cells bodies held p recs family family' recs''
  unfolding cell_at ready_by
  plus-joined p recs recs' recs'' {family} {between} {family'} some small inside plus a b = record {
    room = b.room;
    joined = λ senses x k s.
        let e = ready-place cells bodies senses p small ∙ x.plus_ready p some inside plus in
        subst⁻¹ (λ (l : List ℕ). Joined (in_family family) l (in_family family')) e
        (joined-then (in_family family) (in_family between) (in_family family') _ _ (a.joined senses x k s)
        (b.joined senses x k (a.settled senses x k s)));
    settled = λ senses x k s. b.settled senses x k (a.settled senses x k s);
  }

  -- ---- bodies

  -- a body that is known to change nothing
  pub body-known : (r recs : ℕ) {family : List ℕ} → r < 64 → T (has recs r) → length family ≡ 256
      → JoinedBy cells bodies held (256 + r) recs family family recs
  body-known r recs h t long = record { room = long; joined = λ senses x k s. s r h t; settled = λ senses x k s. s }

  pub body-joined : (r recs recs' : ℕ) {family family' : List ℕ} → get_or bodies r 0 < 256
      → JoinedBy cells bodies held (get_or bodies r 0) recs family family' recs'
      → JoinedBy cells bodies held (256 + r) recs family family' recs'
  body-joined r recs recs' {family} {family'} small a = record {
    room = a.room;
    joined = λ senses x k s.
        subst⁻¹ (λ (l : List ℕ). Joined (in_family family) l (in_family family')) (ready-body cells bodies senses r small)
        (a.joined senses x k s);
    settled = a.settled;
  }

  -- a body whose family is held
  pub held-joined : (r recs : ℕ) {family part family' : List ℕ} → 256 * (r + 1) ≤ length held → part ≡ take 256 (drop (256 * r) held)
      → length family' ≡ 256 → Unions family part family' → JoinedBy cells bodies held (get_or bodies r 0) recs family family' recs
  held-joined r recs {family} {part} {family'} fits is long u = record {
    room = long;
    joined = with-held;
    settled = λ senses x k s. settled_on cells bodies senses (in_family family) (in_family family') _ recs s (with-held senses x k s);
  }
    where
      with-held : (senses : List Sense) → Explained cells bodies senses → Held cells bodies senses held
          → Settled cells bodies senses (in_family family) recs
          → Joined (in_family family) (ready_by cells bodies senses (get_or bodies r 0)) (in_family family')
      with-held senses x k s = all-unions family part family' _ u
          (subst⁻¹ (λ (l : List ℕ). Holds l (ready_by cells bodies senses (get_or bodies r 0))) is (k r fits))

  -- a body that changed nothing is noted
  pub body-noted : (r recs recs' : ℕ) {recs'' : ℕ} {family family' : List ℕ} → recs'' ≡ bit_or recs' (2 ^ r) → family ≡ family'
      → JoinedBy cells bodies held (256 + r) recs family family' recs' → JoinedBy cells bodies held (256 + r) recs family family' recs''
  body-noted r recs recs' {recs''} {family} {family'} is same a = record {
    room = a.room;
    joined = a.joined;
    settled = λ senses x k s q h t.
        let absorbed = subst (λ (l : List ℕ). Joined (in_family l) (ready_by cells bodies senses (256 + r)) (in_family family')) same
        (a.joined senses x k s) in
        ⊎_elim
        (λ u. a.settled senses x k s q h u)
        (λ u. subst⁻¹ (λ (y : ℕ). Absorbs (in_family family') (ready_by cells bodies senses (256 + y))) (power-has r q u) absorbed)
        (has-or-cases recs' (2 ^ r) q (subst (λ (y : ℕ). T (has y q)) is t));
  }

  -- ---- a part of an internal choice

  pub part-added : (link recs kept recs' : ℕ) {start part all all' : List ℕ} → JoinedBy cells bodies held link recs start part recs'
      → length all' ≡ 256 → United (in_family all) (in_family part) (in_family all')
      → Added cells bodies held link recs start all all' kept (bit_and kept recs')
  part-added link recs kept recs' {start} {part} a long u = record {
    room = long;
    added = λ senses x k s. (
      in_family part,
      a.joined senses x k s,
      u,
      λ r h t.
          let both = and_both (has kept r) (has recs' r) (subst T (has-and kept recs' r) t) in
          (both.0, a.settled senses x k s r h both.1),
    );
  }
