-- A row holds exactly the codes of its moves: a held code is that of a move of the row, and the code of every move is held. By
-- recursion on the row.
-- Assumes nothing.
use mathlib.Core.Path.{◌≡◌, refl, sym, ap, subst, ◌∙◌}
use mathlib.Core.Bool.{Bool, true, false, cond}
use mathlib.Core.Option.{some, some-injective, none-ne-some}
use mathlib.Core.List.Memᴰ
use mathlib.Core.List.{List, [], ◌∷◌, map, Memᴰ}
use Prim.Native.Nat.{ℕ}
use lib.Dec.{T, eqb, eqb→eq, eqb_refl}
use Rattle.model.specs.Plan.{Move, held}

-- a held code is that of a move of the row, with the next state of that move
pub move-of : (row : List Move) (code to : ℕ) → held row code ≡ some to → (m : Move) × Memᴰ m row × (m.code ≡ code) × (m.to ≡ to)
unfolding held
move-of [] code to e = absurd (none-ne-some to e)
move-of (m ∷ row) code to e = go (eqb m.code code) (eqb→eq m.code code) (move-of row code to) e
  where
    go : (t : Bool) → (T t → m.code ≡ code) → (held row code ≡ some to → (l : Move) × Memᴰ l row × (l.code ≡ code) × (l.to ≡ to))
        → cond t (some m.to) (held row code) ≡ some to → (l : Move) × Memᴰ l (m ∷ row) × (l.code ≡ code) × (l.to ≡ to)
    go true q below e = (m, Memᴰ.head refl, q tt, some-injective m.to to e)
    go false q below e = let w = below e in (w.0, Memᴰ.tail w.1, w.2, w.3)

-- the code of a move of the row is held
pub code-held : (row : List Move) (m : Move) → Memᴰ m row → (to : ℕ) × (held row m.code ≡ some to)
unfolding held
code-held [] m x = elim x [ ]
code-held (l ∷ row) m (Memᴰ.head e) =
    go (eqb l.code m.code) (subst (λ (x : Move). T (eqb x.code m.code)) e (eqb_refl m.code))
  where
    go : (t : Bool) → T t → (to : ℕ) × (cond t (some l.to) (held row m.code) ≡ some to)
    go true s = (l.to, refl)
    go false s = absurd s
code-held (l ∷ row) m (Memᴰ.tail d) = go (eqb l.code m.code) (code-held row m d)
  where
    go : (t : Bool) → (to : ℕ) × (held row m.code ≡ some to) → (to : ℕ) × (cond t (some l.to) (held row m.code) ≡ some to)
    go true w = (l.to, refl)
    go false w = w

-- ---- a row made of codes, with a next state for each

module _ (f : ℕ → ℕ) where
  abbrev to-move : ℕ → Move
  to-move c = record { code = c; to = f c }

  pub held-elim : (cs : List ℕ) (c i : ℕ) → held (map to-move cs) c ≡ some i → Memᴰ c cs × (f c ≡ i)
  held-elim cs c i e =
      let w = move-of (map to-move cs) c i e in
      let v = Memᴰ.of_map to-move cs w.1 in
      let q : v.0 ≡ c = ap (λ (m : Move). m.code) v.2 ∙ w.2 in
      (Memᴰ.cast (sym q) v.1, ap f (sym q) ∙ ap (λ (m : Move). m.to) v.2 ∙ w.3)

  pub held-intro : {cs : List ℕ} {c : ℕ} → Memᴰ c cs → held (map to-move cs) c ≡ some (f c)
  held-intro {cs} {c} m =
      let w = code-held (map to-move cs) (to-move c) (Memᴰ.map to-move m) in
      w.1 ∙ ap some (sym (held-elim cs c w.0 w.1).1)
