-- The functions of the reader meet their contracts: each return is what its part of the grammar gives, and each call reads at less depth,
-- or the same depth at a smaller part of the grammar. Assumes nothing.
use mathlib.Core.Path.{◌≡◌, refl, sym, ap, ◌∙◌}
use mathlib.Core.List.{[], ◌∷◌}
use Prim.Native.Nat.{ℕ, ◌+◌, ◌-◌}
use native.Mathlib.Omega.{arith}
use native.Mathlib.Nat.{add-zero}
use lib.ListN.{length, drop}
use borrow.Author.Tests.{not-true, not-false}
use Rattle.std.specs.Prelude.{slice_get, Some}
use Rattle.std.proofs.lemmas.Result.{err_from_is_err_and}
use Rattle.text.specs.Grammar.{summed, chosen}
use Rattle.text.specs.Parser.{tight_at, sums_of, whole_of, acted}
use Rattle.text_reading.specs.Reading.{fails}
use Rattle.text_reading.specs.Reader.{NoneIn, ByteIn}
use Rattle.text_reading.proofs.Bytes.{here, next_is, next-not}
use Rattle.text_reading.proofs.Steps.{tight-step, tight-none, step-takes, step-sends, step-bracket, step-rec, step-leaf, sent-letter, sent-stops}
use Rattle.text_reading.proofs.Parts.{summing, choosing, bare-room}
use Rattle.text_reading.proofs.Outcome.{cells_stay, bodies_stay, failing, reading, began, ready-from, read-from, read-so, stopped-at, same_on, same_text}
use Rattle.text_reading.proofs.Chains.{chain-begins, chain-ends, chain-ready, chain-fails, chain_room, chain-goes, chain-further, sum_goes, sign-one, sign-two, choice-goes}
use Rattle.text_reading.proofs.Returns as so
use Rattle.text_reading.proofs.Reader.+grammar.Goals.{tight-in_default-via-in-Some+in_default+then-this-lt97, tight-in_default-via-in-Some+in_default+else-this-lt97+else-this-lt104, tight-in_default-via-in_default}
use Rattle.text_reading.proofs.Reader.+grammar.Goals as goal

pub behind-put_cell-requires : goal.behind-put_cell-requires
behind-put_cell-requires t c =
    (bare-room c.requires.0 c.args.self.now.at c.args.action (omega arith) c.requires.2, c.requires.0.cells_room)

pub behind-returns-then-ne : goal.behind-returns-then-ne
behind-returns-then-ne t c =
    let self = c.args.self.now in
    let p = tight_at (length self.text.now) c.args.depth in
    let put = c.put_cell.ensures in
    record {
      same = put.same;
      left = rw put.bodies_stay (
          so.behind-bare c.requires.0 p (whole_of (length self.text.now) p) self.at c.args.action (omega arith) c.requires.2
          (next-not self.text.now self.at c.byte.ensures refl (not-true _ (sym c.ne.ensures ∙ c.if-ne.true))) (put.put 0));
    }

pub behind-tight-requires : goal.behind-tight-requires
behind-tight-requires t c =
    let self = c.args.self.now in
    let p = tight_at (length self.text.now) c.args.depth in
    let dot = next_is self.text.now self.at c.byte.ensures refl (not-false _ (sym c.ne.ensures ∙ c.if-ne.false)) in (
      omega arith,
      so.behind-ready c.requires.0 p (whole_of (length self.text.now) p) self.at c.args.action (omega arith) c.requires.2 dot
          c.behind_prefix.ensures,
    )

pub behind-returns-in_err-part : goal.behind-returns-in_err-part
behind-returns-in_err-part t c =
    let e = err_from_is_err_and c.from_residual.result c.from_residual.ensures.1 in
    let self = c.args.self.now in
    let p = tight_at (length self.text.now) c.args.depth in
    let dot = next_is self.text.now self.at c.byte.ensures refl (not-false _ (sym c.ne.ensures ∙ c.if-ne.false)) in
    let part = c.in_err-part.ensures in
    rw (e.1, e.2) (
    record {
      same = part.same;
      left =
          so.behind-fails c.requires.0 p (whole_of (length self.text.now) p) self.at c.args.action (omega arith) c.requires.2 dot
          c.behind_prefix.ensures part.left refl;
    }
    )

pub behind-put_cell-requires-2 : goal.behind-put_cell-requires-2
behind-put_cell-requires-2 t c =
    let self = c.args.self.now in
    let p = tight_at (length self.text.now) c.args.depth in
    let dot = next_is self.text.now self.at c.byte.ensures refl (not-false _ (sym c.ne.ensures ∙ c.if-ne.false)) in
    let part = c.in_ok-part.ensures in (
      so.behind-room c.requires.0 p (whole_of (length self.text.now) p) self.at c.args.action (omega arith) c.requires.2 dot
          c.behind_prefix.ensures part.left refl,
      cells_stay part.left,
    )

pub behind-returns : goal.behind-returns
behind-returns t c =
    let self = c.args.self.now in
    let p = tight_at (length self.text.now) c.args.depth in
    let dot = next_is self.text.now self.at c.byte.ensures refl (not-false _ (sym c.ne.ensures ∙ c.if-ne.false)) in
    let part = c.in_ok-part.ensures in
    let put = c.put_cell-2.ensures in
    record {
      same = same_on self c.tight.new.self c.put_cell-2.new.self part.same put.same;
      left = rw put.bodies_stay (
          so.behind-reads c.requires.0 p (whole_of (length self.text.now) p) self.at c.args.action (omega arith) c.requires.2 dot
          c.behind_prefix.ensures part.left refl (put.put c.in_ok-part.part));
    }

pub bracket-returns-in_err-part : goal.bracket-returns-in_err-part
bracket-returns-in_err-part t c =
    let e = err_from_is_err_and c.from_residual.result c.from_residual.ensures.1 in
    let n = length c.args.self.now.text.now in
    let p = tight_at n c.args.depth in
    let part = c.in_err-part.ensures in
    rw (e.1, e.2) (record { same = part.same; left = so.bracket-none c.requires.0 p (whole_of n p) part.left refl })

pub bracket-returns-in_err-expect : goal.bracket-returns-in_err-expect
bracket-returns-in_err-expect t c =
    let e = err_from_is_err_and c.from_residual-in_err-expect.result c.from_residual-in_err-expect.ensures.1 in
    let n = length c.args.self.now.text.now in
    let p = tight_at n c.args.depth in
    let part = c.in_ok-part.ensures in
    let text_is = same_text c.args.self.now c.whole.new.self part.same in
    let k = simp (add-zero, text_is) at c.in_err-expect.ensures in
    rw (e.1, e.2) (
    record { same = part.same; left = so.bracket-open c.requires.0 p (whole_of n p) part.left refl k.1 (refl, k.0) }
    )

pub bracket-returns : goal.bracket-returns
bracket-returns t c =
    let n = length c.args.self.now.text.now in
    let p = tight_at n c.args.depth in
    let part = c.in_ok-part.ensures in
    let text_is = same_text c.args.self.now c.whole.new.self part.same in
    let k = simp (add-zero, text_is) at c.in_ok-expect.ensures in
    record { same = part.same; left = so.bracket-closed c.requires.0 p (whole_of n p) part.left refl k }

pub rec-returns-in_err-v : goal.rec-returns-in_err-v
rec-returns-in_err-v t c =
    let e = err_from_is_err_and c.from_residual.result c.from_residual.ensures.1 in
    let n = length c.args.self.now.text.now in
    let p = tight_at n c.args.depth in
    rw (e.1, e.2) (
    record { same = (refl, refl, refl); left = so.rec-stops c.requires.0 p (whole_of n p) c.in_err-v.ensures (refl, refl) }
    )

pub rec-returns-in_err-body : goal.rec-returns-in_err-body
rec-returns-in_err-body t c =
    let e = err_from_is_err_and c.from_residual-in_err-body.result c.from_residual-in_err-body.ensures.1 in
    let n = length c.args.self.now.text.now in
    let p = tight_at n c.args.depth in
    let body = c.in_err-body.ensures in
    rw (e.1, e.2) (
    record {
      same = body.same;
      left = so.rec-fails c.requires.0 p (whole_of n p) c.in_ok-v.ensures c.in_rec.ensures body.left refl;
    }
    )

pub rec-returns : goal.rec-returns
rec-returns t c =
    let n = length c.args.self.now.text.now in
    let p = tight_at n c.args.depth in
    let body = c.in_ok-body.ensures in
    record {
      same = body.same;
      left = so.rec-reads c.requires.0 p (whole_of n p) c.in_ok-v.ensures c.in_rec.ensures body.left refl;
    }

pub tight-returns-then-depth-eq0 : goal.tight-returns-then-depth-eq0
tight-returns-then-depth-eq0 t c =
    let self = c.args.self.now in
    let leaf = c.leaf.ensures in
    record {
      same = leaf.same;
      left = read-so (tight-none (length self.text.now) c.args.depth c.if-depth-eq0.true (drop self.at self.text.now)) leaf.left;
    }

pub tight-returns-in_err-name-in-Some-eq33 : goal.tight-returns-in_err-name-in-Some-eq33
tight-returns-in_err-name-in-Some-eq33 t c =
    let self = c.args.self.now in
    let text = self.text.now in
    let n = length text in
    let p = tight_at n (c.args.depth - 1) in
    let e = err_from_is_err_and c.from_residual.result c.from_residual.ensures.1 in
    let same : c.in-Some-eq33.field-0 ≡ 33 = omega arith in
    let is = rw (same, add-zero) at (sym c.byte.ensures ∙ c.in-Some-eq33.is) in
    let h = here text self.at is in
    let k = c.in_err-name-in-Some-eq33.ensures in
    rw (e.1, e.2) (
    record {
      same = (refl, refl, refl);
      left =
          fails (drop (self.at + 1) text)
          (tight-step n c.args.depth c.if-depth-eq0.false (drop self.at text) ∙ step-sends text self.at p (whole_of n p) is
          ∙ sent-stops text (self.at + 1) p (whole_of n p) k.1)
          (stopped-at (self.at + 1) (refl, k.0) (omega arith)) c.requires.cells_room c.requires.bodies_room;
    }
    )

pub tight-behind-requires : goal.tight-behind-requires
tight-behind-requires t c =
    let self = c.args.self.now in
    let name = c.in_ok-name-in-Some-eq33.ensures in
    let j = 7 + c.in_ok-name-in-Some-eq33.name in
    let width = so.sent-width c.in_ok-name-in-Some-eq33.name in
    let h = here self.text.now (self.at + 1) name.is in (
      omega arith,
      (
        ready-from (began (record self { at = self.at + 2 }) j self.at (omega (arith, width))) c.requires,
        omega (arith, width),
        omega arith,
      ),
    )

pub tight-bracket-requires : goal.tight-bracket-requires
tight-bracket-requires t c =
    let is = rw add-zero at (sym c.byte.ensures ∙ c.in-Some-eq40.is) in
    (omega arith, (c.requires, here c.args.self.now.text.now c.args.self.now.at is))

pub tight-rec-requires : goal.tight-rec-requires
tight-rec-requires t c =
    let is = rw add-zero at (sym c.byte.ensures ∙ c.in-Some-eq114.is) in
    (omega arith, (c.requires, here c.args.self.now.text.now c.args.self.now.at is))

pub tight-behind-requires-in-Some-97-to-103 : goal.tight-behind-requires-in-Some-97-to-103
tight-behind-requires-in-Some-97-to-103 t c =
    let self = c.args.self.now in
    let b = c.in-Some-97-to-103.b in
    let width = so.taken-width (b - 97) (omega arith) in
    let h = here self.text.now self.at (rw add-zero at (sym c.byte.ensures ∙ c.in-Some-97-to-103.is)) in (
      omega arith,
      (
        ready-from (began (record self { at = self.at + 1 }) (b - 97) self.at (omega (arith, width))) c.requires,
        omega (arith, width),
        omega arith,
      ),
    )

pub tight-returns-in_ok-name-in-Some-eq33 : goal.tight-returns-in_ok-name-in-Some-eq33
tight-returns-in_ok-name-in-Some-eq33 t c =
    let self = c.args.self.now in
    let text = self.text.now in
    let n = length text in
    let p = tight_at n (c.args.depth - 1) in
    let same : c.in-Some-eq33.field-0 ≡ 33 = omega arith in
    let is = rw (same, add-zero) at (sym c.byte.ensures ∙ c.in-Some-eq33.is) in
    let j = 7 + c.in_ok-name-in-Some-eq33.name in
    let width = so.sent-width c.in_ok-name-in-Some-eq33.name in
    let two : self.at + 1 + 1 ≡ self.at + 2 = omega arith in
    record {
      same = c.behind.ensures.same;
      left =
          read-so (tight-step n c.args.depth c.if-depth-eq0.false (drop self.at text) ∙ step-sends text self.at p (whole_of n p) is
          ∙ sent-letter text (self.at + 1) p (whole_of n p) c.in_ok-name-in-Some-eq33.ensures
          ∙ ap (λ (k : ℕ). acted p (whole_of n p) j (drop k text)) two)
          (read-from (began (record self { at = self.at + 2 }) j self.at (omega (arith, width))) c.behind.ensures.left);
    }

pub tight-returns-in-Some-eq40 : goal.tight-returns-in-Some-eq40
tight-returns-in-Some-eq40 t c =
    let self = c.args.self.now in
    let n = length self.text.now in
    let p = tight_at n (c.args.depth - 1) in
    let same : c.in-Some-eq40.field-0 ≡ 40 = omega arith in
    let is = rw (same, add-zero) at (sym c.byte.ensures ∙ c.in-Some-eq40.is) in
    record {
      same = c.bracket.ensures.same;
      left =
          read-so (tight-step n c.args.depth c.if-depth-eq0.false (drop self.at self.text.now)
          ∙ step-bracket self.text.now self.at p (whole_of n p) is) c.bracket.ensures.left;
    }

pub tight-returns-in-Some-eq114 : goal.tight-returns-in-Some-eq114
tight-returns-in-Some-eq114 t c =
    let self = c.args.self.now in
    let n = length self.text.now in
    let p = tight_at n (c.args.depth - 1) in
    let same : c.in-Some-eq114.field-0 ≡ 114 = omega arith in
    let is = rw (same, add-zero) at (sym c.byte.ensures ∙ c.in-Some-eq114.is) in
    record {
      same = c.rec.ensures.same;
      left =
          read-so (tight-step n c.args.depth c.if-depth-eq0.false (drop self.at self.text.now)
          ∙ step-rec self.text.now self.at p (whole_of n p) is) c.rec.ensures.left;
    }

pub tight-returns-in-Some-97-to-103 : goal.tight-returns-in-Some-97-to-103
tight-returns-in-Some-97-to-103 t c =
    let self = c.args.self.now in
    let text = self.text.now in
    let n = length text in
    let p = tight_at n (c.args.depth - 1) in
    let b = c.in-Some-97-to-103.b in
    let width = so.taken-width (b - 97) (omega arith) in
    let same : b ≡ 97 + (b - 97) = omega arith in
    let byte : ByteIn text self.at 97 103 (b - 97) =
    record { is = rw add-zero at (sym c.byte.ensures ∙ c.in-Some-97-to-103.is) ∙ ap Some same; within = omega arith } in
    let left = c.behind-in-Some-97-to-103.ensures in
    record {
      same = left.same;
      left =
          read-so (tight-step n c.args.depth c.if-depth-eq0.false (drop self.at text) ∙ step-takes text self.at p (whole_of n p) byte)
          (read-from (began (record self { at = self.at + 1 }) (b - 97) self.at (omega (arith, width))) left.left);
    }

pub tight-returns-in_default : goal.tight-returns-in_default
tight-returns-in_default t c =
    let self = c.args.self.now in
    let text = self.text.now in
    let n = length text in
    let p = tight_at n (c.args.depth - 1) in
    let byte = rw add-zero at c.byte.ensures in
    let leaf = c.leaf-in_default.ensures in
    let so-leaf = λ (l : NoneIn text self.at 97 103) (m : slice_get text self.at ≡ Some 33 → ⊥) (k : slice_get text self.at ≡ Some 40 → ⊥)
    (o : slice_get text self.at ≡ Some 114 → ⊥).
    tight-step n c.args.depth c.if-depth-eq0.false (drop self.at text) ∙ step-leaf text self.at p (whole_of n p) l m k o in
    record {
      same = leaf.same;
      left = read-so (elim c.in_default.branch [
        | tight-in_default-via-in-Some+in_default+then-this-lt97 w ↦
            so-leaf (λ b e l h. grind arith) (λ e. grind arith) (λ e. grind arith) (λ e. grind arith)
        | tight-in_default-via-in-Some+in_default+else-this-lt97+else-this-lt104 w ↦
            so-leaf (λ b e l h. grind arith) (λ e. grind arith) (λ e. grind arith) (λ e. grind arith)
        | tight-in_default-via-in_default w ↦
            so-leaf (λ b e l h. grind arith) (λ e. grind arith) (λ e. grind arith) (λ e. grind arith)
      ]) leaf.left;
    }

pub sums-returns-in_err-part : goal.sums-returns-in_err-part
unfolding sums_of
sums-returns-in_err-part t c =
    let e = err_from_is_err_and c.from_residual.result c.from_residual.ensures.1 in
    let part = c.in_err-part.ensures in
    rw (e.1, e.2) (record { same = part.same; left = so.first-fails _ part.left refl })

pub sums-loop-scope-init : goal.sums-loop-scope-init
unfolding sums_of
sums-loop-scope-init t c =
    let part = c.in_ok-part.ensures in
    let w = reading part.left refl in
    (part.same, chain-begins 43 [] (tight_at (length c.args.self.now.text.now) c.args.depth) summed c.requires w.2 w.3)

pub sums-tight-requires-in-loop-scope : goal.sums-tight-requires-in-loop-scope
sums-tight-requires-in-loop-scope t c =
    let l = c.loop-scope in
    let text = c.args.self.now.text.now in
    let p = tight_at (length text) c.args.depth in
    let text_is = same_text c.args.self.now l.self l.invariant.0 in
    let is = rw text_is at (next_is l.self.text.now l.self.at c.byte.ensures c.eq.ensures c.loop-scope-test.true) in
    let h = here text l.self.at is in
    (omega arith, rw text_is (chain-ready 43 [] p summed l.invariant.1 1 (omega arith)))

pub sums-returns-in_err-next : goal.sums-returns-in_err-next
sums-returns-in_err-next t c =
    let e = err_from_is_err_and c.from_residual-in_err-next.result c.from_residual-in_err-next.ensures.1 in
    let l = c.loop-scope in
    let text = c.args.self.now.text.now in
    let p = tight_at (length text) c.args.depth in
    let text_is = same_text c.args.self.now l.self l.invariant.0 in
    let is = rw text_is at (next_is l.self.text.now l.self.at c.byte.ensures c.eq.ensures c.loop-scope-test.true) in
    let next = rw text_is at c.in_err-next.ensures.left in
    let w = failing next refl in
    rw (e.1, e.2) (
    record {
      same = same_on c.args.self.now l.self c.tight-in-loop-scope.new.self l.invariant.0 c.in_err-next.ensures.same;
      left =
          chain-fails 43 [] p summed l.invariant.1 (omega arith) (sum_goes p summed l.invariant.1 is) w.1 w.2 (cells_stay next)
          (bodies_stay next);
    }
    )

pub sums-put_cell-part-requires : goal.sums-put_cell-part-requires
sums-put_cell-part-requires t c =
    let l = c.loop-scope in
    let text = c.args.self.now.text.now in
    let p = tight_at (length text) c.args.depth in
    let text_is = same_text c.args.self.now l.self l.invariant.0 in
    let is = rw text_is at (next_is l.self.text.now l.self.at c.byte.ensures c.eq.ensures c.loop-scope-test.true) in
    let next = rw text_is at c.in_ok-next.ensures.left in
    let w = reading next refl in
    (chain_room 43 [] p summed l.invariant.1 (omega arith) (sum_goes p summed l.invariant.1 is) summing w.2 w.3, cells_stay next)

pub sums-loop-scope-preserved : goal.sums-loop-scope-preserved
sums-loop-scope-preserved t c =
    let l = c.loop-scope in
    let text = c.args.self.now.text.now in
    let p = tight_at (length text) c.args.depth in
    let text_is = same_text c.args.self.now l.self l.invariant.0 in
    let is = rw text_is at (next_is l.self.text.now l.self.at c.byte.ensures c.eq.ensures c.loop-scope-test.true) in
    let next = rw text_is at c.in_ok-next.ensures.left in
    let w = reading next refl in
    let put = c.put_cell-part.ensures in
    let mid = c.tight-in-loop-scope.new.self in (
      same_on c.args.self.now mid c.put_cell-part.new.self
          (same_on c.args.self.now l.self mid l.invariant.0 c.in_ok-next.ensures.same) put.same,
      rw put.bodies_stay (
          chain-goes 43 [] p summed l.invariant.1 (omega arith) (sum_goes p summed l.invariant.1 is) summing w.2 w.3
          (put.put c.in_ok-next.next)
          ),
    )

pub sums-loop-scope-smaller : goal.sums-loop-scope-smaller
sums-loop-scope-smaller t c =
    let l = c.loop-scope in
    let text = c.args.self.now.text.now in
    let p = tight_at (length text) c.args.depth in
    let text_is = same_text c.args.self.now l.self l.invariant.0 in
    let is = rw text_is at (next_is l.self.text.now l.self.at c.byte.ensures c.eq.ensures c.loop-scope-test.true) in
    let next = rw text_is at c.in_ok-next.ensures.left in
    let w = reading next refl in
    let put = c.put_cell-part.ensures in
    let further =
    chain-further 43 [] p summed l.invariant.1 (omega arith) (sum_goes p summed l.invariant.1 is) summing w.2 w.3
    (put.put c.in_ok-next.next) in
    omega (arith, further.0, further.1)

pub sums-returns : goal.sums-returns
sums-returns t c =
    let l = c.loop-scope in
    let text = c.args.self.now.text.now in
    let p = tight_at (length text) c.args.depth in
    let text_is = same_text c.args.self.now l.self l.invariant.0 in
    let n = rw text_is at (next-not l.self.text.now l.self.at c.byte.ensures c.eq.ensures c.loop-scope-test.false) in
    record { same = l.invariant.0; left = chain-ends 43 [] p summed l.invariant.1 n }

pub whole-returns-in_err-part : goal.whole-returns-in_err-part
unfolding whole_of
whole-returns-in_err-part t c =
    let e = err_from_is_err_and c.from_residual.result c.from_residual.ensures.1 in
    let part = c.in_err-part.ensures in
    rw (e.1, e.2) (record { same = part.same; left = so.first-fails _ part.left refl })

pub whole-loop-scope-init : goal.whole-loop-scope-init
unfolding whole_of
whole-loop-scope-init t c =
    let n = length c.args.self.now.text.now in
    let part = c.in_ok-part.ensures in
    let w = reading part.left refl in
    (part.same, chain-begins 40 (43 ∷ 41 ∷ []) (sums_of n (tight_at n c.args.depth)) chosen c.requires w.2 w.3)

pub whole-returns-in_err-expect : goal.whole-returns-in_err-expect
whole-returns-in_err-expect t c =
    let e = err_from_is_err_and c.from_residual-in_err-expect.result c.from_residual-in_err-expect.ensures.1 in
    let l = c.loop-scope in
    let text = c.args.self.now.text.now in
    let p = sums_of (length text) (tight_at (length text) c.args.depth) in
    let so_far = l.invariant.1 in
    let text_is = same_text c.args.self.now l.self l.invariant.0 in
    let is = rw text_is at (next_is l.self.text.now l.self.at c.byte.ensures c.eq.ensures c.loop-scope-test.true) in
    let h = here text l.self.at is in
    let k = simp text_is at c.in_err-expect.ensures in
    rw (e.1, e.2) (
    record {
      same = l.invariant.0;
      left =
          fails _ (sign-one p chosen so_far is k.1) (stopped-at (l.self.at + 1) (refl, k.0) (omega arith)) so_far.read.cells_room
          so_far.read.bodies_room;
    }
    )

pub whole-returns-in_err-expect-2 : goal.whole-returns-in_err-expect-2
whole-returns-in_err-expect-2 t c =
    let e = err_from_is_err_and c.from_residual-in_err-expect-2.result c.from_residual-in_err-expect-2.ensures.1 in
    let l = c.loop-scope in
    let text = c.args.self.now.text.now in
    let p = sums_of (length text) (tight_at (length text) c.args.depth) in
    let so_far = l.invariant.1 in
    let text_is = same_text c.args.self.now l.self l.invariant.0 in
    let is = rw text_is at (next_is l.self.text.now l.self.at c.byte.ensures c.eq.ensures c.loop-scope-test.true) in
    let plus = rw text_is at c.in_ok-expect.ensures in
    let h = here text (l.self.at + 1) plus in
    let k = simp text_is at c.in_err-expect-2.ensures in
    rw (e.1, e.2) (
    record {
      same = l.invariant.0;
      left =
          fails _ (sign-two p chosen so_far is plus k.1) (stopped-at (l.self.at + 2) (refl, k.0) (omega arith))
          so_far.read.cells_room so_far.read.bodies_room;
    }
    )

pub whole-sums-requires-in-loop-scope : goal.whole-sums-requires-in-loop-scope
whole-sums-requires-in-loop-scope t c =
    let l = c.loop-scope in
    let text = c.args.self.now.text.now in
    let p = sums_of (length text) (tight_at (length text) c.args.depth) in
    let text_is = same_text c.args.self.now l.self l.invariant.0 in
    let closing = rw text_is at c.in_ok-expect-2.ensures in
    let h = here text (l.self.at + 2) closing in
    (omega arith, rw text_is (chain-ready 40 (43 ∷ 41 ∷ []) p chosen l.invariant.1 3 (omega arith)))

pub whole-returns-in_err-next : goal.whole-returns-in_err-next
whole-returns-in_err-next t c =
    let e = err_from_is_err_and c.from_residual-in_err-next.result c.from_residual-in_err-next.ensures.1 in
    let l = c.loop-scope in
    let text = c.args.self.now.text.now in
    let p = sums_of (length text) (tight_at (length text) c.args.depth) in
    let so_far = l.invariant.1 in
    let text_is = same_text c.args.self.now l.self l.invariant.0 in
    let is = rw text_is at (next_is l.self.text.now l.self.at c.byte.ensures c.eq.ensures c.loop-scope-test.true) in
    let plus = rw text_is at c.in_ok-expect.ensures in
    let closing = rw text_is at c.in_ok-expect-2.ensures in
    let next = rw text_is at c.in_err-next.ensures.left in
    let w = failing next refl in
    rw (e.1, e.2) (
    record {
      same = same_on c.args.self.now l.self c.sums-in-loop-scope.new.self l.invariant.0 c.in_err-next.ensures.same;
      left =
          chain-fails 40 (43 ∷ 41 ∷ []) p chosen so_far (omega arith) (choice-goes p chosen so_far is plus closing) w.1 w.2
          (cells_stay next) (bodies_stay next);
    }
    )

pub whole-put_cell-part-requires : goal.whole-put_cell-part-requires
whole-put_cell-part-requires t c =
    let l = c.loop-scope in
    let text = c.args.self.now.text.now in
    let p = sums_of (length text) (tight_at (length text) c.args.depth) in
    let so_far = l.invariant.1 in
    let text_is = same_text c.args.self.now l.self l.invariant.0 in
    let is = rw text_is at (next_is l.self.text.now l.self.at c.byte.ensures c.eq.ensures c.loop-scope-test.true) in
    let plus = rw text_is at c.in_ok-expect.ensures in
    let closing = rw text_is at c.in_ok-expect-2.ensures in
    let next = rw text_is at c.in_ok-next.ensures.left in
    let w = reading next refl in (
      chain_room 40 (43 ∷ 41 ∷ []) p chosen so_far (omega arith) (choice-goes p chosen so_far is plus closing) choosing w.2 w.3,
      cells_stay next,
    )

pub whole-loop-scope-preserved : goal.whole-loop-scope-preserved
whole-loop-scope-preserved t c =
    let l = c.loop-scope in
    let text = c.args.self.now.text.now in
    let p = sums_of (length text) (tight_at (length text) c.args.depth) in
    let so_far = l.invariant.1 in
    let text_is = same_text c.args.self.now l.self l.invariant.0 in
    let is = rw text_is at (next_is l.self.text.now l.self.at c.byte.ensures c.eq.ensures c.loop-scope-test.true) in
    let plus = rw text_is at c.in_ok-expect.ensures in
    let closing = rw text_is at c.in_ok-expect-2.ensures in
    let next = rw text_is at c.in_ok-next.ensures.left in
    let w = reading next refl in
    let put = c.put_cell-part.ensures in
    let mid = c.sums-in-loop-scope.new.self in (
      same_on c.args.self.now mid c.put_cell-part.new.self
          (same_on c.args.self.now l.self mid l.invariant.0 c.in_ok-next.ensures.same) put.same,
      rw put.bodies_stay (
          chain-goes 40 (43 ∷ 41 ∷ []) p chosen so_far (omega arith) (choice-goes p chosen so_far is plus closing) choosing w.2 w.3
          (put.put c.in_ok-next.next)
          ),
    )

pub whole-loop-scope-smaller : goal.whole-loop-scope-smaller
whole-loop-scope-smaller t c =
    let l = c.loop-scope in
    let text = c.args.self.now.text.now in
    let p = sums_of (length text) (tight_at (length text) c.args.depth) in
    let so_far = l.invariant.1 in
    let text_is = same_text c.args.self.now l.self l.invariant.0 in
    let is = rw text_is at (next_is l.self.text.now l.self.at c.byte.ensures c.eq.ensures c.loop-scope-test.true) in
    let plus = rw text_is at c.in_ok-expect.ensures in
    let closing = rw text_is at c.in_ok-expect-2.ensures in
    let next = rw text_is at c.in_ok-next.ensures.left in
    let w = reading next refl in
    let put = c.put_cell-part.ensures in
    let further =
    chain-further 40 (43 ∷ 41 ∷ []) p chosen so_far (omega arith) (choice-goes p chosen so_far is plus closing) choosing w.2 w.3
    (put.put c.in_ok-next.next) in
    omega (arith, further.0, further.1)

pub whole-returns : goal.whole-returns
whole-returns t c =
    let l = c.loop-scope in
    let text = c.args.self.now.text.now in
    let p = sums_of (length text) (tight_at (length text) c.args.depth) in
    let text_is = same_text c.args.self.now l.self l.invariant.0 in
    let n = rw text_is at (next-not l.self.text.now l.self.at c.byte.ensures c.eq.ensures c.loop-scope-test.false) in
    record { same = l.invariant.0; left = chain-ends 40 (43 ∷ 41 ∷ []) p chosen l.invariant.1 n }
