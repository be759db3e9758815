-- The four conditions of a row in a situation, one after the other: where one is broken, those behind it say nothing. The code's tests, by
-- counts and by masks of offered actions, are those of the definition.
-- Assumes nothing.
use mathlib.Core.Path.{◌≡◌, refl, sym, ap, ◌∙◌}
use mathlib.Core.Bool.{Bool, true, false, not, ◌||◌}
use mathlib.Core.List.{List, [], ◌∷◌}
use mathlib.Core.Option.{Option, none, some}
use Rattle.std.specs.Prelude as Std
use Rattle.std.specs.Prelude.{None, Some, is_some}
use Prim.Native.Nat.{ℕ}
use Rattle.model.specs.Contract.{state, offers}
use Rattle.model.specs.Sheet.{contract_in}
use Rattle.model.specs.Situation.{Kind, straight, client, service, stray, kind_of, buffer_after}
use Rattle.model.specs.Test.{Mode, answered, hope, asked, delivered}
use Rattle.sheet.specs.declared.Offer.{Offer}
use Rattle.sheet.proofs.Whole.{offer-has}
use Rattle.moves.specs.declared.Buffer.{Buffer}
use Rattle.moves.specs.declared.Situation.{Situation}
use Rattle.moves.specs.Moves.{moved_of}
use Rattle.moves.specs.Situations.{situation_of}
use Rattle.plan.specs.declared.Row.{Row}
use Rattle.edits.specs.Sound.{old_meets, new_meets, given, first_not, blamed, keeps_buffer, met_by_both, answered_by, delivered_by, blame_of}
use Rattle.edits_rows.specs.Rows.{found_of, keeps_counts, met_by, Judgeable}

-- ---- what was found

pub found-some : (o : Option ℕ) {found : Std.Option ℕ} {x : ℕ} → found ≡ found_of o → found ≡ Some x → o ≡ some x
found-some none e f = absurd (cc)
found-some (some y) e f = cc

pub found-none : (o : Option ℕ) {found : Std.Option ℕ} → found ≡ found_of o → ((x : ℕ) → found ≡ Some x → ⊥) → o ≡ none
found-none none e n = refl
found-none (some y) e n = absurd (n y e)

-- a move keeps the buffer if there is a next one
pub kept : (limits counts : List ℕ) (code : ℕ) {moved : Std.Option Buffer} → moved ≡ moved_of (buffer_after limits counts (kind_of code))
    → is_some moved ≡ keeps_counts limits counts code
unfolding keeps_counts moved_of given
kept limits counts code e = go (buffer_after limits counts (kind_of code)) e
  where
    go : (o : Option (List ℕ)) {moved : Std.Option Buffer} → moved ≡ moved_of o → is_some moved ≡ given o
    go none e = ap is_some e
    go (some counts) e = ap is_some e

-- ---- the second part of the test

module _ (A : List ℕ) where
  -- where it is asked, each ready set must have hope
  pub due-hope : (l : List ℕ) {due : Bool} → due ≡ true → first_not (hope A) l ≡ first_not (delivered due A) l
  unfolding delivered
  due-hope l e = rw e refl

  -- elsewhere no ready set breaks it
  pub not-due : (l : List ℕ) {due : Bool} → due ≡ false → first_not (delivered due A) l ≡ none
  unfolding delivered first_not
  not-due l e = rw e (go l)
    where
      go : (l : List ℕ) → first_not (delivered false A) l ≡ none
      go [] = refl
      go (S ∷ l) = go l

-- ---- a row in a situation

module _ (mode : Mode) {old new plan : List ℕ} {row : Row} {at : Situation} {old_offer new_offer : Offer}
    (v : Judgeable old new plan row at old_offer new_offer) (limits A : List ℕ) where
  abbrev outside : Option ℕ
  outside = first_not (keeps_counts limits at.buffer.counts) A

  abbrev unmet : Option ℕ
  unmet = first_not (λ code. met_by old_offer.actions new_offer.actions (kind_of code)) A

  abbrev unanswered_by : List ℕ → Option ℕ
  unanswered_by B = first_not (answered (state (contract_in old) at.old).ready B) (state (contract_in new) at.new).ready

  abbrev undelivered_by : List ℕ → Option ℕ
  undelivered_by B =
      first_not (delivered (asked mode (state (contract_in old) at.old) at.buffer.counts) B) (state (contract_in new) at.new).ready

  meets : (kind : Kind) → met_by old_offer.actions new_offer.actions kind
      ≡ (not (new_meets (state (contract_in new) at.new) kind) || old_meets (state (contract_in old) at.old) kind)
  unfolding met_by new_meets old_meets
  meets (straight j) = rw (offer-has new at.new j v.new_offers, offer-has old at.old j v.old_offers) refl
  meets (client j) = offer-has old at.old j v.old_offers
  meets (service j) = go (offers (state (contract_in new) at.new) j)
    where
      go : (t : Bool) → true ≡ (not t || true)
      go true = refl
      go false = refl
  meets stray = refl

  parts : blamed outside unmet (unanswered_by A) (undelivered_by A) ≡ blame_of mode limits (contract_in old) (contract_in new) (situation_of at) A
  unfolding blame_of keeps_buffer met_by_both answered_by delivered_by keeps_counts situation_of
  parts = λ i. blamed outside (first_not (λ code. meets (kind_of code) i) A) (unanswered_by A) (undelivered_by A)

  -- what is at fault, by what is found of each condition; the moves of the row are those of B
  pub told : {B : List ℕ} → B ≡ A → {first second third fourth : Option ℕ} → outside ≡ first → unmet ≡ second → unanswered_by B ≡ third
      → undelivered_by B ≡ fourth
      → blamed first second third fourth ≡ blame_of mode limits (contract_in old) (contract_in new) (situation_of at) A
  told same e f g h =
      sym (λ i. blamed (e i) (f i) ((ap unanswered_by (sym same) ∙ g) i) ((ap undelivered_by (sym same) ∙ h) i)) ∙ parts
