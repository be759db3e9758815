-- M1 to M13, and the three of them in the settled mode, follow from the definitions: one theorem over the rows of each list, by computation.
-- Assumes nothing.
use mathlib.Core.Path.{◌≡◌, refl, ap, ◌∙◌, sym}
use mathlib.Core.List.{List, ◌++◌, map, Memᴰ, head-eq_of_cons-eq, tail-eq_of_cons-eq}
use Prim.Native.Nat.{ℕ}
use lib.ListN.{replicate}
use Rattle.model.specs.Lists.{any, all, keep, place, upto}
use Rattle.model.specs.Bytes.{byte, word, dword, le16, le32}
use Rattle.model.specs.Contract.{actions, takes, name, partner, has, nowhere, state, offers_in, offers, offered_below, after}
use Rattle.model.specs.Sheet.{check, then, trailer, stray_bit, words_from, out_of_order, masks_from, successors_from, row_with, row_at, states_from, good_trailer, read_sheet, in_place, plain, read_both}
use Rattle.model.specs.Situation.{start, alike, same_list, same, kind_of, codes, raised, lowered, buffer_after, offered, old_after, new_after, with_buffer, next_by, next}
use Rattle.model.specs.Test.{listed, covered, covers, hope, answered, Mode, paper, settled, is_settled, silent, rests, waits, asked, delivered, test}
use Rattle.model.specs.Search.{member, add, add_all, search, search_from}
use Rattle.model.specs.Rounds.{onward, stays, within, moves_into, round, sift, sifted}
use Rattle.model.specs.Plan.{plan_states, target, row_of, plan_rows, move_bytes, row_bytes, rows_bytes, index_bytes, plan_bytes}
use Rattle.model.specs.Connect.{Answer, Connected, refused, counted, sifted_of, rows_for, emitted, related, found, connected, limit_of, ranked, outcome_of, clears, connect_of}
use Rattle.model.specs.Cases.{Figures, Case, cases, settled_cases, m1_plan, m13_plan, take_a_2, external_2, take_c_take_a_3, take_a_take_c_3}

-- what connecting answers for two sheets in a mode, with 16 records and 128 bytes of 0xFF lent
unfoldable pub connect_case : Mode → (k : ℕ) → (old new : List ℕ) → Connected ℕ
unfolding any all keep place upto byte word dword le16 le32 actions takes name partner has nowhere state offers_in offers offered_below after check then trailer stray_bit words_from out_of_order masks_from successors_from row_with row_at states_from good_trailer read_sheet in_place plain read_both start alike same_list same kind_of codes raised lowered buffer_after offered old_after new_after with_buffer next_by next listed covered covers hope answered is_settled silent rests waits asked delivered test member add add_all search search_from onward stays within moves_into round sift sifted plan_states target row_of plan_rows move_bytes row_bytes rows_bytes index_bytes plan_bytes refused counted sifted_of rows_for emitted related found connected limit_of ranked outcome_of clears connect_of
connect_case mode k old new = connect_of 0 mode k old new (replicate 16 7) (replicate 128 0xFF)

-- the figures of an answer
unfoldable pub figures : Answer → Figures
figures a = record { number = a.number; situations = a.situations; states = a.states; rounds = a.rounds }

-- what the definitions say of a row of the table
unfoldable pub computed : Case → Figures
unfolding connect_case figures
computed c = figures (connect_case c.mode c.k c.old c.new).answer

-- two functions that agree along a list agree at each of its elements
pub agree_at : {A B : Type 0} (f g : A → B) {a : A} {l : List A} → Memᴰ a l → map f l ≡ map g l → f a ≡ g a
agree_at f g (Memᴰ.head e) p = ap f e ∙ head-eq_of_cons-eq p ∙ sym (ap g e)
agree_at f g (Memᴰ.tail m) p = agree_at f g m (tail-eq_of_cons-eq p)

along-settled : map computed settled_cases ≡ map (λ (c : Case). c.says) settled_cases
unfolding settled_cases computed
along-settled = refl

along : map computed cases ≡ map (λ (c : Case). c.says) cases
unfolding cases computed
along = refl

-- M1 to M13: each row of the table says what the definitions compute
pub cases-hold : (c : Case) → Memᴰ c cases → computed c ≡ c.says
cases-hold c m = agree_at computed (λ (c : Case). c.says) m along

-- so does each row of the settled list
pub settled-cases-hold : (c : Case) → Memᴰ c settled_cases → computed c ≡ c.says
settled-cases-hold c m = agree_at computed (λ (c : Case). c.says) m along-settled

-- "M13 is unchanged": the same plan is written in either mode
pub m13-emitted : (connect_case paper 1 take_c_take_a_3 take_a_take_c_3).plan ≡ m13_plan ++ replicate 80 0xFF
unfolding connect_case
m13-emitted = refl

pub m13-unchanged : (connect_case settled 1 take_c_take_a_3 take_a_take_c_3).plan ≡ m13_plan ++ replicate 80 0xFF
unfolding connect_case
m13-unchanged = refl

-- M1's plan, byte for byte, with the rest of the lent plan as it was
pub m1-emitted : (connect_case paper 0 take_a_2 external_2).plan ≡ m1_plan ++ replicate 107 0xFF
unfolding connect_case
m1-emitted = refl
