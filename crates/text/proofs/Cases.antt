-- Each case of the lists is read and converted as it says, by computation from its bytes.
-- Assumes nothing.
use mathlib.Core.Path.{◌≡◌, refl, ap}
use mathlib.Core.List.{List, [], ◌∷◌, map, Memᴰ}
use mathlib.Core.Option.{Option-elim}
use Prim.Native.Nat.{ℕ}
use Rattle.model.specs.Lists.{any, all, keep, place, combine, upto}
use Rattle.model.specs.Bytes.{le16}
use Rattle.model.specs.Contract.{actions, has, offers_in}
use Rattle.model.specs.Search.{member, add, add_all, search, search_from}
use Rattle.model.specs.Sheet.{Reading, Refusal, good, check, then, plain}
use Rattle.model.specs.Cases.{Case, cases}
use Rattle.model.proofs.Cases.{agree_at}
use Rattle.nodes.specs.Nodes.{is_none, nodes_found, number_among, state_of, few, contract_with, contract_of}
use Rattle.nodes.specs.Sets.{unite_from, set_of, if_any, gather, put, sorted}
use Rattle.nodes.specs.SheetBytes.{layout_rows, layout_index, layout, mask_bytes, state_row_bytes, sheet_bytes}
use Rattle.text.specs.Terms.{term_of}
use Rattle.text.specs.Parser.{and_then, choose, one_of, after, expects, chain, sums_of, whole_of, leaf, acted, sent, bracketed, looped, step, tight_at, ended, parse_of}
use Rattle.text.specs.Places.{the_end, no_scope, within, size_of, place_in, placed, sense_in, senses_in, places_of, first_place, sense_at, places_in, ready_sets, steps_by, behind_set, next_places, contract_of_term}
use Rattle.text.specs.Convert.{is_blank, dropped, place_of_byte, action_width, width_of, or_else, wrong_at, most_deep, bound_tree, tree_read, read_text, without_byte, byte_at_fault, text_of, text_sheet, text_fault_of}
use Rattle.text.specs.Cases.{PaperCase, with_seven, paper_cases, TreeCase, tree_cases, TextCase, text_cases}

-- what converting a text gives, and the byte at fault
unfoldable pub converted : List ℕ → Reading Refusal (List ℕ) × ℕ
unfolding any all keep place combine upto le16 actions has offers_in member add add_all search search_from check then plain is_none nodes_found number_among state_of few contract_with contract_of unite_from set_of if_any gather put sorted layout_rows layout_index layout mask_bytes state_row_bytes sheet_bytes term_of and_then choose one_of after expects chain sums_of whole_of leaf acted sent bracketed looped step tight_at ended parse_of the_end no_scope within size_of place_in placed sense_in senses_in places_of first_place sense_at places_in ready_sets steps_by behind_set next_places contract_of_term is_blank dropped place_of_byte action_width width_of or_else wrong_at most_deep bound_tree tree_read read_text without_byte byte_at_fault text_of text_sheet text_fault_of Option-elim
converted s = (text_sheet s, text_fault_of s)

-- ---- M1 to M13

-- the rows are the old and the new sheet of each case, in order
pub paper-all : map (λ (c : PaperCase). c.sheet) paper_cases ≡ gather (λ (c : Case). c.old ∷ c.new ∷ []) cases
unfolding paper_cases cases gather
paper-all = refl

along-paper : map (λ (c : PaperCase). text_sheet c.text) paper_cases ≡ map (λ (c : PaperCase). good (with_seven c.sheet)) paper_cases
unfolding paper_cases with_seven converted
along-paper = refl

-- the sheets of typed terms equal the sheets of the cases but for n
pub paper-cases : (c : PaperCase) → Memᴰ c paper_cases → text_sheet c.text ≡ good (with_seven c.sheet)
paper-cases c m = agree_at (λ (c : PaperCase). text_sheet c.text) (λ (c : PaperCase). good (with_seven c.sheet)) m along-paper

-- ---- trees

along-trees : map (λ (c : TreeCase). text_of c.text) tree_cases ≡ map (λ (c : TreeCase). good c.tree) tree_cases
unfolding tree_cases converted
along-trees = refl

-- each text is read as its tree
pub tree-cases : (c : TreeCase) → Memᴰ c tree_cases → text_of c.text ≡ good c.tree
tree-cases c m = agree_at (λ (c : TreeCase). text_of c.text) (λ (c : TreeCase). good c.tree) m along-trees

-- ---- sheets and refusals

along-texts : map (λ (c : TextCase). converted c.text) text_cases ≡ map (λ (c : TextCase). (c.gives, c.byte)) text_cases
unfolding text_cases converted
along-texts = refl

-- each text is converted as its row says, or refused at its byte
pub text-cases : (c : TextCase) → Memᴰ c text_cases → (text_sheet c.text ≡ c.gives) × (text_fault_of c.text ≡ c.byte)
unfolding converted
text-cases c m =
    let e = agree_at (λ (c : TextCase). converted c.text) (λ (c : TextCase). (c.gives, c.byte)) m along-texts in
    (ap (λ (x : Reading Refusal (List ℕ) × ℕ). x.0) e, ap (λ (x : Reading Refusal (List ℕ) × ℕ). x.1) e)
