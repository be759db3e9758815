-- What the entries give for each case of the list follows from the definitions, by computation from the bytes.
-- Assumes nothing.
use mathlib.Core.Path.{◌≡◌, refl}
use mathlib.Core.List.{map, Memᴰ}
use Rattle.model.specs.Lists.{any, keep, place, upto}
use Rattle.model.specs.Bytes.{byte, word}
use Rattle.model.specs.Contract.{actions, takes, name, has, state, offers_in, offers}
use Rattle.model.specs.Sheet.{check, then, trailer, stray_bit, words_from, out_of_order, masks_from, successors_from, row_with, row_at, states_from}
use Rattle.model.specs.Sheet.{row_start, good_trailer, read_sheet, in_place, plain}
use Rattle.model.proofs.Cases.{agree_at}
use Rattle.named_row.specs.Row.{named_sheet, row_length, row_in_sheet, row_in, part_or, row_part_of, refusal_or, row_refusal_of, whole_of, cut}
use Rattle.named_row.specs.Cases.{Gives, RowCase, row_cases}

abbrev given : RowCase → Gives
given c =
    record {
      refused = row_refusal_of c.first c.second c.sheet c.state;
      part = row_part_of c.first c.second c.sheet c.state;
      bytes =
          let p = row_part_of c.first c.second c.sheet c.state in
          cut p (whole_of p c.first c.second);
    }

computed : map given row_cases ≡ map (λ (c : RowCase). c.gives) row_cases
unfolding row_cases row_refusal_of row_part_of refusal_or part_or row_in row_in_sheet named_sheet row_length whole_of cut in_place plain read_sheet states_from row_at row_with masks_from words_from out_of_order successors_from row_start good_trailer stray_bit trailer then check any keep place upto byte word actions takes name has state offers_in offers
computed = refl

pub row-cases-hold : (c : RowCase) → Memᴰ c row_cases → given c ≡ c.gives
row-cases-hold c m = agree_at given (λ (c : RowCase). c.gives) m computed
