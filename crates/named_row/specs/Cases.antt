-- Rows of M1's sheets, and of sheets with one fault each: what the entries for a row give. Document 02, request 6/13.
-- Assumes nothing.
use Rattle.std.specs.Prelude.{List, [], ◌∷◌, ℕ}
use Rattle.model.specs.Sheet.{Refusal}
use Rattle.model.specs.Cases.{take_a_2, external_2}
use Rattle.named_row.specs.Row.{Part}

-- the refusal, the part, and the part's bytes
pub record Gives : Type 0 where
  pub refused : Refusal
  pub part : Part
  pub bytes : List ℕ

pub record RowCase : Type 0 where
  pub first : List ℕ
  pub second : List ℕ
  pub sheet : ℕ
  pub state : ℕ
  pub gives : Gives

-- the row at an offset of the sheet that is named
abbrev row : (first second : List ℕ) (sheet state offset length : ℕ) → List ℕ → RowCase
row first second sheet state offset length bytes =
    record {
      first = first;
      second = second;
      sheet = sheet;
      state = state;
      gives =
          record {
            refused = record { number = 0; sheet = 0; state = 0; offset = 0 };
            part = record { sheet = sheet; offset = offset; length = length };
            bytes = bytes;
          };
    }

-- a refusal by its four figures
abbrev none : (first second : List ℕ) (sheet state number place at offset : ℕ) → RowCase
none first second sheet state number place at offset =
    record {
      first = first;
      second = second;
      sheet = sheet;
      state = state;
      gives =
          record {
            refused = record { number = number; sheet = place; state = at; offset = offset };
            part = record { sheet = 1; offset = 0; length = 0 };
            bytes = [];
          };
    }

-- M1's new sheet with another byte in one or two places: the entry of state 1
abbrev wrong_entry : List ℕ
wrong_entry =
    0x01 ∷ 0x03 ∷ 0x00 ∷ 0x01 ∷ 0x01 ∷ 0x01 ∷ 0x00 ∷ 0x00 ∷ 0x00 ∷ 0x00 ∷ 0x06 ∷ 0x00 ∷ 0x08 ∷ 0x00 ∷ 0x02 ∷ 0x02 ∷ 0x00 ∷ 0xC5 ∷ []

-- the count of state 1, which asks for a second mask
abbrev missing_mask : List ℕ
missing_mask =
    0x01 ∷ 0x03 ∷ 0x00 ∷ 0x01 ∷ 0x01 ∷ 0x02 ∷ 0x00 ∷ 0x00 ∷ 0x00 ∷ 0x00 ∷ 0x05 ∷ 0x00 ∷ 0x08 ∷ 0x00 ∷ 0x02 ∷ 0x02 ∷ 0x00 ∷ 0xC5 ∷ []

-- the mask of state 1, which asks for a successor
abbrev missing_successor : List ℕ
missing_successor =
    0x01 ∷ 0x03 ∷ 0x00 ∷ 0x01 ∷ 0x01 ∷ 0x01 ∷ 0x01 ∷ 0x00 ∷ 0x00 ∷ 0x00 ∷ 0x05 ∷ 0x00 ∷ 0x08 ∷ 0x00 ∷ 0x02 ∷ 0x02 ∷ 0x00 ∷ 0xC5 ∷ []

-- a byte too many before the index, behind the one row of a service that has ended
abbrev left_over : List ℕ
left_over = 0x01 ∷ 0x00 ∷ 0x00 ∷ 0x00 ∷ 0x00 ∷ 0x00 ∷ 0x04 ∷ 0x00 ∷ 0x01 ∷ 0x00 ∷ 0x00 ∷ 0xC5 ∷ []

-- the counts of state 0 and of state 1
abbrev count_of_first : List ℕ
count_of_first =
    0x00 ∷ 0x03 ∷ 0x00 ∷ 0x01 ∷ 0x01 ∷ 0x01 ∷ 0x00 ∷ 0x00 ∷ 0x00 ∷ 0x00 ∷ 0x05 ∷ 0x00 ∷ 0x08 ∷ 0x00 ∷ 0x02 ∷ 0x02 ∷ 0x00 ∷ 0xC5 ∷ []

abbrev count_of_last : List ℕ
count_of_last =
    0x01 ∷ 0x03 ∷ 0x00 ∷ 0x01 ∷ 0x01 ∷ 0x09 ∷ 0x00 ∷ 0x00 ∷ 0x00 ∷ 0x00 ∷ 0x05 ∷ 0x00 ∷ 0x08 ∷ 0x00 ∷ 0x02 ∷ 0x02 ∷ 0x00 ∷ 0xC5 ∷ []

-- M7's new sheet with its two masks in the other order
abbrev low_mask : List ℕ
low_mask =
    0x02 ∷ 0x02 ∷ 0x00 ∷ 0x01 ∷ 0x00 ∷ 0x01 ∷ 0x01 ∷ 0x01 ∷ 0x00 ∷ 0x00 ∷ 0x00 ∷ 0x00 ∷ 0x07 ∷ 0x00 ∷ 0x0A ∷ 0x00 ∷ 0x02 ∷ 0x02 ∷ 0x00 ∷ 0xC5
    ∷ []

-- M1's new sheet again: bit 15 in the mask of state 0
abbrev stray_mask : List ℕ
stray_mask =
    0x01 ∷ 0x03 ∷ 0x80 ∷ 0x01 ∷ 0x01 ∷ 0x01 ∷ 0x00 ∷ 0x00 ∷ 0x00 ∷ 0x00 ∷ 0x05 ∷ 0x00 ∷ 0x08 ∷ 0x00 ∷ 0x02 ∷ 0x02 ∷ 0x00 ∷ 0xC5 ∷ []

-- the second successor of state 0
abbrev wrong_successor : List ℕ
wrong_successor =
    0x01 ∷ 0x03 ∷ 0x00 ∷ 0x01 ∷ 0x02 ∷ 0x01 ∷ 0x00 ∷ 0x00 ∷ 0x00 ∷ 0x00 ∷ 0x05 ∷ 0x00 ∷ 0x08 ∷ 0x00 ∷ 0x02 ∷ 0x02 ∷ 0x00 ∷ 0xC5 ∷ []

unfoldable pub row_cases : List RowCase
row_cases =
    row take_a_2 external_2 2 0 0 5 (0x01 ∷ 0x03 ∷ 0x00 ∷ 0x01 ∷ 0x01 ∷ [])
    ∷ row take_a_2 external_2 1 1 4 3 (0x01 ∷ 0x00 ∷ 0x00 ∷ [])
    ∷ row [] external_2 2 1 5 3 (0x01 ∷ 0x00 ∷ 0x00 ∷ [])
    ∷ none take_a_2 external_2 2 2 15 0 0 0
    ∷ none take_a_2 external_2 3 0 8 0 0 0
    ∷ none take_a_2 [] 0 9 8 0 0 0
    ∷ none [] external_2 1 0 1 1 0 0
    ∷ none take_a_2 wrong_entry 2 0 4 2 1 10
    ∷ none take_a_2 missing_mask 2 0 4 2 1 8
    ∷ none take_a_2 missing_successor 2 0 4 2 1 8
    ∷ none left_over [] 1 0 4 1 0 3
    ∷ none take_a_2 count_of_first 2 1 5 2 0 0
    ∷ none take_a_2 count_of_last 2 0 5 2 1 5
    ∷ none take_a_2 low_mask 2 1 5 2 0 3
    ∷ none take_a_2 stray_mask 2 1 6 2 0 1
    ∷ none take_a_2 wrong_successor 2 1 7 2 0 4
    ∷ none wrong_successor take_a_2 1 9 7 1 0 4
    ∷ []
