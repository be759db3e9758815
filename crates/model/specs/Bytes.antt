-- Numbers in bytes. Document 01, "Contracts as sheets": "All numbers are little-endian."
-- Assumes nothing.
use Rattle.std.specs.Prelude.{List, [], ◌∷◌, ◌++◌, ℕ, ◌+◌, ◌*◌, ◌/◌, ◌%◌, get_or}

-- the byte at a place; 0 beyond the end
unfoldable pub byte : List ℕ → ℕ → ℕ
byte b i = get_or b i 0

-- the 16-bit number at a place
unfoldable pub word : List ℕ → ℕ → ℕ
word b i = byte b i + 256 * byte b (i + 1)

-- the 32-bit number at a place
unfoldable pub dword : List ℕ → ℕ → ℕ
dword b i = word b i + 65536 * word b (i + 2)

-- a number as two bytes
unfoldable pub le16 : ℕ → List ℕ
le16 x = x % 256 ∷ x / 256 % 256 ∷ []

-- a number as four bytes
unfoldable pub le32 : ℕ → List ℕ
le32 x = le16 x ++ le16 (x / 65536)
