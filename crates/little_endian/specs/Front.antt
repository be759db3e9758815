-- What a writer leaves behind in the bytes that it is lent.
-- Assumes nothing.
use Rattle.std.specs.Prelude.{◌≡◌, List, ◌++◌, ℕ, length, drop}

-- "bytes beyond it are untouched": xs with w at its front
unfoldable pub front : List ℕ → List ℕ → List ℕ
front w xs = w ++ drop (length w) xs

-- bytes were written, `size` of them: they stand at the front of what was lent, and the rest of it is untouched
pub record Wrote (bytes : List ℕ) (size : ℕ) (out out' : List ℕ) : Type 0 where
  pub size_is : size ≡ length bytes
  pub in_front : out' ≡ front bytes out
