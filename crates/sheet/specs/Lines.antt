-- The lines of a text.
use Rattle.std.specs.Prelude.{ℕ, cond, List, [], ◌∷◌}
use Rattle.std.specs.List.{onto_first}
use Rattle.sheet.specs.Text.{line_feed}

-- each line ends at a line feed, which is no part of it, and the last may end with the text
unfoldable pub lines_of : List ℕ → List (List ℕ)
lines_of [] = []
lines_of (b ∷ bs) = cond (line_feed b) ([] ∷ lines_of bs) (onto_first b (lines_of bs))
