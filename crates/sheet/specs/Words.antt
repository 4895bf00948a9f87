-- The words of a line.
use Rattle.std.specs.Prelude.{◌≡◌, ℕ, ◌<◌, Bool, true, false, cond, List, [], ◌∷◌, ◌++◌, length, filter}
use Rattle.std.specs.List.{AllByRecursion, slice_split}
use Rattle.sheet.specs.Text.{blank, comment}

-- a line without its comment
abbrev pub said : List ℕ → List ℕ
said [] = []
said (b ∷ bs) = cond (comment b) [] (b ∷ said bs)

-- a text cut at each blank: the pieces between them, of which some may be empty
abbrev pub pieces : List ℕ → List (List ℕ)
pieces text = slice_split blank text

-- a piece that has a byte
abbrev pub some : List ℕ → Bool
some [] = false
some (b ∷ bs) = true

-- the longest runs of bytes that are no blanks: the pieces that are not empty
unfoldable pub runs : List ℕ → List (List ℕ)
runs text = filter some (pieces text)

-- the words of a line: the runs before its comment
unfoldable pub words_of : List ℕ → List (List ℕ)
words_of line = runs (said line)

-- a byte of a word: no blank, and no beginning of a comment
abbrev pub Plain : ℕ → Type 0
Plain byte = (blank byte ≡ false) × (comment byte ≡ false)

-- a word that can be typed
abbrev pub Typed : List ℕ → Type 0
Typed word = (0 < length word) × AllByRecursion Plain word

-- words typed with a space after each
abbrev pub spaced : List (List ℕ) → List ℕ
spaced [] = []
spaced (word ∷ words) = word ++ (32 ∷ spaced words)
