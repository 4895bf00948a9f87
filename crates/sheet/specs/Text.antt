-- Bytes of text.
use Rattle.std.specs.Prelude.{ℕ, Bool, ◌||◌, ◌==◌, List, map}
use Rattle.std.specs.Borrow.{Bor}

-- the texts that are lent
abbrev pub texts : List (Bor (List ℕ)) → List (List ℕ)
texts lent = map (λ x. x.now) lent

-- the end of a line
abbrev pub line_feed : ℕ → Bool
line_feed byte = byte == 10

-- space, tab and carriage return
unfoldable pub blank : ℕ → Bool
blank byte = byte == 32 || (byte == 9 || byte == 13)

-- `#`
unfoldable pub comment : ℕ → Bool
comment byte = byte == 35
