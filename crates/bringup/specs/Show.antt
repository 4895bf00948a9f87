-- What is shown of a request.
use Rattle.std.specs.Prelude.{ℕ, ◌^◌, cond, Some, None, Option, nat_le}

-- how many bytes a message of a size covers, where there is such a message
abbrev pub covered : ℕ → Option ℕ
covered size = cond (nat_le size 6) (Some (2 ^ size)) None
