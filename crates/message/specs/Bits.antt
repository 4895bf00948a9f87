-- A number's binary digits.
use Rattle.std.specs.Prelude.{ℕ, ◌/◌, ◌%◌, ◌^◌}

-- bit i of n, 0 or 1
abbrev pub bit : ℕ → ℕ → ℕ
bit n i = n / 2 ^ i % 2
