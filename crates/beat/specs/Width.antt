-- The widths of a bus.
use Rattle.std.specs.Prelude.{ℕ, cond, Ok, Err, Result, ◌==◌}
use Rattle.message.specs.declared.refusal.Refusal.{Refusal}
use Rattle.message.specs.declared.refusal.Refusal.TheVariants as no
use Rattle.beat.specs.declared.width.Width.{Width}
use Rattle.beat.specs.declared.width.Width.TheVariants.{One, Two, Four, Eight}

-- how many bytes a beat can carry
abbrev pub width_bytes : Width → ℕ
width_bytes One = 1
width_bytes Two = 2
width_bytes Four = 4
width_bytes Eight = 8

-- the width of so many bytes; any other number is refused
abbrev pub width_of : ℕ → Result Width Refusal
width_of n =
    cond (n == 1) (Ok One) (
    cond (n == 2) (Ok Two) (
    cond (n == 4) (Ok Four) (
    cond (n == 8) (Ok Eight) (Err no.Parameter))))
