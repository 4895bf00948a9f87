use Rattle.std.proofs.Common.{ℕ, ◌+◌, List, [], ◌∷◌, take}
use Rattle.beat.specs.declared.width.Width.{Width}
use Rattle.wire.proofs.join.finish.Given as goal

abbrev pub invariant-loop-i : goal.invariant-loop-i
invariant-loop-i g l =
    (w : Width) (k : g.C.Channel.Kind) (b : g.row.C-Beat.Denot) (xs : List ℕ) → g.C.Channel.waits w k b (b ∷ []) xs l.initial.burst l.initial.buffer → g.C.Channel.waits w k b (take (l.i + 1) (b ∷ l.rest)) xs l.burst l.buffer
