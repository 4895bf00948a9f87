use Rattle.std.proofs.Common.{◌%◌, ap, arith}
use Rattle.std.proofs.lemmas.Nat.{one_shl}
use Rattle.beat.proofs.Widths.{shape}
use Rattle.beat.proofs.lanes.Lanes.of.Goals as goal

pub invariant_of-result : goal.invariant_of-result
invariant_of-result c =
    let s = shape c.args.width c.args.size c.args.address c.requires.size c.requires.aligned in
    let first = ap (λ n. c.args.address % n) c.from-bytes.ensures in
    let count = one_shl c.args.size 64 (omega arith) in
    record { some = omega (arith, s.some, c.min.ensures, c.from-bytes.ensures, count); fits = omega (arith, s.within, s.wide, first, c.min.ensures, c.from-bytes.ensures, count) }
