use Rattle.std.proofs.Common.{◌≡◌, ◌≤◌, ◌%◌, ◌^◌, sym, arith, rules}
use Rattle.message.proofs.Placed.{placed_right}
use Rattle.beat.specs.Channel.{judged}
use Rattle.beat.proofs.judge.judge.Goals as goal
use Rattle.beat.proofs.judge.judge.Goals.{In_ok-kind}

right : (g : _) (c : goal.In_ok-kind g) → (c.header-header.result.size ≤ 6) × (c.header-header.result.address % 2 ^ c.header-header.result.size ≡ 0)
right g c =
    let h = c.header-header.result in
    placed_right g.C.Kind.Kind.kinds g.met.C.Kind.Kind.small h.opcode h.param h.size h.address c.in_ok-kind.kind (sym c.in_ok-kind.ensures)

pub of-requires : goal.of-requires
of-requires g c =
    let p = right g (goal.at.of-requires g c).In_ok-kind in
    record { size = p.0; aligned = p.1 }

pub overflow_shl-header : goal.overflow_shl-header
overflow_shl-header g c = omega (arith, (right g (goal.at.overflow_shl-header g c).In_ok-kind).0)

pub returns : goal.returns
unfolding judged
returns g c =
    let small = (right g (goal.at.returns g c).In_ok-kind).0 in
    search rules
