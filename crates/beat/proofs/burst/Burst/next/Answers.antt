use Rattle.std.proofs.Common.{length, sym}
use Rattle.beat.specs.Channel.{part}
use Rattle.beat.proofs.Reading.{later_room, lanes_read}
use Rattle.beat.proofs.burst.Burst.next.Goals as goal
use Rattle.beat.proofs.burst.Burst.next.Goals.{In-Ok}

pub take_in-requires : goal.take_in-requires
take_in-requires g c =
    let u = c.args.self in
    later_room g.C.Kind.Kind.kinds g.C.Channel.beats u.width u.head u.come u.due c.args.beat (length c.args.buffer.now) c.in-Ok.field-0 (sym c.in-Ok.ensures)

pub returns-in-Ok-clause-lanes : goal.returns-in-Ok-clause-lanes
returns-in-Ok-clause-lanes g c =
    let ks = g.C.Kind.Kind.kinds in
    let ch = g.C.Channel.beats in
    let u = c.args.self in
    let xs = c.args.buffer.now in
    lanes_read ks ch g.met.C.Channel.laws (λ v. part v.head v.width v.come) u.width u.head u.come c.args.beat xs c.take_in.result c.take_in.new.buffer u.due
    (later_room ks ch u.width u.head u.come u.due c.args.beat (length xs) c.in-Ok.field-0 (sym c.in-Ok.ensures))
    (record { stands = c.take_in.ensures.stands; buffer = c.take_in.ensures.buffer })
