use Rattle.std.proofs.Common.{◌≡◌, ◌+◌, ◌∷◌, take, Some, Ok, Err, subst, arith, rules}
use Rattle.beat.specs.declared.begun.Begun.TheVariants.{Whole, Half}
use Rattle.wire.specs.Joins.{Ends, Continues}
use Rattle.wire.proofs.Lists.{ends_whole, goes_on, ends_refused, ends_missing, later}
use Rattle.wire.proofs.join.finish.Goals as goal

pub returns-in-Ok-Whole : goal.returns-in-Ok-Whole
returns-in-Ok-Whole g c w k b xs h =
    let ch = g.C.Channel.rules in
    let l = b ∷ c.args.rest.now in
    let n = c.loop-i.i + 1 in
    let beat = c.index-rest-i.result in
    let next : Continues ch g.C.Channel.waits c.loop-i.burst beat c.loop-i.buffer (Ok (Whole c.in-Ok-Whole.head)) c.next.new.buffer = search rules in
    let whole = ends_whole ch g.C.Channel.waits w k b l n beat c.in-Ok-Whole.head xs c.next.new.buffer (omega arith) (later b c.args.rest.now c.loop-i.i beat c.index-rest-i.is) (next w k b (take n l) xs (c.loop-i.invariant w k b xs h)) in
    let twice : n + 1 ≡ c.loop-i.i + 2 = omega arith in
    subst (λ m. Ends ch w k b l xs (Ok (Some (record { head = c.in-Ok-Whole.head; beats = m }))) c.next.new.buffer) twice whole

pub returns-in-Err : goal.returns-in-Err
returns-in-Err g c w k b xs h =
    let ch = g.C.Channel.rules in
    let l = b ∷ c.args.rest.now in
    let n = c.loop-i.i + 1 in
    let beat = c.index-rest-i.result in
    let half = c.loop-i.invariant w k b xs h in
    let next : Continues ch g.C.Channel.waits c.loop-i.burst beat c.loop-i.buffer (Err (c.in-Err.refusal, c.in-Err.back)) c.next.new.buffer = search rules in
    let s = next w k b (take n l) xs half in
    ends_refused ch w k b l n beat c.in-Err.refusal xs c.loop-i.buffer c.next.new.buffer (omega arith) (later b c.args.rest.now c.loop-i.i beat c.index-rest-i.is) (g.met.C.Channel.waiting w k b (take n l) xs c.loop-i.burst c.loop-i.buffer half) s.0 s.1

pub loop-i-preserved : goal.loop-i-preserved
loop-i-preserved g c w k b xs h =
    let ch = g.C.Channel.rules in
    let l = b ∷ c.args.rest.now in
    let n = c.loop-i.i + 1 in
    let beat = c.index-rest-i.result in
    let next : Continues ch g.C.Channel.waits c.loop-i.burst beat c.loop-i.buffer (Ok (Half c.in-Ok-Half.more)) c.next.new.buffer = search rules in
    goes_on ch g.C.Channel.waits w k b l n beat c.in-Ok-Half.more xs c.next.new.buffer (omega arith) (later b c.args.rest.now c.loop-i.i beat c.index-rest-i.is) (next w k b (take n l) xs (c.loop-i.invariant w k b xs h))

pub returns : goal.returns
returns g c w k b xs h =
    let ch = g.C.Channel.rules in
    let l = b ∷ c.args.rest.now in
    let n = c.loop-i.i + 1 in
    ends_missing ch w k b l n xs c.loop-i.buffer (omega arith) (g.met.C.Channel.waiting w k b (take n l) xs c.loop-i.burst c.loop-i.buffer (c.loop-i.invariant w k b xs h))
