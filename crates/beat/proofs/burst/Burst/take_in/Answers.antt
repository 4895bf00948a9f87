use Rattle.std.proofs.Common.{◌≡◌, ◌+◌, ◌<◌, true, sym, ap, ◌∙◌, subst, arith, rules}
use Rattle.beat.specs.Lanes.{per_beat}
use Rattle.beat.specs.Width.{width_bytes}
use Rattle.beat.specs.Channel.{per, beats_in, head_after, Due}
use Rattle.beat.proofs.Reading.{due_next}
use Rattle.beat.proofs.Widths.{shape, beat_ends}
use Rattle.beat.proofs.burst.Burst.take_in.Goals as goal

pub joined-mask-requires-clause-room : goal.joined-mask-requires-clause-room
joined-mask-requires-clause-room g c =
    let u = c.args.self in
    let h = g.C.Channel.beats.header u.head in
    let s = shape u.width h.size h.address u.due.size u.due.aligned in
    let k : c.of-lanes.result.count ≡ per g.C.Kind.Kind.kinds g.C.Channel.beats u.width u.head = c.of-lanes.ensures.count ∙ ap (λ x. per_beat (width_bytes u.width) x.size) c.header-header.ensures in
    omega (arith, beat_ends s u.come c.of-lanes.result.count u.due.due k, s.bytes)

pub invariant_of-result : goal.invariant_of-result
invariant_of-result g c =
    let ks = g.C.Kind.Kind.kinds in
    let ch = g.C.Channel.beats in
    let u = c.args.self in
    let after : c.with_mask-head.result ≡ head_after ks ch u.width u.head u.come c.args.beat = search rules in
    let more : u.come + 1 < beats_in ks ch u.width true u.head = search rules in
    record { due = subst (λ h. Due ks ch u.width h (u.come + 1)) (sym after) (due_next ks ch g.met.C.Channel.laws u.width u.head u.come c.args.beat u.due more) }
