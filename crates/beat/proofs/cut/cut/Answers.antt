use Rattle.std.proofs.Common.{true, cond, length, sym, ap, ◌∙◌, arith, rules}
use Rattle.beat.specs.Lanes.{beat_count, per_beat}
use Rattle.beat.specs.Width.{width_bytes}
use Rattle.beat.proofs.Digits.{each_byte}
use Rattle.beat.proofs.Reading.{all_data, laid_out}
use Rattle.beat.proofs.Widths.{Within, within, width_is}
use Rattle.beat.proofs.cut.cut.Goals as goal
use Rattle.beat.proofs.cut.cut.Goals.{Else-index-beats}

lies : (g : _) (c : goal.Else-index-beats g) → Within (width_bytes c.in_ok-width.width) (g.C.Channel.beats.header c.args.head).size (g.C.Channel.beats.header c.args.head).address c.args.index c.of-lanes.result.count
lies g c =
    let h = g.C.Channel.beats.header c.args.head in
    let w = c.in_ok-width.width in
    let right = c.in_ok-kind.ensures.right in
    within w h.size h.address right.size right.aligned c.has_data.result c.args.index c.of-lanes.result.count c.beats.result (omega arith)
    (c.beats.ensures ∙ ap (λ n. cond c.has_data.result n 1) (c.of-lanes.ensures.beats ∙ ap (λ x. beat_count true (width_bytes w) x.size) c.header-header.ensures))
    (c.of-lanes.ensures.count ∙ ap (λ x. per_beat (width_bytes w) x.size) c.header-header.ensures)

pub mask-mask-requires : goal.mask-mask-requires
mask-mask-requires g c = (lies g (goal.at.mask-mask-requires g c).Else-index-beats).low

pub sent-bytes-requires : goal.sent-bytes-requires
sent-bytes-requires g c some =
    let h = g.C.Channel.beats.header c.args.head in
    omega (arith, (lies g (goal.at.sent-bytes-requires g c).Else-index-beats).ends, all_data g.C.Kind.Kind.kinds g.C.Channel.beats c.in_ok-kind.kind h (length c.args.data.now) c.in_ok-kind.ensures.right some)

pub returns-clause-lanes : goal.returns-clause-lanes
returns-clause-lanes g c =
    let w = c.in_ok-width.width in
    let s = lies g (goal.at.returns-clause-lanes g c).Else-index-beats in
    laid_out g.C.Kind.Kind.kinds g.C.Channel.beats g.met.C.Channel.laws c.args.width w c.in_ok-kind.kind c.args.head c.args.data.now c.args.index c.beat.result
    (width_is c.args.width w (sym c.in_ok-width.ensures)) s.lies s.due (each_byte c.args.data.now c.type_inv.data) (search rules)
