use Rattle.std.proofs.Common.{◌≡◌, false, length, None, sym, ◌∙◌, subst, rules}
use Rattle.std.proofs.lemmas.Bool.{both_ways}
use Rattle.beat.specs.declared.begun.Begun.TheVariants.{Whole}
use Rattle.beat.specs.Channel.{part, Due, LanesRead, Taken}
use Rattle.beat.proofs.Reading.{fit, carrying, due_first, first_room, first_whole, lanes_read, began_with}
use Rattle.beat.proofs.Widths.{width_is}
use Rattle.beat.proofs.burst.begin.Goals as goal

pub returns-then-not-has_data-clause-answer : goal.returns-then-not-has_data-clause-answer
returns-then-not-has_data-clause-answer g c =
    let ks = g.C.Kind.Kind.kinds in
    let ch = g.C.Channel.beats in
    let b = c.args.beat in
    let w = c.in_ok-width.width in
    let k = c.in_ok-kind.kind in
    let xs = c.args.buffer.now in
    let h = ch.header (ch.start b) in
    let judged = sym c.in_ok-kind.ensures in
    let size = g.met.C.Kind.Kind.small k h.size (fit ks ch None w b (length xs) k judged).fits in
    let head : c.header.result ≡ h = search rules in
    began_with ks ch (λ u. part u.head u.width u.come) c.args.width w b k xs (Whole c.with_mask.result) xs (sym c.in_ok-width.ensures) judged
    (first_whole ks ch (λ u. part u.head u.width u.come) k w b xs c.with_mask.result c.whole_mask-mask.result (search rules) size (search rules) (search rules))

pub returns-then-not-has_data-clause-lanes : goal.returns-then-not-has_data-clause-lanes
returns-then-not-has_data-clause-lanes g c =
    let ks = g.C.Kind.Kind.kinds in
    let ch = g.C.Channel.beats in
    let k = c.in_ok-kind.kind in
    let f = fit ks ch None c.in_ok-width.width c.args.beat (length c.args.buffer.now) k (sym c.in_ok-kind.ensures) in
    let none : ks.carries k ≡ false = search rules in
    λ some. absurd (both_ways (ks.carries k) none (sym (carrying ks ch (ch.start c.args.beat) k f.of) ∙ some))

pub invariant_of-burst : goal.invariant_of-burst
invariant_of-burst g c =
    let ks = g.C.Kind.Kind.kinds in
    let ch = g.C.Channel.beats in
    record {
      due =
          subst (λ h. Due ks ch c.in_ok-width.width h 0) (sym c.start-head.ensures)
          (due_first ks ch g.met.C.Kind.Kind.small g.met.C.Channel.laws c.in_ok-width.width c.args.beat (length c.args.buffer.now) c.in_ok-kind.kind (sym c.in_ok-kind.ensures) (search rules));
    }

pub take_in-requires : goal.take_in-requires
take_in-requires g c =
    rw c.start-head.ensures (first_room g.C.Kind.Kind.kinds g.C.Channel.beats c.in_ok-width.width c.args.beat (length c.args.buffer.now) c.in_ok-kind.kind (sym c.in_ok-kind.ensures) (search rules))

pub returns-clause-lanes : goal.returns-clause-lanes
returns-clause-lanes g c =
    let ks = g.C.Kind.Kind.kinds in
    let ch = g.C.Channel.beats in
    let w = c.in_ok-width.width in
    let b = c.args.beat in
    let xs = c.args.buffer.now in
    let ys = c.take_in.new.buffer in
    let n = length xs in
    let k = c.in_ok-kind.kind in
    let judged = sym c.in_ok-kind.ensures in
    let some = sym c.if-not-has_data.ensures in
    let taken = subst (λ h. Taken ks ch (λ u. part u.head u.width u.come) w h 0 b xs c.take_in.result ys) c.start-head.ensures (record { stands = c.take_in.ensures.stands; buffer = c.take_in.ensures.buffer }) in
    λ _.
    subst (λ m. LanesRead ks ch (λ u. part u.head u.width u.come) m (ch.start b) 0 b xs c.take_in.result ys) (sym (width_is c.args.width w (sym c.in_ok-width.ensures)))
    (lanes_read ks ch g.met.C.Channel.laws (λ u. part u.head u.width u.come) w (ch.start b) 0 b xs c.take_in.result ys
    (due_first ks ch g.met.C.Kind.Kind.small g.met.C.Channel.laws w b n k judged some)
    (first_room ks ch w b n k judged some) taken)
