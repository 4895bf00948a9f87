use Rattle.std.proofs.Common.{◌≡◌, ◌-◌, ◌<◌, ◌∷◌, length, take, drop, Some, Ok, sym, ap, ◌∙◌, subst, rules}
use Rattle.std.proofs.lemmas.Slice.{first_rest}
use Rattle.wire.specs.Joins.{Joins}
use Rattle.wire.proofs.Lists.{joins_whole, joins_half}
use Rattle.wire.proofs.join.read.Goals as goal

pub returns-in-Whole : goal.returns-in-Whole
returns-in-Whole g c =
    let ch = g.C.Channel.rules in
    let l = c.args.beats.now in
    let b = c.first-item.result in
    let rest = take (length l - 1) (drop 1 l) in
    let some : 0 < length l = search rules in
    let is : l ≡ b ∷ rest = first_rest l b some ∙ ap (λ x. x ∷ rest) (sym c.first-item.is) in
    subst (λ cs. Joins ch c.args.width cs c.args.buffer.now (Ok (Some (record { head = c.in-Whole.head; beats = 1 }))) c.begin.new.buffer) (sym is)
    (joins_whole ch g.C.Channel.waits c.args.width c.in_ok-map_err.field-0 b rest c.args.buffer.now c.in-Whole.head c.begin.new.buffer (search rules) (search rules))

pub returns-in-Half : goal.returns-in-Half
returns-in-Half g c =
    let ch = g.C.Channel.rules in
    let l = c.args.beats.now in
    let b = c.first-item.result in
    let rest = take (length l - 1) (drop 1 l) in
    let some : 0 < length l = search rules in
    let w = c.in_ok-map_err.field-0 in
    let xs = c.args.buffer.now in
    let is : l ≡ b ∷ rest = first_rest l b some ∙ ap (λ x. x ∷ rest) (sym c.first-item.is) in
    subst (λ cs. Joins ch c.args.width cs xs c.finish.result c.finish.new.buffer) (sym is)
    (joins_half ch g.C.Channel.waits c.args.width w b rest xs c.in-Half.burst c.begin.new.buffer c.finish.result c.finish.new.buffer (search rules) (search rules)
    (λ k half. c.finish.ensures w k b xs half))
