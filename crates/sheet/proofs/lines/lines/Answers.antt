use Rattle.std.proofs.Common.{◌≡◌, vec_items, IfOk, sym, ap, ◌∙◌, subst, eq-eqb, ne_eqb}
use Rattle.std.specs.List.{slice_split}
use Rattle.sheet.specs.Text.{line_feed, texts}
use Rattle.sheet.specs.Lines.{lines_of}
use Rattle.sheet.proofs.Cuts.{no_lines, lines_ended, lines_open}
use Rattle.sheet.proofs.lines.lines.Goals as goal

pub returns-in_default : goal.returns-in_default
returns-in_default c = ap texts c.new.ensures.items ∙ sym (no_lines c.args.text.now c.in_default.ensures.cases)

pub returns-then-last-eq10 : goal.returns-then-last-eq10
returns-then-last-eq10 c =
    let cut = c.in-Some.ensures.cases.0 in
    let same : slice_split line_feed c.in-Some.before.now ≡ lines_of c.args.text.now = sym (ap lines_of cut ∙ lines_ended c.in-Some.before.now c.in-Some.last.now (eq-eqb c.in-Some.last.now 10 c.if-last-eq10.true)) in
    subst (λ ls. IfOk c.pieces.result (λ v. texts (vec_items v) ≡ ls)) same c.pieces.ensures

pub returns-else-last-eq10 : goal.returns-else-last-eq10
returns-else-last-eq10 c =
    let cut = c.in-Some.ensures.cases.0 in
    let same : slice_split line_feed c.args.text.now ≡ lines_of c.args.text.now = sym (ap lines_of cut ∙ lines_open c.in-Some.before.now c.in-Some.last.now (ne_eqb c.in-Some.last.now 10 c.if-last-eq10.false) ∙ ap (slice_split line_feed) (sym cut)) in
    subst (λ ls. IfOk c.pieces-else-last-eq10.result (λ v. texts (vec_items v) ≡ ls)) same c.pieces-else-last-eq10.ensures
