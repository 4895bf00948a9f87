use Rattle.std.proofs.Common.{◌≡◌, ap, ◌∙◌, rules}
use Rattle.std.specs.Option.{IfSome}
use Rattle.sheet.specs.Line.{reading, line_of, view}
use Rattle.sheet.proofs.Fields.{says}
use Rattle.sheet.proofs.Spaced.{words_spaced}
use Rattle.sheet.proofs.Writing.{written_read}
use Rattle.sheet.proofs.line.read_line.Goals as goal

pub returns : goal.returns
returns c =
    let line = c.args.line.now in
    let answer = view c.read_words.result in
    let said : IfSome answer (λ said. said ≡ line_of line) = search rules in
    record {
      said = said;
      typed = λ ws h e. says answer (ap line_of e ∙ ap reading (words_spaced ws h)) said;
      written = λ q f e. says answer (ap line_of e ∙ written_read q f) said;
    }
