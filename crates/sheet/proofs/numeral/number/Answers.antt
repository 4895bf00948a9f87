use Rattle.std.proofs.Common.{◌∙◌, arith, false-eqb, rules, tests}
use Rattle.std.proofs.lemmas.Iterator.{YieldsList-from_slice}
use Rattle.sheet.proofs.Positions.{reads_folded, reads_word}
use Rattle.sheet.proofs.numeral.number.Goals as goal

pub returns : goal.returns
returns c =
    let word = c.args.word.now in
    reads_folded c.args.base c.args.limit (λ n x r q k. search (rules, tests)) _ _ 0 word c.try_fold.result c.try_fold.ensures.ran (YieldsList-from_slice word cc)
    ∙ reads_word _ _ _ (omega (arith, false-eqb _ 0 c.if-is_empty.ensures))
