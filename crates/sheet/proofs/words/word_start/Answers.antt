use Rattle.std.proofs.Common.{length, unwrap_or, ap, ◌∙◌, rules, tests, not}
use Rattle.std.proofs.lemmas.Iterator.{YieldsList-from_slice}
use Rattle.std.proofs.lemmas.Iterator.Search.{position_from_yields_List}
use Rattle.std.proofs.lemmas.List.Sums.{prefix_len-le-length}
use Rattle.sheet.specs.Text.{blank}
use Rattle.sheet.proofs.Cuts.{place_found}
use Rattle.sheet.proofs.words.word_start.Goals as goal

pub returns : goal.returns
returns c =
    let text = c.args.text.now in
    let found = position_from_yields_List (λ byte. not (blank byte)) _ _ c.position-start.result c.position-start.ensures.ran (YieldsList-from_slice text cc) (λ x b q k. search (rules, tests)) in
    c.unwrap_or.ensures ∙ ap (λ o. unwrap_or o (length text)) found ∙ place_found _ (length text) (prefix_len-le-length _ text)
