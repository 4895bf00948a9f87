use Rattle.std.proofs.Common.{◌≡◌, length, take, unwrap_or, sym, ap, ◌∙◌, rules, tests}
use Rattle.std.proofs.lemmas.Iterator.{YieldsList-from_slice}
use Rattle.std.proofs.lemmas.Iterator.Search.{position_from_yields_List}
use Rattle.std.proofs.lemmas.List.Sums.{prefix_len-le-length}
use Rattle.std.specs.List.{position_or_len}
use Rattle.sheet.specs.Text.{comment}
use Rattle.sheet.proofs.Cuts.{said_is, place_found}
use Rattle.sheet.proofs.words.before_comment.Goals as goal

pub returns : goal.returns
unfolding comment
returns c =
    let line = c.args.line.now in
    let place = position_or_len comment line in
    let found = position_from_yields_List comment _ _ c.position-comment.result c.position-comment.ensures.ran (YieldsList-from_slice line cc) (λ x b q k. search (rules, tests)) in
    let end : c.unwrap_or.result ≡ place = c.unwrap_or.ensures ∙ ap (λ o. unwrap_or o (length line)) found ∙ place_found place (length line) (prefix_len-le-length _ line) in
    ap (λ n. take n line) end ∙ sym (said_is line)
