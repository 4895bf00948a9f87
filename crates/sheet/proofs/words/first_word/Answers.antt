use Rattle.std.proofs.Common.{◌≡◌, ◌<◌, ◌∷◌, length, take, drop, sym, ap, ◌∙◌, subst, arith, not, true-eqb, false-eqb}
use Rattle.std.proofs.lemmas.List.Sums.{prefix_len-le-length}
use Rattle.sheet.specs.Text.{blank}
use Rattle.sheet.specs.Words.{runs}
use Rattle.sheet.proofs.Cuts.{past_blanks, word_length, no_runs, skipped, at_word, first_run}
use Rattle.sheet.proofs.words.first_word.Goals as goal

pub split_at-requires : goal.split_at-requires
split_at-requires c = omega (arith, c.word_start.ensures, prefix_len-le-length (λ b. not (not (blank b))) c.args.text.now)

pub returns-then-is_empty : goal.returns-then-is_empty
returns-then-is_empty c =
    let text = c.args.text.now in
    let past = c.split_at.ensures.back ∙ ap (λ n. drop n text) c.word_start.ensures in
    skipped text ∙ ap runs (sym past) ∙ no_runs _ (true-eqb _ 0 c.if-is_empty.ensures)

pub split_at-requires-2 : goal.split_at-requires-2
split_at-requires-2 c = omega (arith, c.word_end.ensures, prefix_len-le-length (λ b. not (blank b)) c.split_at.result.1.now)

pub returns : goal.returns
returns c =
    let text = c.args.text.now in
    let from = c.split_at.result.1.now in
    let past : from ≡ past_blanks text = c.split_at.ensures.back ∙ ap (λ n. drop n text) c.word_start.ensures in
    let more : 0 < length from = omega (arith, false-eqb _ 0 c.if-is_empty.ensures) in
    let here : 0 < word_length from = subst (λ xs. 0 < word_length xs) (sym past) (at_word text (subst (λ xs. 0 < length xs) past more)) in
    let word = c.split_at-2.ensures.front ∙ ap (λ n. take n from) c.word_end.ensures in
    let after = c.split_at-2.ensures.back ∙ ap (λ n. drop n from) c.word_end.ensures in (
      skipped text ∙ ap runs (sym past) ∙ first_run from here ∙ (λ i. sym word i ∷ runs (sym after i)),
      omega (arith, c.word_end.ensures, c.split_at-2.ensures.back_len, c.split_at.ensures.back_len),
    )
