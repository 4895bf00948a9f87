use Rattle.std.proofs.Common.{◌++◌, vec_items, sym, ap, ◌∙◌, append_assoc}
use Rattle.std.proofs.lemmas.List.{map_push}
use Rattle.sheet.specs.Text.{texts}
use Rattle.sheet.specs.Words.{runs, words_of}
use Rattle.sheet.proofs.words.words.Goals as goal

pub loop-word-init : goal.loop-word-init
unfolding words_of
loop-word-init c =
    ap (λ ws. texts ws ++ runs c.before_comment-rest.result.now) c.new-words.ensures.items
    ∙ ap runs c.before_comment-rest.ensures

pub loop-word-preserved : goal.loop-word-preserved
loop-word-preserved c =
    let old = vec_items c.loop-word.words in
    let after = c.in-Some.after.now in
    ap (λ ws. texts ws ++ runs after) c.in_ok-push.ensures.items
    ∙ ap (λ ws. ws ++ runs after) (map_push (λ x. x.now) old c.in-Some.word)
    ∙ append_assoc (texts old) _ (runs after)
    ∙ ap (λ ws. texts old ++ ws) (sym c.in-Some.ensures.0)
    ∙ c.loop-word.invariant
