use Rattle.std.proofs.Common.{◌<◌, ◌≤◌, ◌++◌, length, drop, Some, vec_items, sym, ap, ◌∙◌, append-nil, arith, rules, true-eqb, false-eqb}
use Rattle.std.specs.Option.{option_map}
use Rattle.std.proofs.lemmas.List.{take_rest}
use Rattle.sheet.specs.Numeral.{bytes_of}
use Rattle.sheet.proofs.Positions.{mapped_same, pairs_end, pairs_odd, pairs_none, pairs_more_by}
use Rattle.sheet.proofs.numeral.byte_pairs.Goals as goal

pub loop-rest-init : goal.loop-rest-init
loop-rest-init c = ap (λ xs. option_map (λ more. xs ++ more) (bytes_of c.args.word.now)) c.new-bytes.ensures.items ∙ mapped_same _

pub returns-in_default-byte : goal.returns-in_default-byte
returns-in_default-byte c =
    let long : 2 ≤ length c.loop-rest.rest.now = search rules in
    ap (option_map (λ more. vec_items c.loop-rest.bytes ++ more)) (sym (pairs_none _ long (sym c.byte.ensures ∙ c.in_default-byte.is)))
    ∙ c.loop-rest.invariant

pub loop-rest-preserved : goal.loop-rest-preserved
loop-rest-preserved c =
    let long : 2 ≤ length c.loop-rest.rest.now = search rules in
    let pushed = c.in_ok-push.ensures.items in
    simp take_rest
    (ap (λ xs. option_map (λ more. xs ++ more) (bytes_of (drop 2 c.loop-rest.rest.now))) pushed
    ∙ pairs_more_by _ _ _ long (sym c.byte.ensures ∙ c.in-Some.is) ∙ c.loop-rest.invariant)

pub returns-then-not-is_empty : goal.returns-then-not-is_empty
returns-then-not-is_empty c =
    let short : length c.loop-rest.rest.now < 2 = search rules in
    ap (option_map (λ more. vec_items c.loop-rest.bytes ++ more)) (sym (pairs_odd _ (omega (arith, false-eqb _ 0 c.if-not-is_empty.ensures))))
    ∙ c.loop-rest.invariant

pub returns : goal.returns
returns c =
    ap Some (sym (append-nil _))
    ∙ ap (option_map (λ more. vec_items c.loop-rest.bytes ++ more)) (sym (pairs_end _ (true-eqb _ 0 c.if-not-is_empty.ensures)))
    ∙ c.loop-rest.invariant
