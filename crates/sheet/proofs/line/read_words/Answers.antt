use Rattle.std.proofs.Common.{◌≡◌, [], map, length, get_or, sym, subst, refl, ap, ◌∙◌, arith, get_or-drop, rules, tests}
use Rattle.std.specs.Option.{IfSome}
use Rattle.std.proofs.lemmas.List.{get_or_past}
use Rattle.sheet.specs.Line.{told, reading, request_of}
use Rattle.sheet.proofs.Fields.{absent, counted, says, some_same}
use Rattle.sheet.proofs.line.read_words.Goals as goal

pub returns-in-Some-default-empty : goal.returns-in-Some-default-empty
returns-in-Some-default-empty c =
    let words = c.args.words.now in
    let count : length words ≡ 6 = search rules in
    let none : [] ≡ (get_or words 6 absent).now = sym (ap (λ x. x.now) (get_or_past words 6 absent (omega arith))) in
    let same = some_same c.read_request.result c.map.result (search (rules, tests)) in
    subst (λ o. IfSome o (λ said. said ≡ reading (map (λ x. x.now) words))) same
    (says _ (ap (λ xs. told (request_of (map (λ x. x.now) xs) [])) c.in-Some-default-empty.ensures.cases.0 ∙ counted words [] (omega arith) (omega arith) none) c.read_request.ensures)

pub returns-in-Some-default-len1 : goal.returns-in-Some-default-len1
returns-in-Some-default-len1 c =
    let words = c.args.words.now in
    let cut = c.in-Some-default-len1.ensures.cases in
    let last = ap (λ xs. (get_or xs 0 absent).now) cut.1 ∙ ap (λ x. x.now) (get_or-drop 6 words 0 absent) in
    let count : length words ≡ 7 = search rules in
    let same = some_same c.read_request-in-Some-default-len1.result c.map-in-Some-default-len1.result (search (rules, tests)) in
    subst (λ o. IfSome o (λ said. said ≡ reading (map (λ x. x.now) words))) same
    (says _ ((λ i. told (request_of (map (λ x. x.now) (cut.0 i)) (last i))) ∙ counted words (get_or words 6 absent).now (omega arith) (omega arith) refl) c.read_request-in-Some-default-len1.ensures)
