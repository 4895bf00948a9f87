use Rattle.std.proofs.Common.{◌≡◌, ◌-◌, ◌^◌, Err, Some, sym, subst, ◌∙◌, rules, tests}
use Rattle.std.specs.Option.{MatchOption}
use Rattle.sheet.specs.Line.{blaming}
use Rattle.sheet.specs.Numeral.{number_of}
use Rattle.sheet.proofs.Fields.{blamed}
use Rattle.sheet.proofs.line.read_field.Goals as goal

pub returns : goal.returns
returns g c =
    let known : number_of c.args.base (2 ^ 64 - 1) c.args.word.now ≡ Some c.in_ok-value.value = sym c.number.ensures ∙ c.in_ok-value.ensures.ok_part in
    subst (λ o. MatchOption o (c.map_err.result ≡ Err c.args.field) (λ n. (t : _) × g.N.TryFrom.try_from_gives n t × (c.map_err.result ≡ blaming c.args.field t))) (sym known) (c.try_from.result, c.try_from.ensures, blamed _ _ _ (search (rules, tests)))
