use Rattle.std.proofs.Common.{◌≡◌, Err, vec_items, sym, refl, ap, ◌∙◌, rules, tests}
use Rattle.std.specs.Option.{option_map}
use Rattle.sheet.specs.declared.fault.Field.TheVariants as field
use Rattle.sheet.specs.Line.{told}
use Rattle.sheet.proofs.Fields.{blames, request_is}
use Rattle.sheet.proofs.line.read_request.Goals as goal

pub returns-in_err-head : goal.returns-in_err-head
returns-in_err-head c =
    blames c.from_residual.result _ _ c.from_residual.ensures.1 (request_is _ c.args.data.now c.in_err-head.ensures refl)

pub returns-in_err-data : goal.returns-in_err-data
returns-in_err-data c =
    let missing = sym (ap (option_map vec_items) c.in_err-data.ensures.ok_part) ∙ c.in_ok-byte_pairs.ensures in
    let named : c.in_err-data.field-0.0 ≡ field.Data = search (rules, tests) in
    blames c.from_residual-in_err-data.result _ _ c.from_residual-in_err-data.ensures.1 (ap Err named ∙ request_is _ c.args.data.now c.in_ok-head.ensures missing)

pub returns : goal.returns
returns c =
    ap told (request_is _ c.args.data.now c.in_ok-head.ensures (sym (ap (option_map vec_items) c.in_ok-data.ensures.ok_part) ∙ c.in_ok-byte_pairs.ensures))
