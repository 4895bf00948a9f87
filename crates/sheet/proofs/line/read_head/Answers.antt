use Rattle.std.proofs.Common.{◌∙◌, refl}
use Rattle.sheet.proofs.Fields.{small, address, mask, head_is, is_error}
use Rattle.sheet.proofs.line.read_head.Goals as goal

pub returns-in_err-read_field : goal.returns-in_err-read_field
returns-in_err-read_field c =
    is_error c.from_residual.result _ c.from_residual.ensures.1 ∙ head_is c.args.words.now (small _ _ _ _ c.in_err-read_field.ensures) refl refl refl refl refl

pub returns-in_err-read_field-2 : goal.returns-in_err-read_field-2
returns-in_err-read_field-2 c =
    is_error c.from_residual-in_err-read_field-2.result _ c.from_residual-in_err-read_field-2.ensures.1 ∙ head_is c.args.words.now (small _ _ _ _ c.in_ok-read_field.ensures) (small _ _ _ _ c.in_err-read_field-2.ensures) refl refl refl refl

pub returns-in_err-read_field-3 : goal.returns-in_err-read_field-3
returns-in_err-read_field-3 c =
    is_error c.from_residual-in_err-read_field-3.result _ c.from_residual-in_err-read_field-3.ensures.1 ∙ head_is c.args.words.now (small _ _ _ _ c.in_ok-read_field.ensures) (small _ _ _ _ c.in_ok-read_field-2.ensures) (small _ _ _ _ c.in_err-read_field-3.ensures) refl refl refl

pub returns-in_err-read_field-4 : goal.returns-in_err-read_field-4
returns-in_err-read_field-4 c =
    is_error c.from_residual-in_err-read_field-4.result _ c.from_residual-in_err-read_field-4.ensures.1 ∙ head_is c.args.words.now (small _ _ _ _ c.in_ok-read_field.ensures) (small _ _ _ _ c.in_ok-read_field-2.ensures) (small _ _ _ _ c.in_ok-read_field-3.ensures) (small _ _ _ _ c.in_err-read_field-4.ensures) refl refl

pub returns-in_err-read_field-5 : goal.returns-in_err-read_field-5
returns-in_err-read_field-5 c =
    is_error c.from_residual-in_err-read_field-5.result _ c.from_residual-in_err-read_field-5.ensures.1 ∙ head_is c.args.words.now (small _ _ _ _ c.in_ok-read_field.ensures) (small _ _ _ _ c.in_ok-read_field-2.ensures) (small _ _ _ _ c.in_ok-read_field-3.ensures) (small _ _ _ _ c.in_ok-read_field-4.ensures) (address _ _ _ _ c.in_err-read_field-5.ensures) refl

pub returns-in_err-read_field-6 : goal.returns-in_err-read_field-6
returns-in_err-read_field-6 c =
    is_error c.from_residual-in_err-read_field-6.result _ c.from_residual-in_err-read_field-6.ensures.1 ∙ head_is c.args.words.now (small _ _ _ _ c.in_ok-read_field.ensures) (small _ _ _ _ c.in_ok-read_field-2.ensures) (small _ _ _ _ c.in_ok-read_field-3.ensures) (small _ _ _ _ c.in_ok-read_field-4.ensures) (address _ _ _ _ c.in_ok-read_field-5.ensures) (mask _ _ _ _ c.in_err-read_field-6.ensures)

pub returns : goal.returns
returns c = head_is c.args.words.now (small _ _ _ _ c.in_ok-read_field.ensures) (small _ _ _ _ c.in_ok-read_field-2.ensures) (small _ _ _ _ c.in_ok-read_field-3.ensures) (small _ _ _ _ c.in_ok-read_field-4.ensures) (address _ _ _ _ c.in_ok-read_field-5.ensures) (mask _ _ _ _ c.in_ok-read_field-6.ensures)
