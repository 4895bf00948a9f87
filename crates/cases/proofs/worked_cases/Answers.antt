use Rattle.std.proofs.Common.{ap, rules}
use Rattle.message.specs.Refusal.{number_of}
use Rattle.message.specs.Kind.{placed}
use Rattle.message.specs.Request.{checked}
use Rattle.cases.proofs.worked_cases.Goals as goal

pub returns : goal.returns
unfolding placed checked
returns c =
    let a = c.check.ensures.value in
    let b = c.check-2.ensures.value in
    let p = c.check-3.ensures.value in
    let f = c.check-4.ensures.value in
    record {
      get_at_40 = record { verdict = a; number = ap number_of a };
      get_at_44 = record { verdict = b; number = ap number_of b };
      partial_fe = record { verdict = p; number = ap number_of p };
      full_fe = record { verdict = f; number = ap number_of f };
      contains_1fff = search rules;
      contains_2000 = search rules;
      overlaps = search rules;
    }
