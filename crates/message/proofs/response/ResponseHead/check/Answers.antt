use Rattle.std.proofs.Common.{rules}
use Rattle.message.specs.Response.{response, response_checked}
use Rattle.message.proofs.Responding.{wholeness}
use Rattle.message.proofs.response.ResponseHead.check.Goals as goal

pub returns-in_err-opcode-clause-whole : goal.returns-in_err-opcode-clause-whole
unfolding response_checked
returns-in_err-opcode-clause-whole c =
    wholeness (response c.args.self c.args.data.now) c.from_residual.result (search rules)

pub returns-clause-whole : goal.returns-clause-whole
unfolding response_checked
returns-clause-whole c = wholeness (response c.args.self c.args.data.now) c.measure.result (search rules)
