use Rattle.std.proofs.Common.{◌≡◌, rules}
use Rattle.message.specs.Request.{Request, request, checked}
use Rattle.message.proofs.Judged.{legality}
use Rattle.message.proofs.request.RequestHead.check.Goals as goal

pub returns-in_err-operation-clause-legal : goal.returns-in_err-operation-clause-legal
unfolding checked
returns-in_err-operation-clause-legal c =
    legality (request c.args.self c.args.data.now) c.from_residual.result (search rules)

pub returns : goal.returns
unfolding checked
returns c =
    let q : Request = request c.args.self c.args.data.now in
    let e : c.fill.result ≡ checked q = search rules in
    record { value = e; legal = legality q c.fill.result e }
