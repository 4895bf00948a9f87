use Rattle.message.specs.Request.{request}
use Rattle.beat.proofs.Requests.{right}
use Rattle.beat.proofs.request.ChannelAChannel.check.Goals as goal

pub returns-clause-right : goal.returns-clause-right
returns-clause-right c = right (request c.args.head c.args.data.now) c.check.result c.check.ensures.legal
