use Rattle.message.specs.Response.{response_kinds}
use Rattle.beat.specs.Channel.{part}
use Rattle.beat.specs.Response.{response_beats, response_laws}
use Rattle.wire.specs.Response.{response_messages}
use Rattle.wire.specs.Progress.{begins, continues, given_up}
use Rattle.wire.proofs.response.ChannelDChannel.TheImpl.Goals as goal

-- what the reader's calls tell gives what the channel asks of them
pub begin-tells : goal.begin-tells
begin-tells c = begins response_kinds response_beats response_laws response_messages (λ u. part u.head u.width u.come) c.args.width c.args.beat c.args.buffer.now c.result c.new.buffer.now c.ensures.long c.ensures.answer

pub next-tells : goal.next-tells
next-tells c = continues response_kinds response_beats response_laws response_messages (λ u. part u.head u.width u.come) c.args.burst c.args.beat c.args.buffer.now c.result c.new.buffer.now c.ensures.long c.ensures.answer

pub give_up-tells : goal.give_up-tells
give_up-tells c = given_up response_kinds response_beats response_laws response_messages (λ u. part u.head u.width u.come) c.args.burst c.result c.ensures
