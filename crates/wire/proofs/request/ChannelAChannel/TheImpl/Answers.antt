use Rattle.message.specs.Request.{operation_kinds}
use Rattle.beat.specs.Channel.{part}
use Rattle.beat.specs.Request.{request_beats, request_laws}
use Rattle.wire.specs.Request.{request_messages}
use Rattle.wire.specs.Progress.{begins, continues, given_up}
use Rattle.wire.proofs.request.ChannelAChannel.TheImpl.Goals as goal

-- what the reader's calls tell gives what the channel asks of them
pub begin-tells : goal.begin-tells
begin-tells c = begins operation_kinds request_beats request_laws request_messages (λ u. part u.head u.width u.come) c.args.width c.args.beat c.args.buffer.now c.result c.new.buffer.now c.ensures.long c.ensures.answer

pub next-tells : goal.next-tells
next-tells c = continues operation_kinds request_beats request_laws request_messages (λ u. part u.head u.width u.come) c.args.burst c.args.beat c.args.buffer.now c.result c.new.buffer.now c.ensures.long c.ensures.answer

pub give_up-tells : goal.give_up-tells
give_up-tells c = given_up operation_kinds request_beats request_laws request_messages (λ u. part u.head u.width u.come) c.args.burst c.result c.ensures
