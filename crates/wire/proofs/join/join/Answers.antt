use Rattle.wire.proofs.Joining.{only_legal, every_legal, again}
use Rattle.wire.proofs.join.join.Goals as goal

pub returns : goal.returns
returns g c =
    let ch = g.C.Channel.rules in
    let met = g.met.C.Channel in
    let n = c.args.width in
    let bs = c.args.beats.now in
    let xs = c.args.buffer.now in
    let r = c.read.result in
    let ys = c.read.new.buffer in
    let e = c.read.ensures in
    record {
      answer = e;
      only_legal = only_legal ch met.some met.sound n bs xs r ys e;
      every_legal = every_legal ch met.complete met.counted n bs xs r ys e;
      again = again ch met.complete met.counted met.cuts n bs xs r ys e;
    }
