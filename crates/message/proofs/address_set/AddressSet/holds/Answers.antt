use Rattle.std.proofs.Common.{arith}
use Rattle.std.proofs.lemmas.Bool.Decides.{Decides-at}
use Rattle.message.specs.AddressSet.{lies_in}
use Rattle.message.proofs.Sets.{lies_whole}
use Rattle.message.proofs.address_set.AddressSet.holds.Goals as goal

pub returns : goal.returns
returns c =
    let s = c.args.self in
    let q = c.args.head in
    let e = c.lies_in.ensures in
    record {
      value = e;
      bytes = λ whole. Decides-at c.lies_in.result (lies_in s.base s.mask q) e (lies_whole s.base s.mask (omega arith) (omega arith) q (omega arith) whole);
    }
