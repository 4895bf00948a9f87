use Rattle.std.proofs.Common.{arith}
use Rattle.std.proofs.lemmas.Bool.Decides.{Decides-at}
use Rattle.message.specs.AddressSet.{contains}
use Rattle.message.proofs.Sets.{same_outside}
use Rattle.message.proofs.address_set.AddressSet.contains.Goals as goal

pub returns : goal.returns
returns c =
    let s = c.args.self in
    let e = c.agree_outside.ensures in
    record {
      value = e;
      digits = Decides-at c.agree_outside.result (contains s.base s.mask c.args.address) e (same_outside c.args.address s.base s.mask (omega arith));
    }
