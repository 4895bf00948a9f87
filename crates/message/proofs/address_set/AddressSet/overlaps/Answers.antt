use Rattle.std.proofs.Common.{arith}
use Rattle.std.proofs.lemmas.Bool.Decides.{Decides-at}
use Rattle.message.specs.AddressSet.{overlap}
use Rattle.message.proofs.Sets.{overlap_meets}
use Rattle.message.proofs.address_set.AddressSet.overlaps.Goals as goal

pub returns : goal.returns
returns c =
    let a = c.args.self in
    let b = c.args.other in
    record {
      value = c.bases_agree.ensures;
      meet = Decides-at c.bases_agree.result (overlap a.base a.mask b.base b.mask) c.bases_agree.ensures (overlap_meets a.base a.mask b.base b.mask (omega arith) (omega arith) (omega arith) (omega arith) a.apart b.apart);
    }
