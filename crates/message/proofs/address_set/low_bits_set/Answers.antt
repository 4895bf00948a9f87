use Rattle.std.proofs.Common.{arith, rules}
use Rattle.message.proofs.Sets.{low_ones}
use Rattle.message.proofs.address_set.low_bits_set.Goals as goal

pub returns : goal.returns
returns c = let e = low_ones c.args.mask c.args.count (omega arith) in search rules
