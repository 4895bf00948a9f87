-- Where a request lies on the bench.
use Rattle.std.specs.Prelude.{cond, Some, None, Option}
use Rattle.message.specs.declared.request.RequestHead.{RequestHead}
use Rattle.message.specs.AddressSet.{lies_in}
use Rattle.vetting.specs.declared.address_map.AddressMap.{AddressMap}
use Rattle.vetting.specs.declared.address_map.Region.{Region}
use Rattle.vetting.specs.declared.address_map.Region.TheVariants.{Ram, Mailbox}

-- the region that a request lies in
abbrev pub region_of : AddressMap → RequestHead → Option Region
region_of m q =
    cond (lies_in m.ram.base m.ram.mask q) (Some Ram) (
    cond (lies_in m.mailbox.base m.mailbox.mask q) (Some Mailbox) None)
