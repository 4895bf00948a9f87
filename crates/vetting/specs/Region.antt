-- What a region is called.
use Rattle.std.specs.Prelude.{ℕ, List, codes}
use Rattle.vetting.specs.declared.address_map.Region.{Region}
use Rattle.vetting.specs.declared.address_map.Region.TheVariants.{Ram, Mailbox}

-- the name that is printed for a region
abbrev pub name_of : Region → List ℕ
name_of Ram = codes "ram"
name_of Mailbox = codes "mailbox"
