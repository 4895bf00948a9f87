-- The worked cases as one table: on what the product's calls were made, and what they answered.
use Rattle.std.specs.Prelude.{◌≡◌, ℕ, ◌-◌, ◌^◌, Bool, true, false, List, [], replicate, Result}
use Rattle.message.specs.declared.operation.Operation.{Operation}
use Rattle.message.specs.declared.refusal.Refusal.{Refusal}
use Rattle.message.specs.declared.request.RequestHead.{RequestHead}
use Rattle.message.specs.Refusal.{number_of}
use Rattle.message.specs.Request.{request, checked}
use Rattle.message.specs.AddressSet.{contains, overlap}
use Rattle.cases.specs.declared.Cases.{Cases}

-- the verdict on a request, and its number: 0 for a legal one, else its refusal's
pub record Judged (q : RequestHead) (bytes : List ℕ) (n : ℕ) (r : Result Operation Refusal) : Type 0 where
  pub verdict : r ≡ checked (request q bytes)
  pub number : number_of r ≡ n

-- a test and its outcome
pub record Tested (test outcome r : Bool) : Type 0 where
  pub made : r ≡ test
  pub told : r ≡ outcome

-- a Get of size 6
abbrev pub get_64 : ℕ → RequestHead
get_64 address = record { opcode = 4; param = 0; size = 6; source = 0; address = address; mask = 2 ^ 64 - 1 }

-- a Put of size 3 that leaves its first byte out
abbrev pub put_fe : ℕ → RequestHead
put_fe opcode = record { opcode = opcode; param = 0; size = 3; source = 0; address = 0; mask = 0xfe }

pub record Worked (c : Cases) : Type 0 where
  -- a Get of size 6 is legal at address 40, and at 44 the address is refused
  pub get_at_40 : Judged (get_64 0x40) [] 0 c.get_64_at_40
  pub get_at_44 : Judged (get_64 0x44) [] 4 c.get_64_at_44
  -- with size 3 and mask fe, PutPartialData is legal, and of PutFullData the mask is refused
  pub partial_fe : Judged (put_fe 1) (replicate 8 0) 0 c.put_partial_fe
  pub full_fe : Judged (put_fe 0) (replicate 8 0) 5 c.put_full_fe
  -- the set of base 1000 and mask fff contains 1fff and not 2000, and overlaps the set of base 0 and mask 1fff
  pub contains_1fff : Tested (contains 0x1000 0xfff 0x1fff) true c.set_1000_fff_contains_1fff
  pub contains_2000 : Tested (contains 0x1000 0xfff 0x2000) false c.set_1000_fff_contains_2000
  pub overlaps : Tested (overlap 0x1000 0xfff 0 0x1fff) true c.set_1000_fff_overlaps_0_1fff
