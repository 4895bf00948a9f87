-- What there is to say of a request and of a line.
use Rattle.std.specs.Prelude.{Some, None, Ok, Err, Option, Result}
use Rattle.message.specs.declared.operation.Operation.{Operation}
use Rattle.message.specs.declared.refusal.Refusal.{Refusal}
use Rattle.message.specs.Request.{Request, checked}
use Rattle.sheet.specs.Line.{Reading, nothing, request, unreadable}
use Rattle.vetting.specs.declared.address_map.AddressMap.{AddressMap}
use Rattle.vetting.specs.declared.address_map.Region.{Region}
use Rattle.vetting.specs.declared.finding.Finding.{Finding}
use Rattle.vetting.specs.declared.finding.Finding.TheVariants as finding
use Rattle.vetting.specs.declared.finding.Legal.{Legal}
use Rattle.vetting.specs.AddressMap.{region_of}

-- an answer of `check` as a verdict
abbrev pub judgement : Option Region → Result Operation Refusal → Result Legal Refusal
judgement place (Ok o) = Ok (record { operation = o; region = place })
judgement place (Err e) = Err e

-- a request is refused, or has an operation and a region
abbrev pub verdict_of : AddressMap → Request → Result Legal Refusal
verdict_of m q = judgement (region_of m q.head) (checked q)

-- what there is to say of a line, by what the line says
abbrev pub finding_of : AddressMap → Reading → Option Finding
finding_of m nothing = None
finding_of m (request q) = Some (finding.Request q.head (verdict_of m q))
finding_of m (unreadable why) = Some (finding.Unreadable why)
