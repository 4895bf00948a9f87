-- A request that can be cut.
use Rattle.std.proofs.Common.{length, Ok, Err, Result, refl}
use Rattle.std.specs.Prelude.{IfOk}
use Rattle.message.specs.declared.refusal.Refusal.{Refusal}
use Rattle.message.specs.declared.operation.Operation.{Operation}
use Rattle.message.specs.Request.{Request, Legal, TellsLegal, operation_kinds}
use Rattle.message.proofs.Judged.{legal_long}
use Rattle.message.proofs.Placed.{no_rest}
use Rattle.beat.specs.Channel.{Right}
use Rattle.beat.specs.Request.{request_header}

pub legal_right : (o : Operation) (q : Request) → Legal o q → Right operation_kinds o (request_header q.head) (length q.bytes)
legal_right o q l = record { size = l.size; aligned = no_rest q.head.address q.head.size l.multiple; long = legal_long q o l }

pub right : (q : Request) (r : Result Operation Refusal) → TellsLegal q r → IfOk r (λ o. Right operation_kinds o (request_header q.head) (length q.bytes))
right q (Ok o) t = legal_right o q ((t o).0 refl)
right q (Err e) t = tt
