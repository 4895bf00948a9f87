-- The table of operations.
use Rattle.std.specs.Prelude.{ℕ, Bool, true, false, List, [], ◌∷◌, Some, None, Err, Result}
use Rattle.std.specs.Option.{ok_or}
use Rattle.std.specs.List.{slice_get}
use Rattle.message.specs.declared.refusal.Refusal.{Refusal}
use Rattle.message.specs.declared.refusal.Refusal.TheVariants as no
use Rattle.message.specs.declared.operation.Operation.{Operation}
use Rattle.message.specs.declared.operation.Operation.TheVariants.{PutFullData, PutPartialData, ArithmeticData, LogicalData, Get, Intent}
use Rattle.message.specs.declared.operation.Arithmetic.TheVariants.{Min, Max, MinU, MaxU, Add}
use Rattle.message.specs.declared.operation.Logical.TheVariants.{Xor, Or, And, Swap}
use Rattle.message.specs.declared.operation.Prefetch.TheVariants.{Read, Write}

-- the operations: a row for each opcode from 0 on, in it one for each param from 0 on
abbrev pub operations : List (List Operation)
operations =
    (PutFullData ∷ [])
    ∷ (PutPartialData ∷ [])
    ∷ (ArithmeticData Min ∷ ArithmeticData Max ∷ ArithmeticData MinU ∷ ArithmeticData MaxU ∷ ArithmeticData Add ∷ [])
    ∷ (LogicalData Xor ∷ LogicalData Or ∷ LogicalData And ∷ LogicalData Swap ∷ [])
    ∷ (Get ∷ [])
    ∷ (Intent Read ∷ Intent Write ∷ [])
    ∷ []

-- the operation of an opcode and a param; the opcode is judged first
abbrev pub operation_of : ℕ → ℕ → Result Operation Refusal
operation_of opcode param =
    elim (slice_get operations opcode) [ None ↦ Err no.Opcode | Some row ↦ ok_or (slice_get row param) no.Param ]

-- whether requests for the operation carry data
abbrev pub has_data : Operation → Bool
has_data PutFullData = true
has_data PutPartialData = true
has_data (ArithmeticData a) = true
has_data (LogicalData l) = true
has_data Get = false
has_data (Intent p) = false
