-- Requests, and which of them are legal.
use Rattle.std.specs.Prelude.{◌≡◌, ℕ, ◌-◌, ◌*◌, ◌^◌, ◌<◌, ◌≤◌, Bool, true, false, cond, not, ◌||◌, ◌⊎◌, List, length, Ok, Err, Result, ◌==◌, nat_le, nat_lt}
use Rattle.message.specs.declared.refusal.Refusal.{Refusal}
use Rattle.message.specs.declared.refusal.Refusal.TheVariants as no
use Rattle.message.specs.declared.operation.Operation.{Operation}
use Rattle.message.specs.declared.operation.Operation.TheVariants.{PutFullData, PutPartialData, ArithmeticData, LogicalData, Get, Intent}
use Rattle.message.specs.declared.request.RequestHead.{RequestHead}
use Rattle.message.specs.Bits.{bit}
use Rattle.message.specs.Refusal.{unless_refused}
use Rattle.message.specs.Kind.{Kinds, length_of, placed, measured}
use Rattle.message.specs.Operation.{operation_of, has_data}

-- a request: its head, and the bytes of its data in the order of their addresses
pub record Request : Type 0 where
  pub head : RequestHead
  pub bytes : List ℕ

-- a head with its data beside it, as calls take them
abbrev pub request : RequestHead → List ℕ → Request
request head bytes = record { head = head; bytes = bytes }

-- an atomic operation reads and writes one number of 4 or 8 bytes
abbrev pub atomic : Operation → Bool
atomic PutFullData = false
atomic PutPartialData = false
atomic (ArithmeticData a) = true
atomic (LogicalData l) = true
atomic Get = false
atomic (Intent p) = false

-- only PutPartialData may leave bytes out
abbrev pub partial : Operation → Bool
partial PutFullData = false
partial PutPartialData = true
partial (ArithmeticData a) = false
partial (LogicalData l) = false
partial Get = false
partial (Intent p) = false

-- size is an exponent: a message covers 2 ^ size bytes, at most 64, and an atomic one 4 or 8
abbrev pub size_fits : Operation → ℕ → Bool
size_fits o size = cond (atomic o) (size == 2 || size == 3) (nat_le size 6)

-- the mask with a bit for each byte of a message
abbrev pub whole : ℕ → ℕ
whole size = 2 ^ (2 ^ size) - 1

-- bit i of a mask belongs to byte i of the message: no bit past it, and unless partial every bit of it
abbrev pub mask_fits : Operation → ℕ → ℕ → Bool
mask_fits o size mask = cond (partial o) (nat_lt mask (2 ^ (2 ^ size))) (mask == 2 ^ (2 ^ size) - 1)

-- the operations as kinds of messages
abbrev pub operation_kinds : Kinds Operation
operation_kinds = record { of = operation_of; fits = size_fits; carries = has_data }

-- how many bytes of data a request carries
abbrev pub data_length : Operation → ℕ → ℕ
data_length = length_of operation_kinds

-- the refusals that judge the mask and the data of an operation
abbrev pub filled : Operation → ℕ → ℕ → ℕ → Result Operation Refusal
filled o size mask count = cond (not (mask_fits o size mask)) (Err no.Mask) (measured operation_kinds o size count)

-- the operation of a legal request, or the first refusal that applies
unfoldable pub checked : Request → Result Operation Refusal
checked q =
    unless_refused
    (placed operation_kinds q.head.opcode q.head.param q.head.size q.head.address)
    (λ o. filled o q.head.size q.head.mask (length q.bytes))

-- what it means that a request for the operation o is legal
pub record Legal (o : Operation) (q : Request) : Type 0 where
  pub operation : operation_of q.head.opcode q.head.param ≡ Ok o
  pub size : q.head.size ≤ 6
  pub atomic_size : atomic o ≡ true → (q.head.size ≡ 2) ⊎ (q.head.size ≡ 3)
  pub multiple : (k : ℕ) × (q.head.address ≡ k * 2 ^ q.head.size)
  pub no_bit_above : (i : ℕ) → 2 ^ q.head.size ≤ i → bit q.head.mask i ≡ 0
  pub all_bits_below : partial o ≡ false → (i : ℕ) → i < 2 ^ q.head.size → bit q.head.mask i ≡ 1
  pub whole_data : has_data o ≡ true → length q.bytes ≡ 2 ^ q.head.size
  pub no_data : has_data o ≡ false → length q.bytes ≡ 0

-- the answer r accepts exactly the legal requests, and tells their operation
abbrev pub TellsLegal : Request → Result Operation Refusal → Type 0
TellsLegal q r = (o : Operation) → (r ≡ Ok o → Legal o q) × (Legal o q → r ≡ Ok o)
