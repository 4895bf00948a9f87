-- Responses, and which of them answer a request.
use Rattle.std.specs.Prelude.{◌≡◌, ℕ, ◌*◌, ◌^◌, ◌≤◌, Bool, true, false, cond, List, [], ◌∷◌, length, replicate, Ok, Err, Result, ◌==◌, nat_le}
use Rattle.std.specs.Option.{ok_or}
use Rattle.std.specs.List.{slice_get}
use Rattle.message.specs.declared.refusal.Refusal.{Refusal}
use Rattle.message.specs.declared.refusal.Refusal.TheVariants as no
use Rattle.message.specs.declared.operation.Operation.{Operation}
use Rattle.message.specs.declared.operation.Operation.TheVariants.{PutFullData, PutPartialData, ArithmeticData, LogicalData, Get, Intent}
use Rattle.message.specs.declared.request.RequestHead.{RequestHead}
use Rattle.message.specs.declared.response.ResponseOpcode.{ResponseOpcode}
use Rattle.message.specs.declared.response.ResponseOpcode.TheVariants.{AccessAck, AccessAckData, HintAck}
use Rattle.message.specs.declared.response.Denial.{Denial}
use Rattle.message.specs.declared.response.ResponseHead.{ResponseHead}
use Rattle.message.specs.Refusal.{unless_refused}
use Rattle.message.specs.Kind.{Kinds, length_of, placed, measured}

-- a response: its head, and the bytes of its data in the order of their addresses
pub record Response : Type 0 where
  pub head : ResponseHead
  pub bytes : List ℕ

-- a head with its data beside it, as calls take them
abbrev pub response : ResponseHead → List ℕ → Response
response head bytes = record { head = head; bytes = bytes }

-- which response a request for the operation gets
abbrev pub response_to : Operation → ResponseOpcode
response_to PutFullData = AccessAck
response_to PutPartialData = AccessAck
response_to (ArithmeticData a) = AccessAckData
response_to (LogicalData l) = AccessAckData
response_to Get = AccessAckData
response_to (Intent p) = HintAck

-- the opcode that a response carries
abbrev pub response_number : ResponseOpcode → ℕ
response_number AccessAck = 0
response_number AccessAckData = 1
response_number HintAck = 2

-- only AccessAckData carries data
abbrev pub response_has_data : ResponseOpcode → Bool
response_has_data AccessAck = false
response_has_data AccessAckData = true
response_has_data HintAck = false

-- the responses, by their opcodes from 0 on
abbrev pub responses : List ResponseOpcode
responses = AccessAck ∷ AccessAckData ∷ HintAck ∷ []

-- the response of an opcode and a param, which is always 0; the opcode is judged first
abbrev pub response_of : ℕ → ℕ → Result ResponseOpcode Refusal
response_of opcode param =
    unless_refused (ok_or (slice_get responses opcode) no.Opcode) (λ k. cond (param == 0) (Ok k) (Err no.Param))

-- a response has any of the seven sizes
abbrev pub response_fits : ResponseOpcode → ℕ → Bool
response_fits k size = nat_le size 6

-- the opcodes of responses as kinds of messages
abbrev pub response_kinds : Kinds ResponseOpcode
response_kinds = record { of = response_of; fits = response_fits; carries = response_has_data }

-- how many bytes of data a response carries
abbrev pub response_length : ResponseOpcode → ℕ → ℕ
response_length = length_of response_kinds

-- the opcode of a response with data of the right length, or the first refusal that applies
unfoldable pub response_checked : Response → Result ResponseOpcode Refusal
response_checked a =
    unless_refused
    (placed response_kinds a.head.opcode a.head.param a.head.size a.head.address)
    (λ k. measured response_kinds k a.head.size (length a.bytes))

-- what it means that a response of the opcode k has a right head, and data of the right length
pub record WholeResponse (k : ResponseOpcode) (a : Response) : Type 0 where
  pub opcode : response_of a.head.opcode a.head.param ≡ Ok k
  pub size : a.head.size ≤ 6
  pub multiple : (n : ℕ) × (a.head.address ≡ n * 2 ^ a.head.size)
  pub whole : length a.bytes ≡ response_length k a.head.size

-- the answer r accepts exactly these, and tells their opcode
abbrev pub TellsWhole : Response → Result ResponseOpcode Refusal → Type 0
TellsWhole a r = (k : ResponseOpcode) → (r ≡ Ok k → WholeResponse k a) × (WholeResponse k a → r ≡ Ok k)

-- what a response that is not denied has for a denial
abbrev pub not_denied : Denial
not_denied = record { cause = 0; place = 0; agent = 0 }

-- what it means that a response is legal: denied data are zeros, and only a denied response has a denial
pub record LegalResponse (k : ResponseOpcode) (a : Response) : Type 0 where
  pub whole : WholeResponse k a
  pub zeros : a.head.denied ≡ true → a.bytes ≡ replicate (length a.bytes) 0
  pub unblamed : a.head.denied ≡ false → a.head.denial ≡ not_denied

-- the response head to a request for the operation o: what it copies, and whether and why it is denied
abbrev pub head_to : Operation → RequestHead → Bool → Denial → ResponseHead
head_to o q denied denial =
    record {
      opcode = response_number (response_to o);
      param = 0;
      size = q.size;
      source = q.source;
      address = q.address;
      denied = denied;
      denial = denial;
    }

-- what it means that a response answers a request for the operation o
pub record Answers (o : Operation) (q : RequestHead) (a : Response) : Type 0 where
  pub opcode : a.head.opcode ≡ response_number (response_to o)
  pub param : a.head.param ≡ 0
  pub size : a.head.size ≡ q.size
  pub source : a.head.source ≡ q.source
  pub address : a.head.address ≡ q.address
  pub whole : length a.bytes ≡ response_length (response_to o) q.size
  pub zeros : a.head.denied ≡ true → a.bytes ≡ replicate (length a.bytes) 0
  pub unblamed : a.head.denied ≡ false → a.head.denial ≡ not_denied

-- two responses are alike when these agree; source, address and denial do not count
pub record HeadsAlike (a b : ResponseHead) : Type 0 where
  pub opcode : a.opcode ≡ b.opcode
  pub size : a.size ≡ b.size
  pub denied : a.denied ≡ b.denied

pub record Alike (a b : Response) : Type 0 where
  pub heads : HeadsAlike a.head b.head
  pub bytes : a.bytes ≡ b.bytes
